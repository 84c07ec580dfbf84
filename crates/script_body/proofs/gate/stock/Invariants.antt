use Rattle.script_body.proofs.PlaceLaws.{Shelved}
use Rattle.script_body.proofs.gate.stock.Given as goal

abbrev pub invariant-loop-place : goal.invariant-loop-place
invariant-loop-place l = Shelved l.script l.place l.places l.left.items
