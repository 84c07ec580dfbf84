use Rattle.std.proofs.Common.{length, ◌≡◌, ◌≤◌}
use Rattle.replay.specs.Stock.{AreFrom}
use Rattle.script_text.specs.Script.{lines_posted}
use Rattle.replay.proofs.stock.places_of.Given as goal

abbrev pub invariant-loop-place : goal.invariant-loop-place
invariant-loop-place l = (length l.places.items ≡ length l.script.clients) × (l.place ≤ length (lines_posted l.script))
    × AreFrom (lines_posted l.script) l.place l.places.items

abbrev pub decreases-loop-place : goal.decreases-loop-place
decreases-loop-place l = l.place
