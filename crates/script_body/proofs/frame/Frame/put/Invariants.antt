use Rattle.std.proofs.Common.{length, take, ◌++◌, ◌∷◌, ◌≡◌}
use Rattle.script_body.proofs.frame.Frame.put.Given as goal

abbrev pub invariant-loop-place : goal.invariant-loop-place
invariant-loop-place l =
    l.key ≡ l.fn.key ++ l.self.number ∷ l.self.place ∷ length l.self.handlers ∷ take l.place-index l.self.handlers
