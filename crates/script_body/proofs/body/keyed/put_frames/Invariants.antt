use Rattle.script_body.specs.BodyKeys.{frame_numbers}
use Rattle.std.proofs.Common.{flat_map, length, take, ◌++◌, ◌∷◌, ◌≡◌}
use Rattle.script_body.proofs.body.keyed.put_frames.Given as goal

abbrev pub invariant-loop-frame : goal.invariant-loop-frame
invariant-loop-frame l = l.key ≡ l.fn.key ++ length l.frames.items ∷ flat_map frame_numbers (take l.frame-index l.frames.items)
