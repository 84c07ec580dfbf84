use Rattle.std.proofs.Common.{flat_map, length, take, ◌++◌, ◌∷◌, ◌≡◌}
use Rattle.session_cores.proofs.part.put_list.Given as goal

abbrev pub invariant-loop-item : goal.invariant-loop-item
invariant-loop-item g l = l.key ≡ l.fn.key ++ length l.items ∷ flat_map g.T.Part.part (take l.item-index l.items)
