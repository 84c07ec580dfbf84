use Rattle.session_cores.specs.Core.{mind_of}
use Rattle.session_cores.specs.CoreCode.{mind_numbers}
use Rattle.std.proofs.Common.{flat_map, length, map, take, ◌++◌, ◌∷◌, ◌≡◌}
use Rattle.session_cores.proofs.cores.put_minds.Given as goal

abbrev pub invariant-loop-row : goal.invariant-loop-row
invariant-loop-row g l =
    l.key ≡ l.fn.key ++ length l.rows ∷ flat_map (mind_numbers g.B.Keyed.numbers) (map mind_of (take l.row-index l.rows))
