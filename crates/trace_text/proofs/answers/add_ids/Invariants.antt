use Rattle.std.proofs.Common.{◌≡◌, ◌<◌, ℕ, [], ◌∷◌, ◌++◌, drop, length, take}
use Rattle.std.specs.List.{flat_map}
use Rattle.trace_text.specs.Lines.{id_text}
use Rattle.trace_text.proofs.answers.add_ids.Given as goal

abbrev pub invariant-loop-i : goal.invariant-loop-i
invariant-loop-i l = (take l.end l.row.items ++ flat_map (λ (n : ℕ). 32 ∷ id_text (l.letter ∷ []) n) (drop l.i l.list)
    ≡ take l.at l.initial.row.items ++ flat_map (λ (n : ℕ). 32 ∷ id_text (l.letter ∷ []) n) l.list)
    × (l.end < length l.row.items)
