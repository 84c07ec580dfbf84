use Rattle.std.proofs.Common.{◌≡◌, ◌++◌, ◌∷◌, drop}
use Rattle.std.specs.List.{flat_map}
use Rattle.script_advice.specs.Forms.{slot_word}
use Rattle.script_advice.proofs.forms.add_slots.Given as goal

abbrev pub invariant-loop-kind : goal.invariant-loop-kind
invariant-loop-kind l = l.out.items ++ flat_map (λ k. 32 ∷ slot_word l.op k) (drop l.kind-index l.kinds)
    ≡ l.initial.out.items ++ flat_map (λ k. 32 ∷ slot_word l.op k) l.kinds
