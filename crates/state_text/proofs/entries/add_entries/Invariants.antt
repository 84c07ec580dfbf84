use Rattle.std.proofs.Common.{drop, eqb, length, ◌++◌, ◌-◌, ◌≡◌}
use Rattle.std.specs.List.{filter, flat_map}
use Rattle.state_text.proofs.entries.add_entries.Given as goal

abbrev pub invariant-loop-place : goal.invariant-loop-place
invariant-loop-place g l = l.out.items ++ flat_map g.T.Entry.text (filter (λ x. eqb (g.T.Entry.key x) l.key) (drop l.from l.entries))
    ≡ l.initial.out.items ++ flat_map g.T.Entry.text (filter (λ x. eqb (g.T.Entry.key x) l.key) l.entries)

abbrev pub decreases-loop-place : goal.decreases-loop-place
decreases-loop-place g l = length l.entries - l.from
