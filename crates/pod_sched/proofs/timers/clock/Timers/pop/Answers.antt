use Rattle.lwp_types.specs.Time.{is_due}
use Rattle.lwp_types.specs.declared.rows.TimerRow.{TimerRow}
use Rattle.std.proofs.Common.{ap, option_map, refl, rules, sym, ◌∙◌}
use Rattle.pod_sched.proofs.TimerLaws.ClockLemmas.{due_row, leaf_has, leaf_in, none_due, popped_leaf, popped_none, timed}
use Rattle.pod_sched.proofs.timers.clock.Timers.pop.Goals as goal

pub returns-in_err-leaf-clause-value : goal.returns-in_err-leaf-clause-value
returns-in_err-leaf-clause-value c =
    let none = none_due c.self.inside.shelf.leaves c.self.inside.now (sym c.first_due.ensures ∙ c.in_err-leaf.was) in
    rw (← c.self.view_is, none) (search rules)

pub returns-in_err-leaf-clause-after : goal.returns-in_err-leaf-clause-after
returns-in_err-leaf-clause-after c =
    let same = popped_none c.self.inside.shelf.leaves c.self.inside.now (sym c.first_due.ensures ∙ c.in_err-leaf.was) in
    rw (← c.self.view_is, same) refl

pub take-requires : goal.take-requires
take-requires c = leaf_in c.self.inside.shelf.leaves c.in_ok-leaf.leaf (is_due c.self.inside.now) (sym c.first_due.ensures ∙ c.in_ok-leaf.was)

pub returns-in_err-row-clause-value : goal.returns-in_err-row-clause-value
returns-in_err-row-clause-value c = absurd (leaf_has c.self.inside.shelf.leaves c.in_ok-leaf.leaf (is_due c.self.inside.now)
    (sym c.first_due.ensures ∙ c.in_ok-leaf.was) (sym c.take.ensures.value ∙ c.in_err-row.was))

pub returns-in_err-row-clause-after : goal.returns-in_err-row-clause-after
returns-in_err-row-clause-after c = absurd (leaf_has c.self.inside.shelf.leaves c.in_ok-leaf.leaf (is_due c.self.inside.now)
    (sym c.first_due.ensures ∙ c.in_ok-leaf.was) (sym c.take.ensures.value ∙ c.in_err-row.was))

pub returns-clause-value : goal.returns-clause-value
returns-clause-value c =
    let found = due_row c.self.inside.shelf.leaves c.in_ok-leaf.leaf c.self.inside.now c.in_ok-row.row
    (sym c.first_due.ensures ∙ c.in_ok-leaf.was) (sym c.take.ensures.value ∙ c.in_ok-row.was) in
    rw (← c.self.view_is) (sym (ap (option_map (λ (row : TimerRow). row.tid)) found))

pub returns-clause-after : goal.returns-clause-after
returns-clause-after c =
    let gone = popped_leaf c.self.inside.shelf.leaves c.in_ok-leaf.leaf c.take.ensures.once c.self.inside.now c.in_ok-row.row
    (sym c.first_due.ensures ∙ c.in_ok-leaf.was) (sym c.take.ensures.value ∙ c.in_ok-row.was) in
    rw (c.take.ensures.after, ← c.self.view_is) (ap (timed c.self.inside.now c.self.inside.places) gone)
