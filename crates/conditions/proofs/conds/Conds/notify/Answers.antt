use Rattle.conditions.proofs.Lines.{best-line, left-line}
use Rattle.conditions.proofs.conds.Conds.notify.Goals as goal
use Rattle.conditions.specs.ConditionTable.{is_on}
use Rattle.conditions.specs.Waits.{wait_in}
use Rattle.conditions.specs.declared.waits.WaitRec.{WaitRec}
use Rattle.lwp_types.specs.FirstLaws.{finds_best}
use Rattle.std.specs.List.{filter}
use Rattle.std.proofs.Common.{Some, ap, map, sym, ◌∙◌}
use Rattle.std.specs.Prelude.{option_map}

pub returns-in_err-next-clause-value : goal.returns-in_err-next-clause-value
returns-in_err-next-clause-value c =
    let none = best-line c.args.cond c.self.inside.waits.waiting ∙ ap (λ o. option_map wait_in o) (sym (rw c.cond.view_is at c.in_err-next.ensures)) in
    rw (← c.self.view_is) (c.from_residual.ensures ∙ sym none)

pub returns-clause-value : goal.returns-clause-value
returns-clause-value c =
    let some = best-line c.args.cond c.self.inside.waits.waiting ∙ ap (λ o. option_map wait_in o) (sym (rw c.cond.view_is at c.in_ok-next.ensures)) in
    rw (← c.self.view_is) (ap (λ w. Some w) c.rec_of.ensures ∙ sym some)

pub returns-clause-after : goal.returns-clause-after
returns-clause-after c =
    let s = c.self.inside in
    rw (← c.self.view_is, c.leave.ensures, c.rec_of.ensures) (ap (λ us.
    record { conditions = s.rows.items; births = s.births; limit = s.limit; waits = us; places = s.waits.places })
    (left-line c.in_ok-next.next.tid s.waits.waiting))

pub returns-in_err-next-clause-first_best : goal.returns-in_err-next-clause-first_best
returns-in_err-next-clause-first_best c =
    let ws = c.self.inside.waits.waiting in
    let none = best-line c.args.cond ws ∙ ap (λ o. option_map wait_in o) (sym (rw c.cond.view_is at c.in_err-next.ensures)) in
    rw (c.from_residual.ensures, ← c.self.view_is)
    (rw none at (finds_best {A = WaitRec} (λ w. w.prio) (filter (is_on c.args.cond) (map wait_in ws))))

pub returns-clause-first_best : goal.returns-clause-first_best
returns-clause-first_best c =
    let ws = c.self.inside.waits.waiting in
    let some = best-line c.args.cond ws ∙ ap (λ o. option_map wait_in o) (sym (rw c.cond.view_is at c.in_ok-next.ensures)) in
    rw (← c.self.view_is, c.rec_of.ensures)
    (rw some at (finds_best {A = WaitRec} (λ w. w.prio) (filter (is_on c.args.cond) (map wait_in ws))))
