use Rattle.lwp_state.specs.Shown.{IsStateOf}
use Rattle.std.specs.Prelude.{nat_lt}
use Rattle.std.proofs.Common.{refl, subst, sym, ◌∙◌}
use Rattle.lwp_state.specs.Along.{moment_at}
use Rattle.lwp_state.proofs.ReplayLaws.{due-of, found-state, found-verdict}
use Rattle.lwp_state.proofs.replaying.told_within.Goals as goal

pub reach_within-requires-clause-due : goal.reach_within-requires-clause-due
reach_within-requires-clause-due c =
    due-of c.args.script.now 100000 c.args.recorded.now c.in_ok-told.ensures.verdict c.in_ok-told.told.taken c.in_ok-told.told.turns c.in_ok-told.ensures.right

pub run_to-requires-clause-due : goal.run_to-requires-clause-due
run_to-requires-clause-due c = c.in_ok-stop.ensures.last.made

pub returns-then-differs_within : goal.returns-then-differs_within
returns-then-differs_within c =
    found-verdict c.args.script.now c.args.recorded.now c.args.lines 100000 c.in_ok-told.told refl c.in_ok-told.ensures
    (sym c.differs_within.ensures ∙ c.if-differs_within.true)

pub returns : goal.returns
returns c =
    found-state c.args.script.now c.args.recorded.now c.args.lines 100000 c.in_ok-told.told c.in_ok-shown.shown
    (moment_at c.in_ok-told.told.taken c.in_ok-stop.stop.reach) refl c.in_ok-told.ensures
    (sym c.differs_within.ensures ∙ c.if-differs_within.false) c.in_ok-stop.ensures.last c.in_ok-shown.ensures.end
    (c.in_ok-shown.ensures.takes ∙ c.in_ok-run.ensures.takes) (c.in_ok-shown.ensures.calls ∙ c.in_ok-run.ensures.calls)
    (subst (λ k. IsStateOf (nat_lt k c.args.lines) c.args.script.now (moment_at c.in_ok-told.told.taken c.in_ok-stop.stop.reach).takes
    c.in_ok-stop.stop.reach.calls c.in_ok-shown.shown.text.items)
    c.in_ok-stop.ensures.lines (rw (sym c.in_ok-run.ensures.takes, sym c.in_ok-run.ensures.calls) c.in_ok-shown.ensures.state))
