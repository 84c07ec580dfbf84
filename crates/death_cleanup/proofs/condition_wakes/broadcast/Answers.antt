use Rattle.conditions.specs.ConditionTable.{after_wake, first_wait, waits_on}
use Rattle.death_cleanup.proofs.Asking.{may-ask}
use Rattle.death_cleanup.proofs.Notices.{Broadcasting-next, all-woken, begins-all, fewer-wait, now, row-is, row-none, waking-absent, waking-made, waking-other}
use Rattle.death_cleanup.proofs.Outcomes.{answers_quietly, answers_refused}
use Rattle.death_cleanup.proofs.condition_wakes.broadcast.Goals as goal
use Rattle.death_cleanup.specs.View.{state_of}
use Rattle.lwp_types.specs.Case.{unless, value_case}
use Rattle.lwp_types.specs.Conditions.{condition_of}
use Rattle.lwp_types.specs.Unblock.{zero_answer}
use Rattle.lwp_types.specs.declared.call.LwpErr.TheVariants as error
use Rattle.std.proofs.Common.{None, Some, [], ap, refl, sym, ◌∙◌, ◌≡◌}

pub returns-in_default : goal.returns-in_default
returns-in_default c = record {
  answers = answers_refused c.args.parts.now [] _ error.NonExist c.requires.lawful.step (waking-absent (state_of c.args.parts.now)
      c.args.tid c.args.cond [] _ (row-none c.args.parts.now.conds.conditions c.args.cond (sym c.monitor_of.ensures ∙ c.in_default.is)));
}

pub returns-then-not-is_last : goal.returns-then-not-is_last
returns-then-not-is_last c = record {
  answers = answers_refused c.args.parts.now [] _ error.NotOwned c.requires.lawful.step
      (waking-other (state_of c.args.parts.now) c.args.tid c.args.cond [] _ c.in-Some.mon
      (row-is c.args.parts.now.conds.conditions c.args.cond c.in-Some.mon (sym c.monitor_of.ensures ∙ c.in-Some.is)) (sym c.if-not-is_last.ensures));
}

pub loop-wait-init : goal.loop-wait-init
loop-wait-init c =
    let found : condition_of c.args.parts.now.conds.conditions c.args.cond
    ≡ Some (record { number = c.args.cond; mon = c.in-Some.mon }) =
    row-is c.args.parts.now.conds.conditions c.args.cond c.in-Some.mon (sym c.monitor_of.ensures ∙ c.in-Some.is) in
    record {
      caller = c.args.tid;
      left = begins-all c.args.parts.now c.requires.lawful c.args.tid c.args.cond c.in-Some.mon found (sym c.if-not-is_last.ensures);
      dying = refl;
      state = refl;
    }

pub ask_again-requires : goal.ask_again-requires
ask_again-requires c =
    let first : first_wait c.loop-wait.parts.conds c.args.cond ≡ Some c.in-Some-broadcast.wait = sym c.broadcast.ensures.value ∙ c.in-Some-broadcast.is in
    may-ask c.loop-wait.parts c.loop-wait.invariant.caller c.args.cond c.in-Some.mon c.in-Some-broadcast.wait
    (waits_on (after_wake c.loop-wait.parts.conds (Some c.in-Some-broadcast.wait)) c.args.cond)
    (now c.args.cond c.in-Some.mon c.args.parts.now c.loop-wait.parts c.loop-wait.invariant c.in-Some-broadcast.wait first)

pub loop-wait-smaller : goal.loop-wait-smaller
loop-wait-smaller c =
    let first : first_wait c.loop-wait.parts.conds c.args.cond ≡ Some c.in-Some-broadcast.wait = sym c.broadcast.ensures.value ∙ c.in-Some-broadcast.is in
    rw (c.ask_again.ensures, c.broadcast.ensures.after, c.in-Some-broadcast.is)
    (fewer-wait c.args.cond c.in-Some.mon c.args.parts.now c.loop-wait.parts c.loop-wait.invariant c.in-Some-broadcast.wait first)

pub loop-wait-preserved : goal.loop-wait-preserved
loop-wait-preserved c =
    let first : first_wait c.loop-wait.parts.conds c.args.cond ≡ Some c.in-Some-broadcast.wait = sym c.broadcast.ensures.value ∙ c.in-Some-broadcast.is in
    rw (c.ask_again.ensures, c.broadcast.ensures.after, c.in-Some-broadcast.is)
    (Broadcasting-next c.args.cond c.in-Some.mon c.args.parts.now c.loop-wait.parts c.loop-wait.invariant c.in-Some-broadcast.wait first)

pub returns : goal.returns
unfolding unless
returns c =
    let found : condition_of c.args.parts.now.conds.conditions c.args.cond
    ≡ Some (record { number = c.args.cond; mon = c.in-Some.mon }) =
    row-is c.args.parts.now.conds.conditions c.args.cond c.in-Some.mon (sym c.monitor_of.ensures ∙ c.in-Some.is) in
    let none : first_wait c.loop-wait.parts.conds c.args.cond ≡ None = sym c.broadcast.ensures.value ∙ c.in_default-broadcast.is in
    record {
      answers = rw (c.broadcast.ensures.after, c.in_default-broadcast.is)
          (answers_quietly c.args.parts.now c.loop-wait.parts [] _ zero_answer c.loop-wait.invariant.left.step c.loop-wait.invariant.dying
          (waking-made (state_of c.args.parts.now) c.args.tid c.args.cond [] _ c.in-Some.mon found (sym c.if-not-is_last.ensures)
          ∙ ap (λ s. value_case s 0) (all-woken c.args.cond c.in-Some.mon c.args.parts.now c.loop-wait.parts c.loop-wait.invariant none)));
    }
