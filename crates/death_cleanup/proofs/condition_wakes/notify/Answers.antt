use Rattle.death_cleanup.proofs.Asking.{InStep-signalled, may-ask}
use Rattle.death_cleanup.proofs.Notices.{begins-best, best-ranked, notify-none, notify-one, row-is, row-none, waking-absent, waking-other}
use Rattle.death_cleanup.proofs.Outcomes.{answers_quietly, answers_refused}
use Rattle.death_cleanup.proofs.condition_wakes.notify.Goals as goal
use Rattle.death_cleanup.specs.Moves.{after_signal}
use Rattle.death_cleanup.specs.View.{state_of}
use Rattle.lwp_types.specs.Conditions.{condition_of}
use Rattle.lwp_types.specs.Unblock.{zero_answer}
use Rattle.lwp_types.specs.declared.call.LwpErr.TheVariants as error
use Rattle.std.proofs.Common.{Some, [], refl, sym, ◌∙◌, ◌≡◌}

pub returns-in_default : goal.returns-in_default
returns-in_default c = record {
  answers = answers_refused c.args.parts.now [] _ error.NonExist c.requires.lawful.step (waking-absent (state_of c.args.parts.now)
      c.args.tid c.args.cond [] _ (row-none c.args.parts.now.conds.conditions c.args.cond (sym c.monitor_of.ensures ∙ c.in_default.is)));
}

pub returns-then-not-is_last : goal.returns-then-not-is_last
returns-then-not-is_last c = record {
  answers = answers_refused c.args.parts.now [] _ error.NotOwned c.requires.lawful.step
      (waking-other (state_of c.args.parts.now) c.args.tid c.args.cond [] _ c.in-Some.mon
      (row-is c.args.parts.now.conds.conditions c.args.cond c.in-Some.mon (sym c.monitor_of.ensures ∙ c.in-Some.is)) (sym c.if-not-is_last.ensures));
}

pub returns-in_default-notify : goal.returns-in_default-notify
returns-in_default-notify c =
    let found : condition_of c.args.parts.now.conds.conditions c.args.cond
    ≡ Some (record { number = c.args.cond; mon = c.in-Some.mon }) =
    row-is c.args.parts.now.conds.conditions c.args.cond c.in-Some.mon (sym c.monitor_of.ensures ∙ c.in-Some.is) in
    record {
      answers = rw (c.notify.ensures.after, c.in_default-notify.is)
          (answers_quietly c.args.parts.now c.args.parts.now [] _ zero_answer c.requires.lawful.step refl
          (notify-none c.args.parts.now c.requires.lawful c.args.tid c.args.cond c.in-Some.mon found (sym c.if-not-is_last.ensures)
          (sym c.in_default-notify.is ∙ c.notify.ensures.value)));
    }

pub ask_again-requires : goal.ask_again-requires
ask_again-requires c =
    let found : condition_of c.args.parts.now.conds.conditions c.args.cond
    ≡ Some (record { number = c.args.cond; mon = c.in-Some.mon }) =
    row-is c.args.parts.now.conds.conditions c.args.cond c.in-Some.mon (sym c.monitor_of.ensures ∙ c.in-Some.is) in
    may-ask c.args.parts.now c.args.tid c.args.cond c.in-Some.mon c.in-Some-notify.wait []
    (begins-best c.args.parts.now c.requires.lawful c.args.tid c.args.cond c.in-Some.mon found (sym c.if-not-is_last.ensures)
    (Some c.in-Some-notify.wait) (sym c.in-Some-notify.is ∙ c.notify.ensures.value))

pub returns : goal.returns
returns c =
    let found : condition_of c.args.parts.now.conds.conditions c.args.cond
    ≡ Some (record { number = c.args.cond; mon = c.in-Some.mon }) =
    row-is c.args.parts.now.conds.conditions c.args.cond c.in-Some.mon (sym c.monitor_of.ensures ∙ c.in-Some.is) in
    let next = sym c.in-Some-notify.is ∙ c.notify.ensures.value in
    record {
      answers = rw (c.ask_again.ensures, c.notify.ensures.after, c.in-Some-notify.is)
          (answers_quietly c.args.parts.now (after_signal c.args.parts.now c.in-Some.mon c.in-Some-notify.wait) [] _ zero_answer
          (InStep-signalled c.args.parts.now c.args.tid c.args.cond c.in-Some.mon c.in-Some-notify.wait []
          (begins-best c.args.parts.now c.requires.lawful c.args.tid c.args.cond c.in-Some.mon found (sym c.if-not-is_last.ensures)
          (Some c.in-Some-notify.wait) next)
          (best-ranked c.args.parts.now c.requires.lawful.step c.args.cond c.in-Some-notify.wait next)) refl
          (notify-one c.args.parts.now c.requires.lawful c.args.tid c.args.cond c.in-Some.mon found (sym c.if-not-is_last.ensures) c.in-Some-notify.wait next));
    }
