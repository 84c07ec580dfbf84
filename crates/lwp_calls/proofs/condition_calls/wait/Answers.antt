use Rattle.death_cleanup.proofs.Notices.{row-is, row-none}
use Rattle.death_cleanup.proofs.Outcomes.{answers_refused}
use Rattle.death_cleanup.specs.View.{state_of}
use Rattle.lwp_calls.proofs.Conditions.{wait-absent, wait-other}
use Rattle.lwp_calls.proofs.Made.{ComesTo-answers}
use Rattle.lwp_calls.proofs.WaitMoves.{InStep-then, held-of, may-then, monitor-lives, wait-comes, waits_nowhere, waits_room}
use Rattle.lwp_calls.proofs.condition_calls.wait.Goals as goal
use Rattle.lwp_types.specs.Conditions.{condition_of}
use Rattle.lwp_types.specs.MonitorRelease.{lock_of}
use Rattle.lwp_types.specs.declared.call.LwpErr.TheVariants as error
use Rattle.pod_laws.proofs.Waking.{last_owner}
use Rattle.std.proofs.Common.{Some, sym, ◌∙◌, ◌≡◌}

pub returns-in_default-clause-comes : goal.returns-in_default-clause-comes
returns-in_default-clause-comes c = ComesTo-answers (answers_refused c.args.parts.now c.args.effects.now _ error.NonExist c.requires.lawful.step
    (wait-absent (state_of c.args.parts.now) c.args.caller c.args.cond
    (row-none c.args.parts.now.conds.conditions c.args.cond (sym c.monitor_of.ensures ∙ c.in_default.is))))

pub returns-then-not-is_last-clause-comes : goal.returns-then-not-is_last-clause-comes
returns-then-not-is_last-clause-comes c = ComesTo-answers (answers_refused c.args.parts.now c.args.effects.now _ error.NotOwned c.requires.lawful.step
    (wait-other (state_of c.args.parts.now) c.args.caller c.args.cond c.in-Some.mon
    (row-is c.args.parts.now.conds.conditions c.args.cond c.in-Some.mon (sym c.monitor_of.ensures ∙ c.in-Some.is)) (sym c.if-not-is_last.ensures)))

pub depth-depth-requires : goal.depth-depth-requires
depth-depth-requires c = monitor-lives c.args.parts.now c.requires.lawful c.args.cond c.in-Some.mon
    (row-is c.args.parts.now.conds.conditions c.args.cond c.in-Some.mon (sym c.monitor_of.ensures ∙ c.in-Some.is))

pub release-requires-clause-held : goal.release-requires-clause-held
release-requires-clause-held c = held-of c.args.caller (lock_of c.args.parts.now.mons.locks c.in-Some.mon)
    (last_owner (state_of c.args.parts.now) c.args.parts.now.dying c.requires.lawful.nine c.args.caller c.in-Some.mon (sym c.if-not-is_last.ensures))

pub wait-requires-clause-waits_nowhere : goal.wait-requires-clause-waits_nowhere
wait-requires-clause-waits_nowhere c = waits_nowhere c.args.parts.now c.release.new.parts c.args.effects.now c.release.new.effects
    c.requires.lawful c.args.caller c.in-Some.mon c.requires.may_run c.release.ensures.came

pub wait-requires-clause-room : goal.wait-requires-clause-room
wait-requires-clause-room c = waits_room c.args.parts.now c.release.new.parts c.args.effects.now c.release.new.effects c.requires.lawful
    c.args.caller c.in-Some.mon c.requires.may_run c.release.ensures.came

pub block-requires-clause-step : goal.block-requires-clause-step
block-requires-clause-step c = rw c.wait.ensures (InStep-then c.args.parts.now c.release.new.parts c.args.effects.now c.release.new.effects
    c.requires.lawful c.args.caller c.in-Some.mon c.requires.may_run c.release.ensures.came
    c.args.cond c.prio_of-prio.result c.depth-depth.result c.prio_of-prio.ensures)

pub block-requires-clause-may_run : goal.block-requires-clause-may_run
block-requires-clause-may_run c = may-then c.args.parts.now c.release.new.parts c.args.effects.now c.release.new.effects c.requires.lawful
    c.args.caller c.in-Some.mon c.requires.may_run c.release.ensures.came
    c.args.cond c.prio_of-prio.result c.depth-depth.result

pub returns-clause-comes : goal.returns-clause-comes
returns-clause-comes c =
    let found : condition_of c.args.parts.now.conds.conditions c.args.cond
    ≡ Some (record { number = c.args.cond; mon = c.in-Some.mon }) =
    row-is c.args.parts.now.conds.conditions c.args.cond c.in-Some.mon (sym c.monitor_of.ensures ∙ c.in-Some.is) in
    wait-comes c.args.parts.now c.release.new.parts c.args.effects.now c.release.new.effects c.requires.lawful c.args.caller c.in-Some.mon
    c.requires.may_run c.release.ensures.came
    c.args.cond c.prio_of-prio.result c.depth-depth.result found (sym c.if-not-is_last.ensures) c.depth-depth.ensures c.block.new.parts
    (rw c.wait.ensures at c.block.ensures)
