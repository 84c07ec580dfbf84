use Rattle.death_cleanup.proofs.Locking.{InStep-exited, exit-absent, exit-other, exit-own, exited-is, leaver-waits}
use Rattle.death_cleanup.proofs.Outcomes.{answers_refused, answers_zero, came_as}
use Rattle.death_cleanup.proofs.monitor_releases.monitor_exit.Goals as goal
use Rattle.death_cleanup.specs.View.{state_of}
use Rattle.lwp_types.specs.Monitors.{after_exit}
use Rattle.lwp_types.specs.declared.call.LwpErr.TheVariants as error
use Rattle.monitors.specs.Machine.{with_owner}
use Rattle.std.proofs.Common.{refl, sym, ◌≡◌}

pub returns-then-not-is_live : goal.returns-then-not-is_live
returns-then-not-is_live c = record {
  answers = answers_refused c.args.parts.now c.args.effects.now _ error.NonExist c.requires.lawful.step
      (exit-absent (state_of c.args.parts.now) c.args.tid c.args.mon (sym c.if-not-is_live.ensures));
}

pub returns-then-not-holds : goal.returns-then-not-holds
returns-then-not-holds c = record {
  answers = answers_refused c.args.parts.now c.args.effects.now _ error.InvalidArg c.requires.lawful.step
      (exit-other (state_of c.args.parts.now) c.args.tid c.args.mon (sym c.if-not-is_live.ensures) (sym c.if-not-holds.ensures));
}

pub go_on-requires-clause-step : goal.go_on-requires-clause-step
go_on-requires-clause-step c = rw c.exit-next.ensures.after (InStep-exited c.args.parts.now c.requires.lawful.step c.args.mon)

pub go_on-requires-clause-waits : goal.go_on-requires-clause-waits
go_on-requires-clause-waits c = leaver-waits c.args.parts.now c.requires.lawful c.args.mon c.exit-next.result c.exit-next.ensures.value

pub returns : goal.returns
returns c =
    let is : after_exit c.args.mon (state_of c.args.parts.now)
    ≡ with_owner c.exit-next.result (state_of (record c.args.parts.now { mons = c.exit-next.new.self })) =
    rw c.exit-next.ensures.after (exited-is c.args.parts.now c.requires.lawful.step c.args.mon c.exit-next.result c.exit-next.ensures.value) in
    record {
      answers = answers_zero _ _ _ _ (after_exit c.args.mon (state_of c.args.parts.now)) _ (came_as _ _ _ _ _ _ _ c.go_on.ensures.came refl is)
          (exit-own (state_of c.args.parts.now) c.args.tid c.args.mon (sym c.if-not-is_live.ensures) (sym c.if-not-holds.ensures));
    }
