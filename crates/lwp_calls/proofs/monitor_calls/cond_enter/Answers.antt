use Rattle.death_cleanup.proofs.Outcomes.{answers_refused}
use Rattle.death_cleanup.specs.View.{state_of}
use Rattle.lwp_calls.proofs.Entering.{cond-absent, cond-other, cond-own}
use Rattle.lwp_calls.proofs.monitor_calls.cond_enter.Goals as goal
use Rattle.lwp_types.specs.declared.call.LwpErr.TheVariants as error
use Rattle.std.proofs.Common.{[], sym}

pub returns-then-not-is_live : goal.returns-then-not-is_live
returns-then-not-is_live c = answers_refused c.args.parts.now [] _ error.NonExist c.requires.step
    (cond-absent (state_of c.args.parts.now) c.args.caller c.args.mon (sym c.if-not-is_live.ensures))

pub returns-then-is_others : goal.returns-then-is_others
returns-then-is_others c = answers_refused c.args.parts.now [] _ error.InUse c.requires.step
    (cond-other (state_of c.args.parts.now) c.args.caller c.args.mon (sym c.if-not-is_live.ensures) (sym c.if-is_others.ensures))

pub returns : goal.returns
returns c = rw (cond-own (state_of c.args.parts.now) c.args.caller c.args.mon (sym c.if-not-is_live.ensures) (sym c.if-is_others.ensures)) c.go_in.ensures
