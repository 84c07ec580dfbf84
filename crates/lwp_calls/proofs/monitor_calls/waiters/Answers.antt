use Rattle.death_cleanup.proofs.Outcomes.{answers_refused}
use Rattle.death_cleanup.specs.View.{state_of}
use Rattle.lwp_calls.proofs.Made.{Answers-is, told-alone}
use Rattle.lwp_calls.proofs.monitor_calls.waiters.Goals as goal
use Rattle.lwp_types.specs.Case.{unless}
use Rattle.lwp_types.specs.declared.call.LwpErr.TheVariants as error
use Rattle.monitors.proofs.Machine.{waiters_agree}
use Rattle.std.proofs.Common.{[], refl, sym}

pub returns-then-not-is_live-clause-ok : goal.returns-then-not-is_live-clause-ok
unfolding unless
returns-then-not-is_live-clause-ok c =
    told-alone (answers_refused c.args.parts.now [] _ error.NonExist c.requires.step (rw (sym c.if-not-is_live.ensures) refl)) c.args.tid c.done.ensures

pub returns-clause-ok : goal.returns-clause-ok
unfolding unless
returns-clause-ok c = told-alone
    (Answers-is (rw (sym c.if-not-is_live.ensures, waiters_agree c.args.parts.now.mons (state_of c.args.parts.now) c.args.mon) refl) c.requires.step refl)
    c.args.tid (rw c.in_ok-list.ensures at c.tell_ids.ensures)
