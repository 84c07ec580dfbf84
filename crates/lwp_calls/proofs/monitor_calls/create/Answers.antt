use Rattle.lwp_calls.proofs.Made.{Answers-is, told-alone}
use Rattle.lwp_calls.proofs.MonitorAndConditionBirths.{InStep-monitor, monitor-none, monitor-some}
use Rattle.lwp_calls.proofs.monitor_calls.create.Goals as goal
use Rattle.std.proofs.Common.{refl, sym, ◌∙◌}

pub returns-in_default-clause-ok : goal.returns-in_default-clause-ok
returns-in_default-clause-ok c =
    rw c.in_ok-mon.ensures.ok (told-alone (Answers-is (monitor-none c.args.parts.now c.requires.step
    (sym c.in_default.is ∙ c.in_ok-mon.ensures.value)) (InStep-monitor c.args.parts.now c.requires.step) refl) c.args.tid c.done.ensures)

pub returns-clause-ok : goal.returns-clause-ok
returns-clause-ok c = rw c.in_ok-mon.ensures.ok (told-alone (Answers-is
    (monitor-some c.args.parts.now c.requires.step c.in-Some.mon (sym c.in-Some.is ∙ c.in_ok-mon.ensures.value))
    (InStep-monitor c.args.parts.now c.requires.step) refl) c.args.tid c.answered.ensures)
