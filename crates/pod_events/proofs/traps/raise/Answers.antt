use Rattle.lwp_types.specs.Lawful.{Lawful}
use Rattle.pod_events.proofs.traps.raise.Goals.{in-Given+in_ok-make-in-Given, in-Caught, in-Unheard}
use Rattle.pod_events.proofs.traps.raise.Goals as goal
use Rattle.std.proofs.Common.{None, subst, sym}

pub returns-clause-lawful : goal.returns-clause-lawful
returns-clause-lawful g c = elim c.match-notify.branch [
  | in-Given+in_ok-make-in-Given w ↦ subst (λ m. Lawful (g.M.Machine.state m) None) (sym w.machine-is) w.make.ensures.lawful
  | in-Caught w ↦ subst (λ m. Lawful (g.M.Machine.state m) None) (sym w.machine-is) c.notify.ensures.lawful
  | in-Unheard w ↦ subst (λ m. Lawful (g.M.Machine.state m) None) (sym w.machine-is) w.kill.ensures.lawful
]
