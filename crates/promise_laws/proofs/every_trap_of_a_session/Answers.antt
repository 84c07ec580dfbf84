use Rattle.promise_laws.proofs.TrapSteps.{sessions_raise_traps}
use Rattle.promise_laws.proofs.every_trap_of_a_session.Goals as goal

pub returns : goal.returns
returns g c = sessions_raise_traps g.row.B.Denot c.every_step.ensures
