use Rattle.session_laws.proofs.Silence.{the_dead_run_nothing}
use Rattle.session_laws.proofs.every_step_after_a_death.Goals as goal

pub returns : goal.returns
returns g c = the_dead_run_nothing g.row.B.Denot
