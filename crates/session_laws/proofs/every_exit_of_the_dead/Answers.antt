use Rattle.session_laws.proofs.ExitLaws.{the_dead_have_run_their_exits}
use Rattle.session_laws.proofs.every_exit_of_the_dead.Goals as goal

pub returns : goal.returns
returns g c = the_dead_have_run_their_exits g.row.B.Denot
