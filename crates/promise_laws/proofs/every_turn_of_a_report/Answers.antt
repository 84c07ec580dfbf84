use Rattle.promise_laws.proofs.ReportSteps.{reports_come_in_turn}
use Rattle.promise_laws.proofs.every_turn_of_a_report.Goals as goal

pub returns : goal.returns
returns g c = reports_come_in_turn g.row.B.Denot c.every_step.ensures
