use Rattle.promise_laws.proofs.ReportSteps.{sessions_report_deaths}
use Rattle.promise_laws.proofs.every_report_of_a_session.Goals as goal

pub returns : goal.returns
returns g c = sessions_report_deaths g.row.B.Denot c.every_step.ensures
