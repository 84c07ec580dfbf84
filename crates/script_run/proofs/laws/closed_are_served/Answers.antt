use Rattle.script_run.proofs.Served.{closed_are_served}
use Rattle.script_run.proofs.laws.closed_are_served.Goals as goal

pub returns : goal.returns
returns c = closed_are_served
