use Rattle.pod_laws.proofs.Absent.{exits_refuse_the_absent}
use Rattle.pod_laws.proofs.every_absent_of_an_exit.Goals as goal

pub returns : goal.returns
returns c = exits_refuse_the_absent
