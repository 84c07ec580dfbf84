use Rattle.pod_laws.proofs.Absent.{cond_send_refuses_the_absent}
use Rattle.pod_laws.proofs.every_absent_of_a_condition.Goals as goal

pub returns : goal.returns
returns c = cond_send_refuses_the_absent
