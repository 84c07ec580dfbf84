use Rattle.pod_laws.proofs.Fading.{the_gone_stay_gone}
use Rattle.pod_laws.proofs.every_number.Goals as goal

pub returns : goal.returns
returns c = the_gone_stay_gone
