use Rattle.lwp_live.proofs.SpeltLaws.{recorded_spelt}
use Rattle.lwp_live.proofs.laws.recorded_spelt.Goals as goal

pub returns : goal.returns
returns c = recorded_spelt
