use Rattle.lwp_serve.proofs.MakerLaws.MadeLaws.{made_spells}
use Rattle.lwp_serve.proofs.maker.laws.made_spells.Goals as goal

pub returns : goal.returns
returns c = made_spells
