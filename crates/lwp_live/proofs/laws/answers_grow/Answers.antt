use Rattle.lwp_live.proofs.Told.{answers_grow}
use Rattle.lwp_live.proofs.laws.answers_grow.Goals as goal

pub returns : goal.returns
returns c = answers_grow
