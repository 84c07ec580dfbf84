use Rattle.answer_laws.proofs.rows.threads_that_wait.Goals as goal
use Rattle.std.proofs.Common.{refl}

pub returns : goal.returns
returns c = (refl, refl, refl, refl)
