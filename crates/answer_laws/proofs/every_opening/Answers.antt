use Rattle.answer_laws.proofs.Knowing.{null_names_are_known}
use Rattle.answer_laws.proofs.every_opening.Goals as goal

pub returns : goal.returns
returns c = null_names_are_known
