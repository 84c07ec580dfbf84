use Rattle.answer_laws.proofs.Knowing.{names_are_of_the_born}
use Rattle.answer_laws.proofs.every_name.Goals as goal

pub returns : goal.returns
returns c = names_are_of_the_born
