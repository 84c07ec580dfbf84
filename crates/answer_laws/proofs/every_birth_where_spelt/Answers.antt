use Rattle.answer_laws.proofs.ScriptTexts.{spelt_births_are_few}
use Rattle.answer_laws.proofs.every_birth_where_spelt.Goals as goal

pub returns : goal.returns
returns c = spelt_births_are_few
