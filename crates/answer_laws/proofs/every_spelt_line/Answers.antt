use Rattle.answer_laws.proofs.ScriptTexts.{spelt_lines_are_short}
use Rattle.answer_laws.proofs.every_spelt_line.Goals as goal

pub returns : goal.returns
returns c = spelt_lines_are_short
