use Rattle.answer_laws.proofs.ScriptTexts.{taken_lines_are_short}
use Rattle.answer_laws.proofs.every_line_taken.Goals as goal

pub returns : goal.returns
returns c = taken_lines_are_short
