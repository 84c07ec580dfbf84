use Rattle.answer_laws.proofs.Lengths.{short_lines_have_short_answers}
use Rattle.answer_laws.proofs.every_answer.Goals as goal

pub returns : goal.returns
returns c = short_lines_have_short_answers
