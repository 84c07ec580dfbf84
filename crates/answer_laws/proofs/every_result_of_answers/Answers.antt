use Rattle.answer_laws.proofs.Results.{answers_are_first}
use Rattle.answer_laws.proofs.every_result_of_answers.Goals as goal

pub returns : goal.returns
returns c = answers_are_first
