use Rattle.answer_laws.proofs.Knowing.{sessions_send_to_the_born}
use Rattle.answer_laws.proofs.every_send_of_a_session.Goals as goal

pub returns : goal.returns
returns c = sessions_send_to_the_born
