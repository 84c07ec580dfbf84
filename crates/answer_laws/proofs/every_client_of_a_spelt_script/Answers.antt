use Rattle.answer_laws.proofs.ScriptTexts.{spelt_clients_are_answered}
use Rattle.answer_laws.proofs.every_client_of_a_spelt_script.Goals as goal

pub returns : goal.returns
returns c = spelt_clients_are_answered
