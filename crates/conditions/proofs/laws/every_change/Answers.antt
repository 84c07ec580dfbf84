use Rattle.conditions.proofs.Machine.{forgetting_agrees, requeues_agree, waiting_agrees, waking_agrees}
use Rattle.conditions.proofs.laws.every_change.Goals as goal

pub returns-clause-waking : goal.returns-clause-waking
returns-clause-waking c = waking_agrees

pub returns-clause-forgetting : goal.returns-clause-forgetting
returns-clause-forgetting c = forgetting_agrees

pub returns-clause-waiting : goal.returns-clause-waiting
returns-clause-waiting c = waiting_agrees

pub returns-clause-requeues : goal.returns-clause-requeues
returns-clause-requeues c = requeues_agree
