use Rattle.monitors.proofs.Machine.{next_agrees, requests_agree, waiters_agree}
use Rattle.monitors.proofs.laws.every_question.Goals as goal

pub returns-clause-requests : goal.returns-clause-requests
returns-clause-requests c = requests_agree

pub returns-clause-next : goal.returns-clause-next
returns-clause-next c = next_agrees

pub returns-clause-waiters : goal.returns-clause-waiters
returns-clause-waiters c = waiters_agree
