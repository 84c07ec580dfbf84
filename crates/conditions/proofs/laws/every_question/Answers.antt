use Rattle.conditions.proofs.Machine.{has_waits_agrees, next_agrees, wait_of_agrees, waited_agrees, waiters_agree, waits_agree}
use Rattle.conditions.proofs.laws.every_question.Goals as goal

pub returns-clause-waited : goal.returns-clause-waited
returns-clause-waited c = waited_agrees

pub returns-clause-has_waits : goal.returns-clause-has_waits
returns-clause-has_waits c = has_waits_agrees

pub returns-clause-waits : goal.returns-clause-waits
returns-clause-waits c = waits_agree

pub returns-clause-waiters : goal.returns-clause-waiters
returns-clause-waiters c = waiters_agree

pub returns-clause-next : goal.returns-clause-next
returns-clause-next c = next_agrees

pub returns-clause-wait_of : goal.returns-clause-wait_of
returns-clause-wait_of c = wait_of_agrees
