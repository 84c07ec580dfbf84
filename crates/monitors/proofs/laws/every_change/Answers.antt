use Rattle.monitors.proofs.Machine.{births_agree, entries_agree, forgetting_agrees, leaves_agree, releases_agree, requeues_agree, waits_agree}
use Rattle.monitors.proofs.laws.every_change.Goals as goal

pub returns-clause-births : goal.returns-clause-births
returns-clause-births c = births_agree

pub returns-clause-entries : goal.returns-clause-entries
returns-clause-entries c = entries_agree

pub returns-clause-waits : goal.returns-clause-waits
returns-clause-waits c = waits_agree

pub returns-clause-releases : goal.returns-clause-releases
returns-clause-releases c = releases_agree

pub returns-clause-leaves : goal.returns-clause-leaves
returns-clause-leaves c = leaves_agree

pub returns-clause-forgetting : goal.returns-clause-forgetting
returns-clause-forgetting c = forgetting_agrees

pub returns-clause-requeues : goal.returns-clause-requeues
returns-clause-requeues c = requeues_agree
