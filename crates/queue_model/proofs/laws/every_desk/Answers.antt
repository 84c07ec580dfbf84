use Rattle.queue_model.proofs.NotesLaws.{desks-tell}
use Rattle.queue_model.proofs.laws.every_desk.Goals as goal

pub returns : goal.returns
returns c = λ customers room width gaps answers. desks-tell customers room width gaps answers
