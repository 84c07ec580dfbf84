use Rattle.lists.proofs.MarkWords.{unmarked-zero}
use Rattle.lists.proofs.event_marks.no_marks.Goals as goal

pub returns : goal.returns
returns c = unmarked-zero
