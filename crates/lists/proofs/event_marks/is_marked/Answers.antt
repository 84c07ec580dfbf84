use Rattle.lists.proofs.MarkWords.{unmarked-above}
use Rattle.lists.proofs.event_marks.is_marked.Goals as goal
use Rattle.std.proofs.Common.{sym, ◌∙◌}
use Rattle.std.proofs.lemmas.Bool.{le-ltb}

pub returns-else-event-lt64 : goal.returns-else-event-lt64
returns-else-event-lt64 c = le-ltb c.args.event 64 c.if-event-lt64.false
    ∙ sym (unmarked-above c.args.word c.args.event c.ranges.word.fits c.if-event-lt64.false)
