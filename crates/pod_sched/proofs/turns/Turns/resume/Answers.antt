use Rattle.pod_sched.proofs.OpLemmas.{resume_free, resume_nothing, resume_waiting}
use Rattle.pod_sched.proofs.turns.Turns.resume.Goals as goal
use Rattle.std.proofs.Common.{◌∙◌}

pub returns-then-row : goal.returns-then-row
returns-then-row c = c.put_out.ensures
    ∙ resume_waiting c.args.self.now c.args.tid c.row-row.result c.row-row.ensures.ordered c.row-row.ensures.value c.if-row.true

pub returns-then-row-2 : goal.returns-then-row-2
returns-then-row-2 c = c.put_back.ensures
    ∙ resume_free c.args.self.now c.args.tid c.row-row.result c.row-row.ensures.ordered c.row-row.ensures.value c.if-row.false c.if-row-2.true

pub returns-else-row-2 : goal.returns-else-row-2
returns-else-row-2 c = resume_nothing c.args.self.now c.args.tid c.row-row.result c.row-row.ensures.ordered c.row-row.ensures.value c.if-row-2.false
