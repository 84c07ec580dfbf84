use Rattle.conditions.proofs.Lines.{any-line}
use Rattle.conditions.proofs.waits.is_waited.Goals as goal
use Rattle.conditions.specs.ConditionTable.{is_on}
use Rattle.std.proofs.Common.{sym, ◌∙◌}

pub returns : goal.returns
returns c = (rw c.cond.view_is at c.has.ensures) ∙ sym (any-line (is_on c.args.cond) c.args.waits.now.waiting)
