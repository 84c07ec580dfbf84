use Rattle.conditions.proofs.Lines.{any-line}
use Rattle.conditions.proofs.conds.Conds.wait.Goals as goal
use Rattle.conditions.specs.ConditionTable.{is_wait_of}
use Rattle.std.proofs.Common.{sym, ◌∙◌}

pub join-requires-clause-waits_nowhere : goal.join-requires-clause-waits_nowhere
join-requires-clause-waits_nowhere c =
    rw (← c.wait.view_is) at (sym (any-line (is_wait_of c.args.wait.tid) c.self.inside.waits.waiting) ∙ (rw (← c.self.view_is) at c.requires.waits_nowhere))
