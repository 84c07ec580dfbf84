use Rattle.conditions.proofs.RowLaws.{without_found, without_none}
use Rattle.conditions.proofs.rows.take_out.Goals as goal
use Rattle.std.proofs.Common.{sym, ◌∙◌}

pub returns-in-Some : goal.returns-in-Some
returns-in-Some c = c.remove.ensures.items
    ∙ without_found c.args.rows.now.items c.args.cond c.in-Some.at c.requires (rw c.deref.ensures.value at c.in-Some.ensures.some)

pub returns-in_default : goal.returns-in_default
returns-in_default c = sym (without_none c.args.rows.now.items c.args.cond (rw c.deref.ensures.value at c.in_default.ensures.none))
