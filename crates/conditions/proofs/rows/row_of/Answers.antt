use Rattle.conditions.proofs.RowLaws.{found_at}
use Rattle.conditions.proofs.rows.row_of.Goals as goal
use Rattle.lwp_types.specs.Conditions.{is_condition}
use Rattle.lwp_types.specs.CountLaws.{find_none}
use Rattle.std.proofs.Common.{Some, ap, sym, ◌∙◌}

pub returns-in_err-at : goal.returns-in_err-at
returns-in_err-at c = c.from_residual.ensures ∙ sym (find_none (is_condition c.args.cond) c.args.rows.now c.in_err-at.ensures.none)

pub returns : goal.returns
returns c =
    let here = c.in_ok-at.ensures.some in
    ap Some c.index-rows-at.is
    ∙ sym (found_at c.args.rows.now c.args.cond c.in_ok-at.at c.index-rows-at.result c.requires here.within (here.here c.index-rows-at.result))
