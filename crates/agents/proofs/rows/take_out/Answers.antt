use Rattle.agents.proofs.Standing.{absent_kept, agent_there, removed_there}
use Rattle.agents.proofs.rows.take_out.Goals as goal
use Rattle.std.proofs.Common.{◌∙◌}

pub returns-in_err-at-clause-items : goal.returns-in_err-at-clause-items
returns-in_err-at-clause-items c = absent_kept c.args.agent c.args.rows.now.items (rw c.deref.ensures.value at c.in_err-at.ensures.absent)

pub returns-clause-value : goal.returns-clause-value
returns-clause-value c =
    let at = rw c.deref.ensures.value at c.in_ok-at.ensures.found in
    let row = c.remove.result in
    rw c.remove.ensures.value (agent_there c.args.agent c.args.rows.now.items c.in_ok-at.at row c.requires at.within (at.number row))

pub returns-clause-items : goal.returns-clause-items
returns-clause-items c =
    let at = rw c.deref.ensures.value at c.in_ok-at.ensures.found in
    let row = c.remove.result in
    c.remove.ensures.items ∙ removed_there c.args.agent c.args.rows.now.items c.in_ok-at.at row c.requires at.within (at.number row)
