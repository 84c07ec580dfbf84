use Rattle.agents.proofs.Standing.{absent_held, agent_there, held_there}
use Rattle.agents.proofs.rows.set_holding.Goals as goal

pub returns-in_err-at-clause-items : goal.returns-in_err-at-clause-items
returns-in_err-at-clause-items c = absent_held c.args.agent c.args.holding c.args.rows.now.items (rw c.deref.ensures.value at c.in_err-at.ensures.absent)

pub returns-clause-value : goal.returns-clause-value
returns-clause-value c =
    let at = rw c.deref.ensures.value at c.in_ok-at.ensures.found in
    let row = c.index-row.result.now in
    rw c.index-row.ensures (agent_there c.args.agent c.args.rows.now.items c.in_ok-at.at row c.requires at.within (at.number row))

pub returns-clause-items : goal.returns-clause-items
returns-clause-items c =
    let at = rw c.deref.ensures.value at c.in_ok-at.ensures.found in
    let row = c.index_mut.result.now in
    rw c.index_mut.ensures.value (held_there c.args.agent c.args.holding c.args.rows.now.items c.in_ok-at.at row c.requires at.within (at.number row))
