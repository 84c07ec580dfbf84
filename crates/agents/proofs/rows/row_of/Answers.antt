use Rattle.agents.proofs.Standing.{agent_there}
use Rattle.agents.proofs.rows.row_of.Goals as goal

pub returns-in-Some : goal.returns-in-Some
returns-in-Some c =
    let at = c.in-Some.ensures.found in
    let row = c.index-rows-at.result in
    rw c.index-rows-at.is (agent_there c.args.agent c.args.rows.now c.in-Some.at row c.requires at.within (at.number row))
