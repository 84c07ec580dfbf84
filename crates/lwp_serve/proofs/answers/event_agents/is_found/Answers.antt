use Rattle.std.proofs.Common.{◌∙◌}
use Rattle.lwp_serve.proofs.AnswerLaws.RisingLaws.{found}
use Rattle.lwp_serve.proofs.answers.event_agents.is_found.Goals as goal

pub returns : goal.returns
returns c = c.is_ok.ensures.value
    ∙ found c.args.numbers.now c.requires c.args.number c.binary_search.result c.binary_search.ensures.bound c.binary_search.ensures.position
