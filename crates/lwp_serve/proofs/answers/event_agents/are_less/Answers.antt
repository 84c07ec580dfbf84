use Rattle.std.proofs.Common.{arith, ◌≡◌, ◌+◌, ◌-◌, ◌<◌, length, rules}
use Rattle.lwp_serve.proofs.AnswerLaws.RisingLaws.{all_less}
use Rattle.lwp_serve.proofs.answers.event_agents.are_less.Goals as goal

pub returns-else-count-eq0 : goal.returns-else-count-eq0
returns-else-count-eq0 c = λ lt up.
    let some : 0 < length c.args.numbers.now.items = search rules in
    let low : c.index.result.now < c.args.number = search rules in
    let at : c.len-count.result - 1 + 1 ≡ length c.args.numbers.now.items = omega (arith, some, c.len-count.ensures) in
    all_less c.args.numbers.now.items (c.len-count.result - 1) c.args.number c.index.result.now up at (rw c.index.ensures at low)
