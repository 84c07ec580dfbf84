use Rattle.std.proofs.Common.{arith, ◌≡◌, ◌+◌, ◌-◌, ◌<◌, length, rules}
use Rattle.pod_runner.proofs.Rising.{comes_last}
use Rattle.pod_runner.proofs.row_list.are_older.Goals as goal

pub returns-else-count-eq0 : goal.returns-else-count-eq0
returns-else-count-eq0 g c = λ lt up.
    let some : 0 < length c.args.rows.now.items = search rules in
    let low : c.index.result.now.tid < c.args.tid = search rules in
    let at : c.len-count.result - 1 + 1 ≡ length c.args.rows.now.items = omega (arith, some, c.len-count.ensures) in
    comes_last c.args.tid c.args.rows.now.items (c.len-count.result - 1) c.index.result.now up at c.index.ensures low
