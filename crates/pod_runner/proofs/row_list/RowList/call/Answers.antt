use Rattle.std.proofs.Common.{◌<◌, ◌≤◌, length, rules, sym}
use Rattle.pod_runner.proofs.RowCalls.{call_past, call_read}
use Rattle.pod_runner.proofs.row_list.RowList.call.Goals as goal

pub returns-then-self-len : goal.returns-then-self-len
returns-then-self-len g c =
    let within : c.self.inside.last < length c.self.inside.rows.items = search rules in
    rw (← c.self.view_is) (sym (call_read c.self.inside.gone c.self.inside.rows.items c.self.inside.last c.index.result.now within c.index.ensures))

pub returns-else-self-len : goal.returns-else-self-len
returns-else-self-len g c =
    let past : length c.self.inside.rows.items ≤ c.self.inside.last = search rules in
    rw (← c.self.view_is) (sym (call_past c.self.inside.gone c.self.inside.rows.items c.self.inside.last past))
