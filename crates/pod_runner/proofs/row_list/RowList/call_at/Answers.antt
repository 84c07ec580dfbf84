use Rattle.std.proofs.Common.{◌<◌, length, sym}
use Rattle.pod_runner.proofs.RowCalls.{call_read}
use Rattle.pod_runner.proofs.row_list.RowList.call_at.Goals as goal

pub returns : goal.returns
returns g c =
    let within : c.args.i < length c.self.inside.rows.items = rw (← c.self.view_is) at c.requires in
    rw (← c.self.view_is) (λ other. sym (call_read other c.self.inside.rows.items c.args.i c.index.result.now within c.index.ensures))
