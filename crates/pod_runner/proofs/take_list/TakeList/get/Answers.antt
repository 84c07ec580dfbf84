use Rattle.std.proofs.Common.{◌<◌, ap, arith, length}
use Rattle.pod_runner.proofs.TakeLemmas.{takes_at, takes_length}
use Rattle.pod_runner.proofs.take_list.TakeList.get.Goals as goal

pub index-row-requires : goal.index-row-requires
index-row-requires c = omega (arith, c.requires, takes_length c.self.inside.rows.items c.self.inside.texts c.self.invariant, ap length c.self.view_is)

pub returns : goal.returns
returns c =
    let rows = c.self.inside.rows.items in
    let texts = c.self.inside.texts in
    let within : c.args.i < length rows = omega (arith, c.requires, takes_length rows texts c.self.invariant, ap length c.self.view_is) in
    rw (← c.self.view_is) (takes_at rows texts c.args.i c.index-row.result.now c.get.result _ c.self.invariant within c.index-row.ensures c.get.ensures)
