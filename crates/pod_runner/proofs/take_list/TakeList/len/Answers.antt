use Rattle.std.proofs.Common.{ap, arith, length}
use Rattle.pod_runner.proofs.TakeLemmas.{takes_length}
use Rattle.pod_runner.proofs.take_list.TakeList.len.Goals as goal

pub returns : goal.returns
returns c = omega (arith, c.len.ensures, takes_length c.self.inside.rows.items c.self.inside.texts c.self.invariant, ap length c.self.view_is)
