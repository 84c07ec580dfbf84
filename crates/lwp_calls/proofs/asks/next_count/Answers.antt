use Rattle.lwp_calls.proofs.Places.{few_live}
use Rattle.lwp_calls.proofs.asks.next_count.Goals as goal
use Rattle.std.proofs.Common.{arith}

pub overflow_add-result : goal.overflow_add-result
overflow_add-result c = omega (
  arith,
  few_live c.args.ids.now.births c.args.ids.now.live c.len.ensures.rising c.births-births.ensures.born,
  c.limit-limit.type_inv,
  c.limit-limit.ensures,
  c.requires,
  c.len.ensures.value,
)
