use Rattle.pod_sched.proofs.buckets.marks.with_bit.Goals as goal
use Rattle.std.proofs.Common.{w64}
use Rattle.std.proofs.lemmas.Nat.Bits.{bit_at_clear_other, bit_at_clear_same, bit_at_set_other, bit_at_set_same}

pub returns-then-on-clause-here : goal.returns-then-on-clause-here
returns-then-on-clause-here c = rw c.if-on.true (bit_at_set_same w64 c.args.word c.args.bit c.requires)

pub returns-then-on-clause-others : goal.returns-then-on-clause-others
returns-then-on-clause-others c i i_in differs = bit_at_set_other w64 c.args.word c.args.bit c.requires i differs

pub returns-else-on-clause-here : goal.returns-else-on-clause-here
returns-else-on-clause-here c = rw c.if-on.false (bit_at_clear_same w64 c.args.word c.args.bit c.requires)

pub returns-else-on-clause-others : goal.returns-else-on-clause-others
returns-else-on-clause-others c i i_in differs = bit_at_clear_other w64 c.args.word c.args.bit c.requires i i_in differs
