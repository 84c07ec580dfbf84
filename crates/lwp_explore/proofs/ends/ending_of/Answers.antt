use Rattle.lwp_explore.proofs.EndsLaws.{told_is}
use Rattle.lwp_explore.proofs.ends.ending_of.Goals as goal
use Rattle.std.proofs.Common.{false, refl, true}

pub returns-then-is_told : goal.returns-then-is_told
returns-then-is_told c = told_is c.args.kinds.now c.args.whole c.is_told.result c.args.whole true c.is_told.ensures c.if-is_told.true refl

pub returns-then-whole : goal.returns-then-whole
returns-then-whole c = told_is c.args.kinds.now c.args.whole c.is_told.result true false c.is_told.ensures c.if-is_told.false c.if-whole.true

pub returns-else-whole : goal.returns-else-whole
returns-else-whole c = told_is c.args.kinds.now c.args.whole c.is_told.result false false c.is_told.ensures c.if-is_told.false c.if-whole.false
