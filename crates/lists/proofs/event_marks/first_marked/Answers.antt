use Rattle.lists.proofs.MarkWords.{first-low, first-marked, none-marked}
use Rattle.lists.proofs.event_marks.first_marked.Goals as goal
use Rattle.std.proofs.Common.{arith, rules}

pub returns-then-rest-eq0-clause-none : goal.returns-then-rest-eq0-clause-none
returns-then-rest-eq0-clause-none c = none-marked c.args.word c.args.from (omega arith) c.if-rest-eq0.true

pub returns-clause-below : goal.returns-clause-below
returns-clause-below c = first-low c.args.word c.args.from (omega arith) (omega arith) (search rules)

pub returns-clause-first : goal.returns-clause-first
returns-clause-first c = first-marked c.args.word c.args.from (omega arith) (omega arith) (search rules)
