use Rattle.std.proofs.Common.{arith, refl}
use Rattle.lists.proofs.WaitingLaws.AlikeLaws.{front_at, front_other}
use Rattle.lists.proofs.waiting_list.rows.front_for.Goals as goal

pub returns-in-Some-clause-some : goal.returns-in-Some-clause-some
returns-in-Some-clause-some c = front_at c.args.what c.args.entries.now.items c.in-Some.first.now c.requires
    (omega (arith, c.in-Some.ensures.variant.0 refl, c.args.entries.now.ok.0)) c.in-Some.ensures.lookup c.if-first-what.true

pub returns-in_default-clause-none : goal.returns-in_default-clause-none
returns-in_default-clause-none c =
    front_other c.args.what c.args.entries.now.items c.in-Some.first.now c.requires c.in-Some.ensures.lookup c.if-first-what.false
