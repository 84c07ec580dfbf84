use Rattle.std.proofs.Common.{arith, refl, sym}
use Rattle.lists.proofs.WaitingLaws.KeyLaws.{front_past}
use Rattle.lists.proofs.waiting_list.keys.first_of.Goals as goal

pub returns-in_default : goal.returns-in_default
returns-in_default c =
    sym (front_past c.args.what c.args.keys.now.items c.in-Some.first.now
    (omega (arith, c.in-Some.ensures.variant.0 refl, c.args.keys.now.ok.0)) c.in-Some.ensures.lookup c.requires
    (omega (arith, c.if-first-what.false, c.if-first-what-2.false)))
