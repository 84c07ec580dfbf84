use Rattle.std.proofs.Common.{sym, ◌∙◌}
use Rattle.lists.proofs.WaitingLaws.KeyLaws.{place_first}
use Rattle.lists.proofs.WaitingLaws.LineLaws.{if_not}
use Rattle.lists.proofs.waiting_list.keys.stands_first.Goals as goal

pub returns-in-Some : goal.returns-in-Some
returns-in-Some c = λ more. place_first c.args.key c.args.keys.now.items c.in-Some.first.now c.requires c.in-Some.ensures.lookup
    (sym c.is_before.ensures ∙ if_not c.is_before.result more)
