use Rattle.std.proofs.Common.{◌∙◌}
use Rattle.lists.proofs.WaitingLaws.KeptLaws.{has_best}
use Rattle.lists.proofs.waiting_list.line.WaitingList.has.Goals as goal

pub returns : goal.returns
returns c = rw (← c.self.view_is)
    (c.is_some.ensures ∙ has_best c.args.what c.self.inside.entries.items c.best_place.result c.best_place.ensures.none c.best_place.ensures.some)
