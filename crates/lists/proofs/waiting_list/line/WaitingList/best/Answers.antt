use Rattle.std.proofs.Common.{sym, ◌∙◌}
use Rattle.lists.proofs.WaitingLaws.KeptLaws.{none_chosen}
use Rattle.lists.proofs.waiting_list.line.WaitingList.best.Goals as goal

pub returns-in_err-at : goal.returns-in_err-at
returns-in_err-at c = rw (← c.self.view_is) (c.from_residual.ensures ∙ sym (none_chosen c.args.what c.self.inside.entries.items c.in_err-at.ensures.none))
