use Rattle.std.proofs.Common.{sym, ◌∙◌}
use Rattle.lists.proofs.WaitingLaws.KeptLaws.{no_first}
use Rattle.lists.proofs.waiting_list.line.WaitingList.first.Goals as goal

pub returns-in_err-at : goal.returns-in_err-at
returns-in_err-at c = rw (← c.self.view_is) (c.from_residual.ensures ∙ sym (no_first c.args.what c.self.inside.entries.items c.in_err-at.ensures.none))
