use Rattle.lists.proofs.WaitingLaws.KeptLaws.{tids_are}
use Rattle.lists.proofs.waiting_list.line.WaitingList.tids.Goals as goal

pub returns : goal.returns
returns c = rw (← c.self.view_is, tids_are c.args.what c.self.inside.entries.items) c.tids_for.ensures
