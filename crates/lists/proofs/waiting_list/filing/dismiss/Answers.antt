use Rattle.lists.proofs.waiting_list.filing.dismiss.Goals as goal

pub returns-clause-sorted : goal.returns-clause-sorted
returns-clause-sorted c = rw c.take_out.ensures.items c.unfile.ensures.sorted
