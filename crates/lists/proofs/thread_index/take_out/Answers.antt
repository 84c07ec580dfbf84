use Rattle.lists.proofs.IndexLemmas.{absent_stays, remove_at}
use Rattle.lists.proofs.thread_index.take_out.Goals as goal
use Rattle.std.proofs.Common.{sym, ◌∙◌}

pub returns-in-Some-clause-items : goal.returns-in-Some-clause-items
returns-in-Some-clause-items c =
    c.remove.ensures.items ∙ remove_at c.args.number c.args.strays.now.items c.in-Some.at c.requires (rw c.deref.ensures.value at c.in-Some.ensures.found)

pub returns-in_default-clause-items : goal.returns-in_default-clause-items
returns-in_default-clause-items c = sym (absent_stays c.args.number c.args.strays.now.items (rw c.deref.ensures.value at c.in_default.ensures.absent))
