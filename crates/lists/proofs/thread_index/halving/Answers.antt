use Rattle.lists.proofs.IndexLemmas.{find_absent, find_at}
use Rattle.lists.specs.ThreadIndex.{no_entry}
use Rattle.lists.specs.declared.thread_index.Entry.{Entry}
use Rattle.lists.proofs.thread_index.halving.Goals as goal
use Rattle.std.proofs.Common.{ap, option_map, sym}

pub returns-in-Some : goal.returns-in-Some
returns-in-Some c =
    let at = rw c.deref.ensures.value at c.in-Some.ensures.found in
    rw c.stray_at.ensures (sym (ap (option_map (λ (e : Entry). e.place))
    (find_at c.args.number c.args.strays.now.items c.in-Some.at no_entry c.requires at.within (at.here no_entry))))

pub returns-in-None : goal.returns-in-None
returns-in-None c =
    let absent = rw c.deref.ensures.value at c.in-None.ensures.absent in
    sym (ap (option_map (λ (e : Entry). e.place)) (find_absent c.args.number c.args.strays.now.items absent))
