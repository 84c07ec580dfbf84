use Rattle.lists.proofs.IndexLemmas.{IsRising-insert, Puts-inserted, entry_of}
use Rattle.lists.proofs.thread_index.put_in.Goals as goal
use Rattle.std.proofs.Common.{arith}

pub returns-in-Some-clause-rising : goal.returns-in-Some-clause-rising
returns-in-Some-clause-rising c =
    rw (c.insert.ensures.items, c.insert.ensures.succeeds (omega (arith, c.requires.room)))
    (IsRising-insert c.args.strays.now.items c.in-Some.at (entry_of c.args.number c.args.place) c.requires.rising
    (rw c.deref.ensures.value at c.in-Some.ensures.gap))

pub returns-in-Some-clause-puts : goal.returns-in-Some-clause-puts
returns-in-Some-clause-puts c =
    let gap = rw c.deref.ensures.value at c.in-Some.ensures.gap in
    Puts-inserted c.args.number c.args.place c.args.strays.now.items _ c.in-Some.at
    (rw (c.insert.ensures.succeeds (omega (arith, c.requires.room))) at c.insert.ensures.items) gap.within c.requires.new
