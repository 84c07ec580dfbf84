use Rattle.death_cleanup.proofs.Orders.{AreOrdered-inserted, any-inserted, own-inserted}
use Rattle.death_cleanup.proofs.named.put_in.Goals as goal
use Rattle.death_cleanup.specs.Named.{is_wait, run_of}
use Rattle.std.proofs.Common.{arith, refl}
use Rattle.std.proofs.lemmas.Bool.{and_from, eq-eqb}

pub returns-clause-ordered : goal.returns-clause-ordered
returns-clause-ordered c =
    rw (c.insert.ensures.items, c.insert.ensures.succeeds (omega (arith, c.requires.room))) (AreOrdered-inserted c.args.waits.now.items
    c.gap_of-at.result c.args.wait.now c.requires.ordered (rw c.deref.ensures.value at c.gap_of-at.ensures) (c.is_at.ensures.away c.if-is_at.false))

pub returns-clause-kept : goal.returns-clause-kept
returns-clause-kept c = λ r n some.
    rw (c.insert.ensures.items, c.insert.ensures.succeeds (omega (arith, c.requires.room)))
    (any-inserted (is_wait r n) c.args.waits.now.items c.gap_of-at.result c.args.wait.now (rw c.deref.ensures.value at c.gap_of-at.ensures.within) some)

pub returns-clause-noted : goal.returns-clause-noted
returns-clause-noted c =
    rw (c.insert.ensures.items, c.insert.ensures.succeeds (omega (arith, c.requires.room)))
    (own-inserted (is_wait (run_of c.args.wait.now) c.args.wait.now.tid) c.args.waits.now.items c.gap_of-at.result c.args.wait.now
    (rw c.deref.ensures.value at c.gap_of-at.ensures.within)
    (and_from _ _ (eq-eqb c.args.wait.now.tid c.args.wait.now.tid refl) (eq-eqb (run_of c.args.wait.now) (run_of c.args.wait.now) refl)))
