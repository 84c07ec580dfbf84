use Rattle.std.proofs.Common.{ap, arith, length, refl}
use Rattle.lists.proofs.WaitingLaws.AlikeLaws.{sorted_out}
use Rattle.lists.proofs.WaitingLaws.FilingLaws.{below-numbered, last_is_most, length-numbered, rising-numbered, waits-numbered}
use Rattle.lists.proofs.WaitingLaws.KeptLaws.{once_same}
use Rattle.lists.proofs.waiting_list.filing.next_arrival.Goals as goal

pub returns-then-last-lt18446744073709551615-clause-later : goal.returns-then-last-lt18446744073709551615-clause-later
returns-then-last-lt18446744073709551615-clause-later c =
    last_is_most c.args.entries.now.items _ c.in-Some.entry.now c.requires.indexed.rising
    (omega (arith, c.in-Some.ensures.variant.0 refl, c.args.entries.now.ok.0)) c.in-Some.ensures.lookup

pub file-requires-clause-ranks_fit : goal.file-requires-clause-ranks_fit
file-requires-clause-ranks_fit c = rw c.renumber.ensures.items (omega (arith, length-numbered 0 c.args.entries.now.items, c.requires.ranks_fit))

pub file-requires-clause-arrived_fit : goal.file-requires-clause-arrived_fit
file-requires-clause-arrived_fit c = rw c.renumber.ensures.items (omega (arith, length-numbered 0 c.args.entries.now.items, c.requires.arrived_fit))

pub file_threads-requires-clause-once : goal.file_threads-requires-clause-once
file_threads-requires-clause-once c =
    rw c.renumber.ensures.items (once_same c.args.entries.now.items _ (waits-numbered 0 c.args.entries.now.items) c.requires.once)

pub file_threads-requires-clause-cells : goal.file_threads-requires-clause-cells
file_threads-requires-clause-cells c =
    rw c.renumber.ensures.items (omega (arith, length-numbered 0 c.args.entries.now.items, c.requires.cells, c.clear.ensures.width))

pub returns-clause-same : goal.returns-clause-same
returns-clause-same c = rw c.renumber.ensures.items (waits-numbered 0 c.args.entries.now.items)

pub returns-clause-indexed : goal.returns-clause-indexed
returns-clause-indexed c = record {
  rising = rw c.renumber.ensures.items (rising-numbered 0 c.args.entries.now.items);
  sorted = sorted_out _ _ _ c.file.ensures.ranked c.file.ensures.queued;
}

pub returns-clause-later : goal.returns-clause-later
returns-clause-later c =
    rw c.renumber.ensures.items (below-numbered c.len.result 0 c.args.entries.now.items
    (omega (arith, c.len.ensures, c.renumber.new.entries.ok.0, ap length c.renumber.ensures.items, length-numbered 0 c.args.entries.now.items)))
