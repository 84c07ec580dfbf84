use Rattle.std.proofs.Common.{arith, length, ◌+◌, ◌<◌}
use Rattle.lists.proofs.WaitingLaws.FilingLaws.{IsFiled-more}
use Rattle.lists.proofs.waiting_list.filing.file.Goals as goal
use Rattle.lists.specs.WaitingList.Entries.{rank_of, arrival_key}

pub loop-at-preserved : goal.loop-at-preserved
loop-at-preserved c =
    let es = c.args.entries.now.items in
    let at = c.loop-at.at in
    let was = c.loop-at.invariant in
    let within : at < length es = omega (arith, c.loop-at-test.true, c.len-at-end.ensures, c.args.entries.now.ok.0) in
    record {
      ranked = IsFiled-more rank_of es at (at + 1) c.index.result.now c.loop-at.ranks.items _ was.ranked (omega arith) within
          c.index.ensures c.add.ensures.sorted (rw c.rank_of.ensures at c.add.ensures.counts) c.add.ensures.len;
      queued = IsFiled-more arrival_key es at (at + 1) c.index.result.now c.loop-at.arrived.items _ was.queued (omega arith) within
          c.index.ensures c.add-in-loop-at.ensures.sorted (rw c.arrival_key.ensures at c.add-in-loop-at.ensures.counts) c.add-in-loop-at.ensures.len;
      rank_room = omega (arith, was.rank_room, c.add.ensures.capacity);
      arrived_room = omega (arith, was.arrived_room, c.add-in-loop-at.ensures.capacity);
    }
