use Rattle.std.proofs.Common.{ap, arith, length, ◌+◌, ◌<◌}
use Rattle.lists.proofs.WaitingLaws.FilingLaws.{numbered_more, partly_long}
use Rattle.lists.proofs.waiting_list.filing.renumber.Goals as goal

pub index_mut-requires : goal.index_mut-requires
index_mut-requires c =
    let es = c.args.entries.now.items in
    let within : c.loop-at.at < length es = omega (arith, c.loop-at-test.true, c.len-at-end.ensures, c.args.entries.now.ok.0) in
    omega (arith, within, c.loop-at.entries.ok.0, ap length c.loop-at.invariant.items, partly_long 0 c.loop-at.at es (omega (arith, within)))

pub loop-at-preserved : goal.loop-at-preserved
loop-at-preserved c =
    let es = c.args.entries.now.items in
    let within : c.loop-at.at < length es = omega (arith, c.loop-at-test.true, c.len-at-end.ensures, c.args.entries.now.ok.0) in
    record {
      items = rw c.loop-at.invariant.items (numbered_more 0 c.loop-at.at c.loop-at.at (c.loop-at.at + 1) es c.index_mut.result.now
          (omega arith) (omega arith) within (rw c.loop-at.invariant.items at c.index_mut.ensures.value));
      capacity = c.loop-at.invariant.capacity;
    }
