use Rattle.lists.specs.ChainLists.{items}
use Rattle.lists.specs.ThreadIndex.{count_of, place_of}
use Rattle.pod_sched.proofs.FilingLemmas.{all_counted, all_found, cut, goes_on, is_new, its_slot}
use Rattle.pod_sched.proofs.filing.file.Goals as goal
use Rattle.pod_sched.specs.Slots.{row_at}
use Rattle.std.proofs.Common.{drop, suc, take, ◌∙◌}

pub put-requires-clause-new : goal.put-requires-clause-new
put-requires-clause-new c =
    let l = c.loop-next in
    let its = its_slot (row_at c.args.rows.now.items) (items c.args.slots.now 0) (place_of l.index) (count_of l.index) l.next l.invariant.filed
    c.in-Some.slot c.in-Some.is c.args.rows.now.items c.args.slots.now.limit c.requires.listed in
    rw c.row_at.ensures
    (is_new (row_at c.args.rows.now.items) (items c.args.slots.now 0) (place_of l.index) (count_of l.index) l.next l.invariant.filed
    c.in-Some.slot c.in-Some.is c.requires.listed.once its.found)

pub behind-next-requires-clause-in_limit : goal.behind-next-requires-clause-in_limit
behind-next-requires-clause-in_limit c =
    let l = c.loop-next in
    (its_slot (row_at c.args.rows.now.items) (items c.args.slots.now 0) (place_of l.index) (count_of l.index) l.next l.invariant.filed
    c.in-Some.slot c.in-Some.is c.args.rows.now.items c.args.slots.now.limit c.requires.listed).in_limit

pub loop-next-preserved : goal.loop-next-preserved
loop-next-preserved c =
    let l = c.loop-next in
    let row = row_at c.args.rows.now.items in
    let keys = items c.args.slots.now 0 in
    let was = l.invariant in
    let its = its_slot row keys (place_of l.index) (count_of l.index) l.next was.filed c.in-Some.slot c.in-Some.is
    c.args.rows.now.items c.args.slots.now.limit c.requires.listed in
    let split = cut row keys (place_of l.index) (count_of l.index) l.next was.filed c.in-Some.slot c.in-Some.is in
    let after = c.behind-next.ensures (take (count_of l.index) keys) (drop (suc (count_of l.index)) keys) split in
    record {
      filed = goes_on row keys (place_of l.index) (count_of l.index) l.next was.filed c.in-Some.slot c.in-Some.is c.requires.listed.once
          its.found (place_of c.put.new.self) (count_of c.put.new.self) c.behind-next.result (rw c.row_at.ensures at c.put.ensures.puts)
          c.put.ensures.count after;
      width = c.put.ensures.width ∙ was.width;
      room = c.put.ensures.room ∙ was.room;
    }

pub returns-clause-found : goal.returns-clause-found
returns-clause-found c =
    let l = c.loop-next in
    all_found (row_at c.args.rows.now.items) (items c.args.slots.now 0) (place_of l.index) (count_of l.index) l.next l.invariant.filed c.in_default.is

pub returns-clause-count : goal.returns-clause-count
returns-clause-count c =
    let l = c.loop-next in
    all_counted (row_at c.args.rows.now.items) (items c.args.slots.now 0) (place_of l.index) (count_of l.index) l.next l.invariant.filed c.in_default.is
