use Rattle.std.proofs.Common.{arith, length, ◌+◌, ◌<◌, ◌∙◌}
use Rattle.lists.proofs.WaitingLaws.KnownLaws.{IsKnown-more, few_known, unknown}
use Rattle.lists.proofs.waiting_list.filing.file_threads.Goals as goal

pub put-requires-clause-new : goal.put-requires-clause-new
put-requires-clause-new c =
    let within : c.loop-at.at < length c.args.entries.now.items = omega (arith, c.loop-at-test.true, c.len-at-end.ensures, c.args.entries.now.ok.0) in
    unknown c.args.entries.now.items c.requires.once c.loop-at.index c.loop-at.at c.index-entry.result.now within c.index-entry.ensures
    c.loop-at.invariant.known

pub put-requires-clause-some : goal.put-requires-clause-some
put-requires-clause-some c = omega (arith, c.loop-at-test.true, c.len-at-end.ensures, c.args.entries.now.ok.0, c.requires.cells, c.loop-at.invariant.width)

pub put-requires-clause-room : goal.put-requires-clause-room
put-requires-clause-room c =
    let within : c.loop-at.at < length c.args.entries.now.items = omega (arith, c.loop-at-test.true, c.len-at-end.ensures, c.args.entries.now.ok.0) in
    let few = few_known c.args.entries.now.items c.requires.once c.loop-at.index c.loop-at.at c.index-entry.result.now within
    c.index-entry.ensures c.loop-at.invariant.known in
    omega (arith, few, c.requires.cells, c.requires.room, c.loop-at.invariant.width, c.loop-at.invariant.room)

pub loop-at-preserved : goal.loop-at-preserved
loop-at-preserved c =
    let within : c.loop-at.at < length c.args.entries.now.items = omega (arith, c.loop-at-test.true, c.len-at-end.ensures, c.args.entries.now.ok.0) in
    let was = c.loop-at.invariant in
    record {
      known = IsKnown-more c.args.entries.now.items c.requires.once c.loop-at.index c.loop-at.at c.index-entry.result.now within
          c.index-entry.ensures was.known c.put.new.self (c.loop-at.at + 1) (omega arith) c.put.ensures.puts c.put.ensures.count;
      width = c.put.ensures.width ∙ was.width;
      room = c.put.ensures.room ∙ was.room;
    }
