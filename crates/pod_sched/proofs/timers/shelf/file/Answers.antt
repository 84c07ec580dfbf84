use Rattle.std.proofs.Common.{arith, length, length-set, sym, ◌<◌, ◌∙◌, ◌≤◌}
use Rattle.pod_sched.proofs.TimerLaws.KeptLemmas.{IsFiled-next_none, IsFiled-next_some, few_filed, unfiled}
use Rattle.pod_sched.proofs.timers.shelf.file.Goals as goal
use Rattle.pod_sched.proofs.timers.shelf.file.Goals.{in-Some, in_default}

pub put-requires-clause-new : goal.put-requires-clause-new
put-requires-clause-new c =
    let within : c.loop-leaf.leaf < length c.args.leaves.now.items = omega arith in
    unfiled c.args.leaves.now.items c.requires.once c.loop-leaf.dues c.loop-leaf.index c.loop-leaf.leaf within c.loop-leaf.invariant.filed
    c.in-Some.row (sym c.leaf_at.ensures ∙ c.in-Some.is)

pub put-requires-clause-room : goal.put-requires-clause-room
put-requires-clause-room c =
    let within : c.loop-leaf.leaf < length c.args.leaves.now.items = omega arith in
    let fits : length c.args.leaves.now.items ≤ length c.loop-leaf.dues = omega (arith, c.requires.fits, c.loop-leaf.invariant.len) in
    let room : length c.loop-leaf.dues ≤ c.loop-leaf.index.room = omega (arith, c.requires.room, c.loop-leaf.invariant.len, c.loop-leaf.invariant.room) in
    few_filed c.args.leaves.now.items c.requires.once c.loop-leaf.dues c.loop-leaf.index c.loop-leaf.leaf within c.loop-leaf.invariant.filed fits room

pub loop-leaf-preserved : goal.loop-leaf-preserved
loop-leaf-preserved c =
    let within : c.loop-leaf.leaf < length c.args.leaves.now.items = omega arith in
    let was = c.loop-leaf.invariant in
    elim c.match-leaf_at.branch [
      | in-Some w ↦
          let inside : c.loop-leaf.leaf < length c.loop-leaf.dues = omega (arith, c.requires.fits, was.len) in
          rw (w.dues-is, w.index-is, w.set.ensures)
          (record {
            filed = IsFiled-next_some c.args.leaves.now.items c.requires.once c.loop-leaf.dues c.loop-leaf.index c.loop-leaf.leaf within
                was.filed w.in-Some.row (sym c.leaf_at.ensures ∙ w.in-Some.is) _ inside w.put.ensures.puts w.put.ensures.count;
            len = length-set c.loop-leaf.dues c.loop-leaf.leaf _ ∙ was.len;
            width = w.put.ensures.width ∙ was.width;
            room = w.put.ensures.room ∙ was.room;
          })
      | in_default w ↦
          rw (w.dues-is, w.index-is)
          (record {
            filed = IsFiled-next_none c.args.leaves.now.items c.requires.once c.loop-leaf.dues c.loop-leaf.index c.loop-leaf.leaf within
                was.filed (sym c.leaf_at.ensures ∙ w.in_default.is);
            len = was.len;
            width = was.width;
            room = was.room;
          })
    ]
