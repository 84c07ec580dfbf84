use Rattle.death_cleanup.proofs.Leaving.{leaving_fewer, leaving_lawful, leaving_on, leaving_over, leaving_room, leaving_starts}
use Rattle.death_cleanup.proofs.frames.leave_frames.Goals as goal

pub loop-mark-init : goal.loop-mark-init
loop-mark-init c = leaving_starts c.args.tid c.args.depth c.args.parts.now c.args.effects.now c.requires.lawful c.requires.least c.requires.most c.requires.room

pub exit_call-requires-clause-lawful : goal.exit_call-requires-clause-lawful
exit_call-requires-clause-lawful c =
    rw c.next_exit_above.ensures.left (leaving_lawful c.args.tid c.args.depth c.args.parts.now c.args.effects.now c.loop-mark.parts
    c.loop-mark.effects c.loop-mark.invariant c.requires.least c.next_exit_above.result c.next_exit_above.ensures.next c.in-Some.mark c.in-Some.is)

pub exit_call-requires-clause-room : goal.exit_call-requires-clause-room
exit_call-requires-clause-room c = leaving_room c.args.tid c.args.depth c.args.parts.now c.args.effects.now c.loop-mark.parts
    c.loop-mark.effects c.loop-mark.invariant c.requires.least c.next_exit_above.result c.next_exit_above.ensures.next c.in-Some.mark c.in-Some.is

pub loop-mark-smaller : goal.loop-mark-smaller
loop-mark-smaller c = leaving_fewer c.args.tid c.args.depth c.args.parts.now c.args.effects.now c.loop-mark.parts c.loop-mark.effects
    c.loop-mark.invariant c.requires.least c.next_exit_above.result c.next_exit_above.ensures.next c.in-Some.mark c.in-Some.is
    c.exit_call.new.parts c.exit_call.new.effects (rw c.next_exit_above.ensures.left at c.exit_call.ensures.came) c.exit_call.ensures.lawful

pub loop-mark-preserved : goal.loop-mark-preserved
loop-mark-preserved c = leaving_on c.args.tid c.args.depth c.args.parts.now c.args.effects.now c.loop-mark.parts c.loop-mark.effects
    c.loop-mark.invariant c.requires.least c.next_exit_above.result c.next_exit_above.ensures.next c.in-Some.mark c.in-Some.is
    c.exit_call.new.parts c.exit_call.new.effects (rw c.next_exit_above.ensures.left at c.exit_call.ensures.came) c.exit_call.ensures.lawful

pub returns : goal.returns
returns c = record {
  came = rw c.next_exit_above.ensures.left (leaving_over c.args.tid c.args.depth c.args.parts.now c.args.effects.now c.loop-mark.parts
      c.loop-mark.effects c.loop-mark.invariant c.requires.least c.next_exit_above.result c.next_exit_above.ensures.next c.in_default.is);
}
