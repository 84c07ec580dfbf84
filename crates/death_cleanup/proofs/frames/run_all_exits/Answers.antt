use Rattle.death_cleanup.proofs.Unwinding.{all_fewer, all_lawful, all_on, all_over, all_room}
use Rattle.death_cleanup.proofs.frames.run_all_exits.Goals as goal

pub exit_call-requires-clause-lawful : goal.exit_call-requires-clause-lawful
exit_call-requires-clause-lawful c =
    rw c.next_exit.ensures.left (all_lawful c.args.tid c.args.parts.now c.args.effects.now c.loop-mark.parts c.loop-mark.effects
    c.requires.dying c.loop-mark.invariant c.next_exit.ensures.rising c.next_exit.result c.next_exit.ensures.next c.in-Some.mark c.in-Some.is)

pub exit_call-requires-clause-room : goal.exit_call-requires-clause-room
exit_call-requires-clause-room c = all_room c.args.tid c.args.parts.now c.args.effects.now c.loop-mark.parts c.loop-mark.effects
    c.requires.dying c.loop-mark.invariant c.next_exit.ensures.rising c.next_exit.result c.next_exit.ensures.next c.in-Some.mark c.in-Some.is

pub loop-mark-smaller : goal.loop-mark-smaller
loop-mark-smaller c = all_fewer c.args.tid c.args.parts.now c.args.effects.now c.loop-mark.parts c.loop-mark.effects c.requires.dying
    c.loop-mark.invariant c.next_exit.ensures.rising c.next_exit.result c.next_exit.ensures.next c.in-Some.mark c.in-Some.is
    c.exit_call.new.parts c.exit_call.new.effects (rw c.next_exit.ensures.left at c.exit_call.ensures.came) c.exit_call.ensures.lawful

pub loop-mark-preserved : goal.loop-mark-preserved
loop-mark-preserved c = all_on c.args.tid c.args.parts.now c.args.effects.now c.loop-mark.parts c.loop-mark.effects c.requires.dying
    c.loop-mark.invariant c.next_exit.ensures.rising c.next_exit.result c.next_exit.ensures.next c.in-Some.mark c.in-Some.is
    c.exit_call.new.parts c.exit_call.new.effects (rw c.next_exit.ensures.left at c.exit_call.ensures.came) c.exit_call.ensures.lawful

pub returns : goal.returns
returns c = record {
  came = rw c.next_exit.ensures.left (all_over c.args.tid c.args.parts.now c.args.effects.now c.loop-mark.parts c.loop-mark.effects
      c.requires.dying c.loop-mark.invariant c.next_exit.ensures.rising c.next_exit.result c.next_exit.ensures.next c.in_default.is);
}
