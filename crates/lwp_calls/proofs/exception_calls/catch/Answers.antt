use Rattle.death_cleanup.specs.View.{state_of}
use Rattle.lwp_calls.proofs.Made.{ComesTo-answers, told-behind, told-most}
use Rattle.lwp_calls.proofs.Stacks.{lives-here}
use Rattle.lwp_calls.proofs.Unwound.{came-few, caught-comes, handler-there, leave-few, still-there}
use Rattle.lwp_calls.proofs.exception_calls.catch.Goals as goal
use Rattle.lwp_types.specs.Exceptions.{first_frames}
use Rattle.lwp_types.specs.State.{marks_in}
use Rattle.stale_ids.specs.Register.{value_of}
use Rattle.std.proofs.Common.{Some, ap, arith, length, sym, ◌∙◌}

pub leave_frames-requires-clause-room : goal.leave_frames-requires-clause-room
leave_frames-requires-clause-room c =
    omega (
      arith,
      ap length c.requires.room,
      leave-few c.args.parts.now c.requires.lawful c.requires.alone c.args.tid c.requires.may_run c.args.handler.depth
          (first_frames c.args.handler.depth (marks_in (state_of c.args.parts.now) c.args.tid)),
    )

pub returns-in_default-clause-told : goal.returns-in_default-clause-told
returns-in_default-clause-told c =
    absurd (still-there c.args.parts.now c.leave_frames.new.parts c.args.effects.now c.leave_frames.new.effects c.args.tid c.args.handler
    (lives-here c.args.parts.now c.requires.lawful c.requires.alone c.args.tid c.requires.may_run) c.requires.reach
    c.leave_frames.ensures.came c.get_mut.ensures.rising
    (ap (λ n. value_of n c.leave_frames.new.parts.ids.live) (sym c.tid.view_is) ∙ sym c.in_default.ensures.value))

pub returns-in_default-clause-most : goal.returns-in_default-clause-most
returns-in_default-clause-most c =
    omega (arith, came-few c.args.parts.now c.requires.lawful c.requires.alone c.args.tid c.requires.may_run c.args.handler.depth (first_frames c.args.handler.depth (marks_in (state_of c.args.parts.now) c.args.tid)) c.leave_frames.new.parts c.args.effects.now c.leave_frames.new.effects c.leave_frames.ensures.came c.requires.room)

pub settle-requires : goal.settle-requires
settle-requires c = handler-there c.args.parts.now c.leave_frames.new.parts c.args.effects.now c.leave_frames.new.effects c.args.tid
    c.args.handler (lives-here c.args.parts.now c.requires.lawful c.requires.alone c.args.tid c.requires.may_run) c.requires.reach
    c.leave_frames.ensures.came c.in-Some.kind.now c.get_mut.ensures.rising
    (ap (λ n. value_of n c.leave_frames.new.parts.ids.live) (sym c.tid.view_is) ∙ sym c.in-Some.ensures.value)

pub returns-clause-told : goal.returns-clause-told
returns-clause-told c = rw c.tid.view_is (told-behind
    (ComesTo-answers (caught-comes c.args.parts.now c.leave_frames.new.parts c.args.effects.now c.leave_frames.new.effects c.args.tid
    c.args.handler (lives-here c.args.parts.now c.requires.lawful c.requires.alone c.args.tid c.requires.may_run) c.requires.reach
    c.leave_frames.ensures.came c.in-Some.kind.now c.get_mut.ensures.rising (ap (λ n. value_of n c.leave_frames.new.parts.ids.live) (sym c.tid.view_is)
    ∙ sym c.in-Some.ensures.value) c.args.pattern c.settle.new.kind c.settle.ensures))
    c.args.tid c.answered.ensures)

pub returns-clause-most : goal.returns-clause-most
returns-clause-most c = told-most c.leave_frames.new.effects c.answered.new.self c.args.tid (Some _) 1279
    (came-few c.args.parts.now c.requires.lawful c.requires.alone c.args.tid c.requires.may_run c.args.handler.depth
    (first_frames c.args.handler.depth (marks_in (state_of c.args.parts.now) c.args.tid)) c.leave_frames.new.parts c.args.effects.now
    c.leave_frames.new.effects c.leave_frames.ensures.came c.requires.room)
    c.answered.ensures

pub answered-requires : goal.answered-requires
answered-requires c =
    omega (arith, came-few c.args.parts.now c.requires.lawful c.requires.alone c.args.tid c.requires.may_run c.args.handler.depth (first_frames c.args.handler.depth (marks_in (state_of c.args.parts.now) c.args.tid)) c.leave_frames.new.parts c.args.effects.now c.leave_frames.new.effects c.leave_frames.ensures.came c.requires.room)
