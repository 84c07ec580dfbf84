use Rattle.death_cleanup.specs.View.{state_of}
use Rattle.lwp_calls.proofs.Unwound.{came-few, leave-few}
use Rattle.lwp_calls.proofs.exception_calls.return_from.Goals as goal
use Rattle.lwp_types.specs.Exceptions.{first_frames}
use Rattle.lwp_types.specs.State.{marks_in}
use Rattle.std.proofs.Common.{ap, arith, length, ◌-◌}

pub leave_frames-requires-clause-room : goal.leave_frames-requires-clause-room
leave_frames-requires-clause-room c =
    omega (
      arith,
      ap length c.requires.room,
      leave-few c.args.parts.now c.requires.lawful c.requires.alone c.args.tid c.requires.may_run (c.frames-count.result - 1)
          (first_frames (c.frames-count.result - 1) (marks_in (state_of c.args.parts.now) c.args.tid)),
    )

pub returns-clause-most : goal.returns-clause-most
returns-clause-most c = came-few c.args.parts.now c.requires.lawful c.requires.alone c.args.tid c.requires.may_run
    (c.frames-count.result - 1) (first_frames (c.frames-count.result - 1) (marks_in (state_of c.args.parts.now) c.args.tid))
    c.leave_frames.new.parts c.args.effects.now c.leave_frames.new.effects c.leave_frames.ensures.came c.requires.room
