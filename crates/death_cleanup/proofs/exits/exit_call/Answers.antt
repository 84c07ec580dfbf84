use Rattle.death_cleanup.proofs.Exiting.{came_exited, few_exit, lawful_exited}
use Rattle.death_cleanup.proofs.exits.exit_call.Goals as goal
use Rattle.lwp_types.specs.Case.{answer_by}
use Rattle.lwp_types.specs.declared.call.Effect.TheVariants as effect
use Rattle.std.proofs.Common.{ap, arith, length}
use Rattle.std.proofs.lemmas.List.{length_push}

pub tell_exit-requires : goal.tell_exit-requires
tell_exit-requires c =
    omega (
      arith,
      c.requires.room,
      few_exit c.args.parts.now c.perform-done.new.parts c.requires.lawful c.args.tid c.args.mark.now c.args.effects.now
          c.perform-done.new.effects (answer_by c.perform-done.result) c.perform-done.ensures.answers,
    )

pub returns-clause-came : goal.returns-clause-came
returns-clause-came c = rw c.tell_exit.ensures (came_exited c.args.parts.now c.perform-done.new.parts c.requires.lawful c.args.tid
    c.args.mark.now c.args.effects.now c.perform-done.new.effects (answer_by c.perform-done.result) c.perform-done.ensures.answers)

pub returns-clause-lawful : goal.returns-clause-lawful
returns-clause-lawful c = lawful_exited c.args.parts.now c.perform-done.new.parts c.requires.lawful c.args.tid c.args.mark.now
    c.args.effects.now c.perform-done.new.effects (answer_by c.perform-done.result) c.perform-done.ensures.answers

pub returns-clause-most : goal.returns-clause-most
returns-clause-most c = omega (
  arith,
  ap length c.tell_exit.ensures,
  length_push c.perform-done.new.effects (effect.Exited c.args.tid c.args.mark.now.reg c.args.mark.now.call (answer_by c.perform-done.result)),
  few_exit c.args.parts.now c.perform-done.new.parts c.requires.lawful c.args.tid c.args.mark.now c.args.effects.now
      c.perform-done.new.effects (answer_by c.perform-done.result) c.perform-done.ensures.answers,
)
