use Rattle.death_cleanup.proofs.Outcomes.{answers_quietly, answers_refused}
use Rattle.death_cleanup.proofs.Resuming.{InStep-exit, exit-high, exit-low}
use Rattle.death_cleanup.proofs.exits.set_exit.Goals as goal
use Rattle.death_cleanup.specs.View.{state_of}
use Rattle.lwp_types.specs.Unblock.{zero_answer}
use Rattle.lwp_types.specs.declared.call.LwpErr.TheVariants as error
use Rattle.std.proofs.Common.{[], arith, refl}

pub returns-then-code-gt99 : goal.returns-then-code-gt99
returns-then-code-gt99 c = record {
  answers = answers_refused c.args.parts.now [] _ error.InvalidArg c.requires.step
      (exit-high (state_of c.args.parts.now) c.args.code (omega (arith, c.if-code-gt99.true)));
}

pub returns : goal.returns
returns c = record {
  answers = answers_quietly c.args.parts.now (record c.args.parts.now { exit = c.args.code }) [] _ zero_answer
      (InStep-exit c.args.parts.now c.args.code c.requires.step) refl (exit-low (state_of c.args.parts.now) c.args.code (omega (arith, c.if-code-gt99.false)));
}
