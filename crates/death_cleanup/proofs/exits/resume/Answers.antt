use Rattle.death_cleanup.proofs.Outcomes.{answers_quietly, answers_refused}
use Rattle.death_cleanup.proofs.Resuming.{InStep-resumed, resume-absent, resume-is, resume-vain, resumed-parts}
use Rattle.death_cleanup.proofs.exits.resume.Goals as goal
use Rattle.death_cleanup.specs.View.{state_of}
use Rattle.lwp_types.specs.Unblock.{zero_answer}
use Rattle.lwp_types.specs.declared.call.LwpErr.TheVariants as error
use Rattle.std.proofs.Common.{[], refl, sym}

pub returns-then-not-is_thread : goal.returns-then-not-is_thread
returns-then-not-is_thread c = record {
  answers = answers_refused c.args.parts.now [] _ error.NonExist c.requires.step
      (resume-absent (state_of c.args.parts.now) c.args.tid (sym c.if-not-is_thread.ensures));
}

pub returns-then-not-knows : goal.returns-then-not-knows
returns-then-not-knows c = record {
  answers = answers_quietly c.args.parts.now c.args.parts.now [] _ zero_answer c.requires.step refl
      (resume-vain c.args.parts.now c.args.tid c.requires.step (sym c.if-not-is_thread.ensures) (sym c.if-not-knows.ensures));
}

pub returns : goal.returns
returns c = record {
  answers = rw c.resume.ensures (answers_quietly c.args.parts.now (resumed-parts c.args.parts.now c.args.tid) [] _ zero_answer
      (InStep-resumed c.args.parts.now c.args.tid c.requires.step) refl
      (resume-is c.args.parts.now c.args.tid c.requires.step (sym c.if-not-is_thread.ensures)));
}
