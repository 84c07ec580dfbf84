use Rattle.lwp_calls.proofs.Waiting.{InStep-waiting, lives, waiting-is}
use Rattle.lwp_calls.proofs.Agree.{known-same}
use Rattle.lwp_calls.proofs.asks.block.Goals as goal
use Rattle.death_cleanup.specs.View.{state_of}
use Rattle.std.proofs.Common.{refl, ◌∙◌}

pub note-requires : goal.note-requires
note-requires c = c.requires.step.noted

pub block-requires : goal.block-requires
block-requires c = known-same c.args.parts.now c.requires.step.tied c.requires.alone c.args.tid
    ∙ lives (state_of c.args.parts.now) c.args.tid c.requires.may_run

pub returns : goal.returns
returns c = rw (c.block.ensures, c.set_block.ensures) (record {
  state = waiting-is c.args.parts.now c.args.tid c.args.why;
  effects = refl;
  step = InStep-waiting c.args.parts.now c.args.tid c.args.why c.requires.step c.requires.alone c.requires.waits _ c.note.ensures;
  dying = refl;
})
