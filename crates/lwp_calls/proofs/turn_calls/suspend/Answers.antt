use Rattle.lwp_calls.proofs.Agree.{known-same}
use Rattle.lwp_calls.proofs.Made.{Answers-is}
use Rattle.lwp_calls.proofs.Ranks.{InStep-suspended, suspended-is}
use Rattle.lwp_calls.proofs.turn_calls.suspend.Goals as goal
use Rattle.lwp_types.specs.Case.{unless}
use Rattle.std.proofs.Common.{refl, sym, ◌∙◌}

pub returns-then-not-is_thread : goal.returns-then-not-is_thread
unfolding unless
returns-then-not-is_thread c = Answers-is (rw (sym c.if-not-is_thread.ensures) refl) c.requires.step refl

pub suspend-requires : goal.suspend-requires
suspend-requires c = known-same c.args.parts.now c.requires.step.tied c.requires.alone c.args.tid ∙ sym c.if-not-is_thread.ensures

pub returns : goal.returns
unfolding unless
returns c =
    let known = known-same c.args.parts.now c.requires.step.tied c.requires.alone c.args.tid ∙ sym c.if-not-is_thread.ensures in
    rw c.suspend.ensures (Answers-is (rw (sym c.if-not-is_thread.ensures, suspended-is c.args.parts.now c.args.tid known) refl)
    (InStep-suspended c.args.parts.now c.args.tid c.requires.step known) refl)
