use Rattle.lwp_calls.proofs.Made.{Answers-is}
use Rattle.lwp_calls.proofs.thread_calls.ping.Goals as goal
use Rattle.lwp_types.specs.Case.{unless}
use Rattle.std.proofs.Common.{refl, sym}

pub returns-then-is_id : goal.returns-then-is_id
unfolding unless
returns-then-is_id c = Answers-is (rw (sym c.if-is_id.ensures) refl) c.requires refl

pub returns-else-is_id : goal.returns-else-is_id
unfolding unless
returns-else-is_id c = Answers-is (rw (sym c.if-is_id.ensures) refl) c.requires refl
