use Rattle.lwp_types.specs.Agents.{deliver}
use Rattle.lwp_types.specs.State.{and_then, for_each}
use Rattle.std.proofs.Common.{refl}
use Rattle.worked_rows.proofs.shared_events.waiting_for_anybody.Goals as goal

pub returns-clause-effects : goal.returns-clause-effects
unfolding deliver and_then for_each
returns-clause-effects c = refl

pub returns-clause-mailbox : goal.returns-clause-mailbox
unfolding deliver and_then for_each
returns-clause-mailbox c = refl

pub returns-clause-unarmed : goal.returns-clause-unarmed
unfolding deliver and_then for_each
returns-clause-unarmed c = refl

pub returns-clause-armed_before : goal.returns-clause-armed_before
returns-clause-armed_before c = refl
