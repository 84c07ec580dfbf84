use Rattle.std.proofs.Common.{map, take, ◌≡◌}
use Rattle.lwp_state.proofs.ClientLaws.{quiet}
use Rattle.lwp_state.proofs.clients.silent_clients.Given as goal

abbrev pub invariant-loop-place : goal.invariant-loop-place
invariant-loop-place l = l.clients.items ≡ map quiet (take l.place l.events)
