use Rattle.std.proofs.Common.{take, ◌≡◌}
use Rattle.lwp_state.specs.Clients.{clients_from}
use Rattle.script_text.specs.Script.{lines_posted}
use Rattle.lwp_state.proofs.clients.clients_of.Given as goal

abbrev pub invariant-loop-place : goal.invariant-loop-place
invariant-loop-place l = l.clients.items ≡ clients_from 0 l.script.clients (take l.place (lines_posted l.script))
