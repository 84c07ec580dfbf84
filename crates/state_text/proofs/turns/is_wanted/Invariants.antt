use Rattle.pod_events.specs.Copies.{events_in}
use Rattle.state_text.specs.Text.{is_wanted}
use Rattle.std.proofs.Common.{drop, ◌≡◌}
use Rattle.state_text.proofs.turns.is_wanted.Given as goal

abbrev pub invariant-loop-i : goal.invariant-loop-i
invariant-loop-i l = is_wanted (events_in l.pod) l.taken l.i (drop l.i l.clients) ≡ is_wanted (events_in l.pod) l.taken 0 l.clients
