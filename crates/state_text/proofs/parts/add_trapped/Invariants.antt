use Rattle.state_text.specs.Text.{trapped_words}
use Rattle.std.proofs.Common.{drop, ◌++◌, ◌≡◌}
use Rattle.state_text.proofs.parts.add_trapped.Given as goal

abbrev pub invariant-loop-event : goal.invariant-loop-event
invariant-loop-event l = l.out.items ++ trapped_words l.event (drop l.event l.trapped) ≡ l.initial.out.items ++ trapped_words 0 l.trapped
