use Rattle.snapshots.specs.Copies.{state_in}
use Rattle.state_text.specs.Waiting.{cycle_from, next_of, round}
use Rattle.std.proofs.Common.{length, ◌++◌, ◌-◌, ◌≡◌}
use Rattle.std.specs.Prelude.{option_map}
use Rattle.state_text.proofs.cycles.cycle_from.Given as goal

abbrev pub invariant-loop-step : goal.invariant-loop-step
invariant-loop-step l = option_map (λ us. l.cycle ++ us) (round (next_of (state_in l.pod.state)) l.fn.start (length l.pod.state.threads - l.step) l.here)
    ≡ cycle_from (state_in l.pod.state) l.fn.start
