use Rattle.state_text.specs.Text.{thread_words}
use Rattle.std.proofs.Common.{drop, ◌++◌, ◌≡◌}
use Rattle.std.specs.List.{flat_map}
use Rattle.std.specs.Prelude.{codes}
use Rattle.lwp_explore.proofs.ends.add_each.Given as goal

abbrev pub invariant-loop-place : goal.invariant-loop-place
invariant-loop-place l = l.out.items ++ flat_map (λ threads. codes ", cycle" ++ thread_words threads) (drop l.place l.cycles)
    ≡ l.initial.out.items ++ flat_map (λ threads. codes ", cycle" ++ thread_words threads) l.cycles
