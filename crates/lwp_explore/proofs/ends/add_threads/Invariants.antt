use Rattle.state_text.specs.Text.{thread_words}
use Rattle.std.proofs.Common.{drop, ◌++◌, ◌≡◌}
use Rattle.lwp_explore.proofs.ends.add_threads.Given as goal

abbrev pub invariant-loop-place : goal.invariant-loop-place
invariant-loop-place l = l.out.items ++ thread_words (drop l.place l.threads) ≡ l.initial.out.items ++ thread_words l.threads
