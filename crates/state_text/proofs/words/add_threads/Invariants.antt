use Rattle.state_text.specs.Text.{thread_words}
use Rattle.std.proofs.Common.{drop, ◌++◌, ◌≡◌}
use Rattle.state_text.proofs.words.add_threads.Given as goal

abbrev pub invariant-loop-i : goal.invariant-loop-i
invariant-loop-i l = l.out.items ++ thread_words (drop l.i l.threads) ≡ l.initial.out.items ++ thread_words l.threads
