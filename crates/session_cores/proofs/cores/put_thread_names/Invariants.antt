use Rattle.std.proofs.Common.{length, take, ◌++◌, ◌∷◌, ◌≡◌}
use Rattle.session_cores.proofs.cores.put_thread_names.Given as goal

abbrev pub invariant-loop-i : goal.invariant-loop-i
invariant-loop-i l = l.key ≡ l.fn.key ++ length l.env.threads ∷ take l.i l.env.threads
