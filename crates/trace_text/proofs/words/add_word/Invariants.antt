use Rattle.std.proofs.Common.{drop, length, vec_capacity, vec_len, ◌++◌, ◌+◌, ◌≡◌, ◌≤◌}
use Rattle.trace_text.proofs.words.add_word.Given as goal

abbrev pub invariant-loop-i : goal.invariant-loop-i
invariant-loop-i l = (l.out.items ++ drop l.i l.word ≡ l.initial.out.items ++ l.word)
    × (vec_len l.out + length l.word ≤ vec_capacity l.out + l.i)
