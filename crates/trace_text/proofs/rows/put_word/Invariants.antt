use Rattle.std.proofs.Common.{drop, length, take, ◌++◌, ◌+◌, ◌≡◌}
use Rattle.trace_text.proofs.rows.put_word.Given as goal

abbrev pub invariant-loop-i : goal.invariant-loop-i
invariant-loop-i l = (take (l.at + l.i) l.row ++ drop l.i l.word ≡ take l.at l.initial.row ++ l.word)
    × (length l.row ≡ length l.initial.row)
