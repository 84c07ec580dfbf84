use Rattle.std.proofs.Common.{List, drop, length, true, ℕ, ◌≡◌, ◌≤◌}
use Rattle.script_text.specs.PackedWords.{is_full, of_digits}
use Rattle.script_text.proofs.packed_words.packed.Given as goal

-- the digits from this place on
pub record Read (word : List ℕ) (number at : ℕ) : Type 0 where
  pub digits : number ≡ of_digits (drop at word)
  pub full : is_full (drop at word) ≡ true
  pub within : at ≤ length word
  pub short : length word ≤ 16

abbrev pub invariant-loop-at : goal.invariant-loop-at
invariant-loop-at l = Read l.word l.number l.at

abbrev pub decreases-loop-at : goal.decreases-loop-at
decreases-loop-at l = l.at
