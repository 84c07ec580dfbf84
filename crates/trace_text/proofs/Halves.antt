-- A text whose first bytes were put and then its last, as many of each.
use Rattle.std.proofs.Common.{List, ap, arith, drop, length, sym, take, ℕ, ◌++◌, ◌+◌, ◌-◌, ◌≤◌, ◌∙◌, ◌≡◌}
use Rattle.std.proofs.lemmas.List.{append_assoc, length-append, length-drop, length-take, take-append-drop, take-append-le}
use Rattle.std.proofs.lemmas.Slice.{between_to_end, take-put_mid}
use Rattle.std.proofs.Math.Seq.{take-append-add}
use Rattle.std.specs.List.{between}
use borrow.Rule.Slice.PartMut.{post_of, put_mid}

module _ (row text first last : List ℕ) (at half k l : ℕ) (within : at ≤ length row) (least : half ≤ length text)
    (most : length text ≤ half + half) (starts : first ≡ take half text) (ends : last ≡ between (length text - half) (length text) text) where
  closes : last ≡ drop (length text - half) text
  closes = ends ∙ between_to_end text (length text - half) (length text) (omega arith)

  first_length : length first ≡ half
  first_length = ap length starts ∙ length-take half text ∙ omega (arith, least)

  last_length : length last ≡ half
  last_length = ap length closes ∙ length-drop (length text - half) text ∙ omega (arith, least)

  row_length : length (take at row) ≡ at
  row_length = length-take at row ∙ omega (arith, within)

  part : take (length text - half) first ≡ take (length text - half) text
  part =
      ap (take (length text - half)) starts
      ∙ sym (take-append-le (length text - half) (take half text) (drop half text) (omega (arith, most, length-take half text)))
      ∙ ap (take (length text - half)) (take-append-drop half text)

  begun : take (at + (length text - half)) (put_mid at k row first) ≡ take at row ++ take (length text - half) text
  begun =
      ap (λ n. take (n + (length text - half)) (put_mid at k row first)) (sym row_length)
      ∙ take-append-add (take at row) (first ++ post_of at k row) (length text - half)
      ∙ ap (λ xs. take at row ++ xs) (take-append-le (length text - half) first (post_of at k row) (omega (arith, most, first_length)) ∙ part)

  fits : at + length text - half ≤ length (put_mid at k row first)
  fits = omega (arith, most, first_length, row_length, length-append (take at row) (first ++ post_of at k row), length-append first (post_of at k row))

  pub by_ends : take (at + length text) (put_mid (at + length text - half) l (put_mid at k row first) last) ≡ take at row ++ text
  by_ends =
      let same : at + length text - half ≡ at + (length text - half) = omega (arith, least) in
      take-put_mid (at + length text - half) l (put_mid at k row first) last (at + length text) (omega (arith, least, last_length)) fits
      ∙ ap (λ xs. xs ++ last) (ap (λ n. take n (put_mid at k row first)) same ∙ begun)
      ∙ append_assoc (take at row) (take (length text - half) text) last
      ∙ ap (λ xs. take at row ++ (take (length text - half) text ++ xs)) closes
      ∙ ap (λ xs. take at row ++ xs) (take-append-drop (length text - half) text)
