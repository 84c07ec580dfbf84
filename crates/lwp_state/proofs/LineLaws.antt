-- How many lines were taken, piece by piece.
use Rattle.lwp_types.specs.Streams.{after_append}
use Rattle.replay.proofs.LineLaws.{count-append}
use Rattle.replay.specs.Recorded.{is_newline, line_count}
use Rattle.std.proofs.Common.{Bool, List, Option, Some, [], ap, arith, cond, false, length, suc, take, take_all, true, ℕ, ◌++◌, ◌+◌, ◌∙◌, ◌∷◌, ◌≡◌, ◌≤◌}

pub appended : (old new more : List ℕ) (n : ℕ) → Some new ≡ after_append (Some old) (take n more) → n ≡ length more → new ≡ old ++ more
appended old new more n is all =
    let same : ◌≡◌ {A = Option (List ℕ)} (Some new) (Some (old ++ take n more)) = is in
    let so : new ≡ old ++ take n more = cc same in
    so ∙ ap (λ ls. old ++ ls) (take_all n more (omega (arith, all)))

few-lines : (bytes : List ℕ) → line_count bytes ≤ length bytes
few-lines [] = omega arith
few-lines (b ∷ bytes) = by (is_newline b) (line_count bytes) (few-lines bytes)
  where
    by : (newline : Bool) (n : ℕ) → n ≤ length bytes → cond newline (suc n) n ≤ suc (length bytes)
    by true n h = omega (arith, h)
    by false n h = omega (arith, h)

pub fits : (lines more most : ℕ) (old new extra : List ℕ) → lines ≡ line_count old → more ≡ line_count extra → new ≡ old ++ extra
    → most ≡ length new → lines + more ≤ most
fits lines more most old new extra had has is count = omega (arith, had, has, count, few-lines new, ap line_count is, count-append old extra)

pub adds : (lines more all : ℕ) (old new extra : List ℕ) → lines ≡ line_count old → more ≡ line_count extra → new ≡ old ++ extra
    → all ≡ lines + more → all ≡ line_count new
adds lines more all old new extra had has is sum = omega (arith, had, has, sum, ap line_count is, count-append old extra)
