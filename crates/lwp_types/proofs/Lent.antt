-- What a text of two parts compares to.
use Rattle.std.proofs.Common.{Bool, List, ap, eqb, false, sym, true, true≢false, ℕ, ◌++◌, ◌∙◌, ◌≡◌, ◌≢◌}
use Rattle.std.proofs.lemmas.Bool.Decides.{Decides-eqb, Decides-like, same_from_decides}
use Rattle.std.proofs.lemmas.List.{append_cancel_left}
use Rattle.std.proofs.lemmas.Slice.Eq.{bytes_eq-Decides, slice_eq-Decides}
use Rattle.std.specs.Cmp.Lexicographic.{pointwise}
use Rattle.std.specs.Str.{bytes_eq}

-- where other bytes begin with its lead, it has them if what comes after is the same
pub rest_decides : (lead rest tail text bytes : List ℕ) (r : Bool) → lead ++ rest ≡ text → bytes ≡ lead ++ tail
    → r ≡ pointwise eqb tail rest → r ≡ bytes_eq text bytes
rest_decides lead rest tail text bytes r parts begins same = same_from_decides r (bytes_eq text bytes)
    (Decides-like r (λ e. sym parts ∙ ap (λ xs. lead ++ xs) (sym e) ∙ sym begins)
    (λ e. append_cancel_left lead tail rest (sym begins ∙ sym e ∙ sym parts)) (slice_eq-Decides Decides-eqb tail rest r same))
    (bytes_eq-Decides text bytes)

-- and where they don't begin so, it has others
pub other_lead : (lead rest text bytes : List ℕ) → lead ++ rest ≡ text → ((tail : List ℕ) → bytes ≢ lead ++ tail) → false ≡ bytes_eq text bytes
other_lead lead rest text bytes parts none = same_from_decides false (bytes_eq text bytes)
    ((λ e. absurd (true≢false (sym e))), (λ e. absurd (none rest (sym e ∙ sym parts))))
    (bytes_eq-Decides text bytes)
