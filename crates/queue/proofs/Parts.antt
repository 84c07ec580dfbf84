-- What is put down in parts.
use Rattle.std.proofs.Common.{List, ap, append_assoc, Result, Ok, Err, OnOk, ℕ, ◌++◌, ◌∙◌, ◌≡◌}

-- what is so of an Ok goes on to what follows from it
pub on_ok : {T E P Q : Type 0} (r : Result T E) → (P → Q) → OnOk r P → OnOk r Q
on_ok (Ok x) f h = f h
on_ok (Err e) f h = tt

pub three_parts : (out one two three a b e : List ℕ) → one ≡ out ++ a → two ≡ one ++ b → three ≡ two ++ e → three ≡ out ++ (a ++ (b ++ e))
three_parts out one two three a b e p q r =
    r ∙ ap (λ o. o ++ e) (q ∙ ap (λ o. o ++ b) p) ∙ append_assoc (out ++ a) b e ∙ append_assoc out a (b ++ e)

pub four_parts : (out one two three four a b d e : List ℕ) → one ≡ out ++ a → two ≡ one ++ b → three ≡ two ++ d → four ≡ three ++ e
    → four ≡ out ++ (a ++ (b ++ (d ++ e)))
four_parts out one two three four a b d e p q r s =
    s ∙ ap (λ o. o ++ e) (r ∙ ap (λ o. o ++ d) (q ∙ ap (λ o. o ++ b) p)) ∙ append_assoc ((out ++ a) ++ b) d e ∙ append_assoc (out ++ a) b (d ++ e)
    ∙ append_assoc out a (b ++ (d ++ e))
