-- Numbers written one part after another.
use Rattle.std.proofs.Common.{List, [], ap, append_assoc, ℕ, ◌++◌, ◌∙◌, ◌∷◌, ◌≡◌}

-- three parts, and a list after how many it has
pub joined : (k p m n t : List ℕ) (count : ℕ) {k1 k2 k3 k4 k5 : List ℕ} → k1 ≡ k ++ p → k2 ≡ k1 ++ m → k3 ≡ k2 ++ n → k4 ≡ k3 ++ count ∷ []
    → k5 ≡ k4 ++ t → k5 ≡ k ++ (((p ++ m) ++ n) ++ (count ∷ t))
joined k p m n t count {k1} {k2} {k3} {k4} {k5} e1 e2 e3 e4 e5 =
    let parts : k3 ≡ k ++ ((p ++ m) ++ n) =
    e3 ∙ ap (λ l. l ++ n) (e2 ∙ ap (λ l. l ++ m) e1 ∙ append_assoc k p m) ∙ append_assoc k (p ++ m) n in
    e5 ∙ ap (λ l. l ++ t) e4 ∙ append_assoc k3 (count ∷ []) t ∙ ap (λ l. l ++ (count ∷ t)) parts
    ∙ append_assoc k ((p ++ m) ++ n) (count ∷ t)
