-- What is asked of the pod that was taken out of a handle.
use Rattle.std.proofs.Common.{◌≡◌, ℕ, sym, ap, ◌∙◌, subst}
use Rattle.std.specs.Prelude.{IfSome, Option, Some}
use Rattle.c_pods.specs.declared.held_pod.HeldPod.{HeldPod}

-- it is what is asked of the handle
pub asked_of : {A : Type 0} (f : Option HeldPod → A) {held now : HeldPod} {x : Option HeldPod} {a : A}
    → Some held ≡ x → now ≡ held → a ≡ f (Some now) → a ≡ f x
asked_of f e d h = h ∙ ap (λ y. f (Some y)) d ∙ ap f e

-- what holds of the pod before and after holds of the handle
pub both_of : (P : HeldPod → HeldPod → Type 0) {held next : HeldPod} {x y : Option HeldPod} → Some held ≡ x → y ≡ Some next → P held next
    → IfSome x (λ h. ◌≡◌ {A = ℕ} 0 0 → IfSome y (λ n. P h n))
both_of P {held} {next} {x} {y} e f p =
    subst (λ z. IfSome z (λ h. ◌≡◌ {A = ℕ} 0 0 → IfSome y (λ n. P h n))) e (λ _. subst (λ z. IfSome z (λ n. P held n)) (sym f) p)

-- what holds of the pod that was taken out holds of the one that the handle had
pub that_of : (P : HeldPod → Type 0) {held now : HeldPod} {x : Option HeldPod} → Some held ≡ x → now ≡ held → P now → IfSome x P
that_of P e d p = subst (λ y. IfSome y P) e (subst P d p)
