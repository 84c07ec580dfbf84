-- What a result tells.
use Rattle.std.proofs.Common.{Err, OnErr, OnOk, Ok, Result, refl}
use Rattle.std.specs.Prelude.{IsErr}

-- where it is no Err, it is Ok
pub on_ok : {A B : Type 0} (o : Result A B) (P : Type 0) → OnOk o P → (IsErr o → ⊥) → P
on_ok (Ok n) P h never = h
on_ok (Err e) P h never = absurd (never refl)

-- what is so of an Ok goes on to what follows from it
pub ok_then : {A B P Q : Type 0} (o : Result A B) → OnOk o P → (P → Q) → OnOk o Q
ok_then (Ok n) p f = f p
ok_then (Err e) p f = tt

-- what follows from an Ok and from an Err is so
pub either_way : {A B P Q R : Type 0} (o : Result A B) → OnOk o P → OnErr o Q → (P → R) → (Q → R) → R
either_way (Ok n) p q f g = f p
either_way (Err e) p q f g = g q
