-- What holds of an answer whose case is known.
use Rattle.std.proofs.Common.{IfNone, IfSome, None, Option, Some, Bool, false, not, refl, true, ◌≡◌}

pub if_some : {X : Type 0} (o : Option X) (P Q : X → Type 0) → IfSome o P → ((x : X) → P x → Q x) → IfSome o Q
if_some None P Q told step = tt
if_some (Some x) P Q told step = step x told

pub if_none : {X : Type 0} (o : Option X) (P Q : Type 0) → IfNone o P → (P → Q) → IfNone o Q
if_none None P Q told step = step told
if_none (Some x) P Q told step = tt

pub if_not : (b : Bool) → not b ≡ true → b ≡ false
if_not true told = absurd (cc)
if_not false told = refl
