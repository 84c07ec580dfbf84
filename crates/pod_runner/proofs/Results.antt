-- What a result says where it is Ok.
use Rattle.std.proofs.Common.{Err, Ok, OnOk, Result}

-- what follows from what an Ok says, an Ok says as well
pub on_ok : {T E P Q : Type 0} (r : Result T E) → (P → Q) → OnOk r P → OnOk r Q
on_ok (Ok x) f h = f h
on_ok (Err e) f h = tt
