-- What was written to a sink.
use Rattle.lwp_types.specs.Streams.{after_append}
use Rattle.std.proofs.Common.{List, None, Option, Some, ap, append_assoc, arith, drop, length, length-drop, refl, sym, take, ℕ, ◌++◌, ◌+◌, ◌-◌, ◌∙◌, ◌≡◌, ◌≤◌}
use Rattle.std.proofs.Math.Seq.{take-add, take-length}
use Rattle.std.specs.Prelude.{Err, Ok, OnErr, Result}
use Rattle.streams.specs.Writing.{AppendsPart}

pub appended-append : (w : Option (List ℕ)) (a b : List ℕ) → after_append (after_append w a) b ≡ after_append w (a ++ b)
appended-append None a b = refl
appended-append (Some told) a b = ap (λ x. Some x) (append_assoc told a b)

-- a write of the next bytes, out of all that are left
pub told_on : (w old new : Option (List ℕ)) (n k : ℕ) (bytes : List ℕ) → old ≡ after_append w (take n bytes)
    → new ≡ after_append old (take k (take (length bytes - n) (drop n bytes))) → new ≡ after_append w (take (n + k) bytes)
told_on w old new n k bytes h e =
    let rest : take (length bytes - n) (drop n bytes) ≡ drop n bytes = rw (← length-drop n bytes) (take-length (drop n bytes)) in
    e ∙ rw (h, rest) (appended-append w (take n bytes) (take k (drop n bytes))) ∙ ap (after_append w) (sym (take-add n k bytes))

-- the first bytes are written, and of the rest only some
pub rest_cut : (old mid new : Option (List ℕ)) (n : ℕ) (bytes : List ℕ) → n ≤ length bytes → mid ≡ after_append old (take n bytes)
    → AppendsPart mid new (take (length bytes - n) (drop n bytes)) → AppendsPart old new bytes
rest_cut old mid new n bytes within h part =
    let rest : take (length bytes - n) (drop n bytes) ≡ drop n bytes = rw (← length-drop n bytes) (take-length (drop n bytes)) in
    let size = ap length rest in
    record {
      kept = n + part.kept;
      told = told_on old mid new n part.kept bytes h part.told;
      not_all = omega (arith, part.not_all, size, length-drop n bytes, within);
    }

-- a fact of an error holds where there is one
pub on_err : {X E : Type 0} (r : Result X E) (P : Type 0) → P → OnErr r P
on_err (Ok x) P h = tt
on_err (Err e) P h = h
