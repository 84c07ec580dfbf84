-- What a sink of answers has taken, part by part.
use Rattle.lwp_live.proofs.Told.{answers_grow}
use Rattle.lwp_live.specs.Answers.{answers_in}
use Rattle.lwp_live.specs.Telling.{Answering, IsStopOf, Untold, as_run}
use Rattle.lwp_live.specs.declared.stop.Stop.{Stop}
use Rattle.lwp_live.specs.declared.stop.Stop.TheVariants as stop
use Rattle.pod_runner.proofs.Appends.{part_none, part_then, writes_none, writes_part, writes_then}
use Rattle.pod_runner.proofs.Rounds.{stream}
use Rattle.pod_runner.specs.Run.{Writes}
use Rattle.pod_runner.specs.Session.{Made}
use Rattle.pod_runner.specs.declared.phase.RunErr.{RunErr}
use Rattle.pod_runner.specs.declared.phase.RunErr.TheVariants as fails
use Rattle.streams.specs.Streams.{IsFaultless, IsFaulty, Stream}
use Rattle.std.proofs.Common.{List, ap, refl, subst, sym, ℕ, ◌++◌, ◌∙◌, ◌≡◌}
use Rattle.std.specs.Prelude.{Err, IsErrAnd, Ok, Option, Result}

-- ---- without an error

pub answering_ok : {T : Type 0} (s : Stream) (before after : List Made) (x : T) → Writes s.old s.new (answers_in before) (answers_in after)
    → IsFaultless s → Answering s before after (Ok x)
answering_ok s before after x whole cause = record { whole = whole; part = tt; cause = cause }

pub answering_answer : {T U : Type 0} (s : Stream) (before after : List Made) (x : T) (y : U) → Answering s before after (Ok x)
    → Answering s before after (Ok y)
answering_answer s before after x y h = record { whole = h.whole; part = tt; cause = h.cause }

-- nothing happened
pub answering_same : {T : Type 0} (w : Option (List ℕ)) (f : ℕ) (steps : List Made) (x : T) → Answering (stream w w f f) steps steps (Ok x)
answering_same w f steps x = record { whole = writes_none w (answers_in steps); part = tt; cause = refl }

-- ---- with an error

pub answering_other : (T U : Type 0) (s : Stream) (before after : List Made) (e : Stop) → Answering {T = T} s before after (Err e)
    → Answering {T = U} s before after (Err e)
answering_other T U s before after stop.NoMemory h = record { whole = tt; part = h.part; cause = h.cause }
answering_other T U s before after stop.TraceFault h = record { whole = tt; part = h.part; cause = h.cause }
answering_other T U s before after stop.AnswerFault h = record { whole = tt; part = h.part; cause = h.cause }
answering_other T U s before after stop.RecordFault h = record { whole = tt; part = h.part; cause = h.cause }

pub answering_err : (T U : Type 0) (s : Stream) (before after : List Made) (r : Result U Stop) (e : Stop) → IsErrAnd r (λ given. given ≡ e)
    → Answering {T = T} s before after (Err e) → Answering s before after r
answering_err T U s before after (Ok x) e is h = absurd is
answering_err T U s before after (Err given) e is h =
    subst (λ given. Answering {T = U} s before after (Err given)) (sym is) (answering_other T U s before after e h)

-- after a part that was written whole
pub answering_then : {T : Type 0} (a b c : Option (List ℕ)) (i j k : ℕ) (first mid last : List Made) (r : Result T Stop)
    → Writes a b (answers_in first) (answers_in mid) → j ≡ i → Answering (stream b c j k) mid last r → Answering (stream a c i k) first last r
answering_then a b c i j k first mid last (Ok x) p same q =
    record { whole = writes_then p q.whole; part = tt; cause = q.cause ∙ same }
answering_then a b c i j k first mid last (Err stop.NoMemory) p same q =
    record { whole = tt; part = part_then p q.part; cause = q.cause ∙ same }
answering_then a b c i j k first mid last (Err stop.TraceFault) p same q =
    record { whole = tt; part = part_then p q.part; cause = q.cause ∙ same }
answering_then a b c i j k first mid last (Err stop.AnswerFault) p same q =
    record { whole = tt; part = part_then p q.part; cause = subst (λ n. IsFaulty (stream a c n k)) same q.cause }
answering_then a b c i j k first mid last (Err stop.RecordFault) p same q =
    record { whole = tt; part = part_then p q.part; cause = q.cause }

-- ---- steps that tell nothing

pub untold_ok : {T : Type 0} (before after : List Made) (x : T) → answers_in after ≡ answers_in before → Untold before after (Ok x)
untold_ok before after x same = λ w f.
    record { whole = subst (λ l. Writes w w (answers_in before) l) (sym same) (writes_none w (answers_in before)); part = tt; cause = refl }

pub untold_answer : {T U : Type 0} (before after : List Made) (x : T) (y : U) → Untold before after (Ok x) → Untold before after (Ok y)
untold_answer before after x y h = λ w f.
    let u = h w f in record { whole = u.whole; part = tt; cause = u.cause }

pub untold_same : {T U : Type 0} (before after : List Made) (r : Result U Stop) (e : Stop) → IsErrAnd r (λ given. given ≡ e)
    → Untold {T = T} before after (Err e) → Untold before after r
untold_same {T} {U} before after r e is h = λ w f. answering_err T U (stream w w f f) before after r e is (h w f)

-- whatever steps came before an error of the run itself
untold_more : {T : Type 0} (before after rest : List Made) (e : RunErr) (why : Stop) → IsStopOf e why → after ≡ before ++ rest
    → Untold {T = T} before after (Err why)
untold_more {T} before after rest fails.NoMemory why is more = subst (λ why. Untold {T = T} before after (Err why)) (sym is)
    (λ w f. record {
      whole = tt;
      part = let g = answers_grow before rest in part_none w (answers_in before) (answers_in after) g.0 (ap answers_in more ∙ g.1);
      cause = refl;
    })
untold_more {T} before after rest fails.WriteFault why is more = subst (λ why. Untold {T = T} before after (Err why)) (sym is)
    (λ w f. record {
      whole = tt;
      part = let g = answers_grow before rest in part_none w (answers_in before) (answers_in after) g.0 (ap answers_in more ∙ g.1);
      cause = refl;
    })

pub untold_err : {T : Type 0} (before after rest : List Made) (r : Result T Stop) (e : RunErr) → IsErrAnd r (λ why. IsStopOf e why)
    → after ≡ before ++ rest → Untold before after r
untold_err before after rest (Ok x) e is more = absurd is
untold_err before after rest (Err why) e is more = untold_more before after rest e why is more

-- after steps that tell nothing
pub untold_then : {T U : Type 0} (b c : Option (List ℕ)) (j k : ℕ) (first mid last : List Made) (x : T) (r : Result U Stop)
    → Untold first mid (Ok x) → Answering (stream b c j k) mid last r → Answering (stream b c j k) first last r
untold_then b c j k first mid last x r p q = answering_then b b c j j k first mid last r (p b j).whole refl q

-- ---- an error of another part

-- memory ran out after all was written
pub answering_refused : {T U : Type 0} (s : Stream) (before after : List Made) (x : T) (r : Result U Stop) → IsErrAnd r (λ why. why ≡ stop.NoMemory)
    → Answering s before after (Ok x) → Answering s before after r
answering_refused s before after x (Ok y) is h = absurd is
answering_refused {T} {U} s before after x (Err why) is h = subst (λ why. Answering {T = U} s before after (Err why)) (sym is) (record {
  whole = tt;
  part = writes_part h.whole;
  cause = h.cause;
})

-- the trace couldn't be written after that
pub answering_broken : {T U : Type 0} (s : Stream) (before after : List Made) (x : T) → Answering s before after (Ok x)
    → Answering {T = U} s before after (Err stop.TraceFault)
answering_broken s before after x h = record {
  whole = tt;
  part = writes_part h.whole;
  cause = h.cause;
}
