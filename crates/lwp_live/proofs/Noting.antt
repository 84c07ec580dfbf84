-- Notes are kept while lines are taken.
use Rattle.lwp_live.proofs.Told.{told_step}
use Rattle.lwp_live.specs.Answers.{Known, Telling, after_step, replies_in, told_in}
use Rattle.lwp_live.specs.Telling.{steps_of}
use Rattle.lwp_types.specs.Poll.{Next}
use Rattle.pod_runner.proofs.Plays.{play-take}
use Rattle.pod_runner.specs.Live.{Extends}
use Rattle.pod_runner.specs.Play.{play}
use Rattle.pod_runner.specs.Run.{GoesOn, Played, session_of, setting_of}
use Rattle.pod_runner.specs.Session.{Made, Session, Setting, take_step}
use Rattle.pod_runner.specs.declared.session.Took.{Took}
use Rattle.std.proofs.Common.{List, [], ap, append-nil, append_assoc, arith, drop, fold, length, length-append, refl, slice_index_or, subst, sym, take}
use Rattle.std.proofs.Common.{ℕ, zero, suc, ◌+◌, ◌++◌, ◌-◌, ◌<◌, ◌∙◌, ◌∷◌, ◌≡◌, ◌≤◌}
use Rattle.std.proofs.Math.Seq.{drop-append_seam, take-length}
use Rattle.std.proofs.Math.ListN.{drop_of_length-le}
use Rattle.std.proofs.lemmas.List.{drop-append-le, length-take-le, take_more}
use Rattle.std.proofs.lemmas.List.Sums.{fold-append}
use Rattle.std.specs.List.{All}

-- one take more
abbrev pub after_take : Known → Took → Known
after_take known took = record known { takes = took ∷ known.takes }

-- what is known after these takes
abbrev pub after_takes : List Took → Known → Known
after_takes takes known = fold after_take known takes

pub takes_more : (takes : List Took) (took : Took) (known : Known) → after_takes (takes ++ took ∷ []) known ≡ after_take (after_takes takes known) took
takes_more takes took known = fold-append after_take known takes (took ∷ [])

-- ---- a loop over the takes from a place on

pub noted_none : (n : ℕ) (takes : List Took) (known : Known) → after_takes (drop n (take n takes)) known ≡ known
noted_none n takes known = ap (λ ts. after_takes ts known) (none n takes)
  where
    none : (n : ℕ) (takes : List Took) → drop n (take n takes) ≡ []
    none zero takes = refl
    none (suc n) [] = refl
    none (suc n) (t ∷ takes) = none n takes

pub noted_more : (before i : ℕ) (takes : List Took) (took : Took) (known : Known) → before ≤ i → i < length takes → took ≡ slice_index_or takes i took
    → after_takes (drop before (take (i + 1) takes)) known ≡ after_take (after_takes (drop before (take i takes)) known) took
noted_more before i takes took known from low is =
    let n : length (take i takes) ≡ i = length-take-le i takes (omega (arith, low)) in
    let here : take (i + 1) takes ≡ take i takes ++ took ∷ []
    = take_more takes i took low ∙ ap (λ t. take i takes ++ t ∷ []) (sym is) in
    ap (λ ts. after_takes (drop before ts) known) here
    ∙ ap (λ ts. after_takes ts known) (drop-append-le before (take i takes) (took ∷ []) (omega (arith, n, from)))
    ∙ takes_more (drop before (take i takes)) took known

pub noted_all : (before i : ℕ) (takes old later : List Took) → takes ≡ old ++ later → before ≡ length old → length takes ≤ i
    → drop before (take i takes) ≡ later
noted_all before i takes old later is from past =
    ap (drop before) (all i takes past) ∙ ap (λ n. drop n takes) from ∙ ap (drop (length old)) is ∙ drop-append_seam old later
  where
    all : (i : ℕ) (xs : List Took) → length xs ≤ i → take i xs ≡ xs
    all zero [] h = refl
    all (suc i) [] h = refl
    all zero (x ∷ xs) h = absurd (omega (arith, h))
    all (suc i) (x ∷ xs) h = ap (λ ys. x ∷ ys) (all i xs (omega (arith, h)))

-- ---- what takes alone tell

-- after takes of this turn, which tell nothing
pub took_more : {B : Type 0} (setting : Setting B) (n : ℕ) (later takes : List Took) →
    ((k : ℕ) (d : Took) → k < length later → (slice_index_or later k d).turn ≡ n)
    → told_in (play setting (takes ++ later) n).steps
    ≡ record (told_in (play setting takes n).steps) { known = after_takes later (told_in (play setting takes n).steps).known }
took_more setting n [] takes at = ap (λ ts. told_in (play setting ts n).steps) (append-nil takes)
took_more setting n (took ∷ later) takes at =
    let first : told_in (play setting (takes ++ took ∷ []) n).steps
    ≡ record (told_in (play setting takes n).steps) { known = after_take (told_in (play setting takes n).steps).known took }
    = ap (λ (s : Session _). told_in s.steps) (play-take setting took takes n (at 0 took (omega arith)))
    ∙ told_step (play setting takes n).steps _ ∙ (λ i. record {
      known = after_take (told_in (play setting takes n).steps).known took;
      replies = append-nil (told_in (play setting takes n).steps).replies i;
    }) in
    ap (λ ts. told_in (play setting ts n).steps) (sym (append_assoc takes (took ∷ []) later))
    ∙ took_more setting n later (takes ++ took ∷ []) (λ k d low. at (suc k) d (omega (arith, low)))
    ∙ ap (λ (t : Telling). record t { known = after_takes later t.known }) first

-- a run has only taken lines
pub record TookOnly {B P : Type 0} (next : Next B) (bodies : P → List B) (old new : Played P) : Type 0 where
  pub later : List Took
  pub takes : new.takes ≡ old.takes ++ later
  pub told : told_in (steps_of next bodies new)
      ≡ record (told_in (steps_of next bodies old)) { known = after_takes later (told_in (steps_of next bodies old)).known }

pub took_only : {B P : Type 0} (next : Next B) (bodies : P → List B) (old new : Played P) (later : List Took) → GoesOn old new
    → Extends next bodies old new later → new.calls ≡ old.calls → TookOnly next bodies old new
took_only next bodies old new later same more still = record {
  later = later;
  takes = more.takes;
  told = (λ i. told_in (play (record {
    next = next;
    bodies = bodies (same.program i);
    params = same.params i;
    names = same.names i;
  }) (more.takes i) (still i)).steps)
      ∙ took_more (setting_of next bodies old) old.calls later old.takes
      (λ k d low. let b = more.between k d low in omega (arith, b.0, b.1, still));
}
