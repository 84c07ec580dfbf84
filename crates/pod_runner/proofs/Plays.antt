-- A session one step on.
use Rattle.std.proofs.Common.{◌≡◌, ◌≤◌, ℕ, zero, suc, Bool, true, false, subst, ◌+◌, List, [], ◌∷◌}
use Rattle.std.proofs.Common.{◌++◌, ap, ◌∙◌, sym, refl, add-one, append-nil, append_assoc, arith}
use Rattle.std.specs.Prelude.{Option, option_map, reverse, IsTrue, MatchBool, ◌==◌}
use Rattle.std.proofs.lemmas.List.{reverse-append}
use Rattle.std.proofs.lemmas.Bool.{eq-eqb, eqb-true, ne_eqb}
use Rattle.pod_runner.specs.Due.{AllDue, IsDefined, TakeDue, is_call_due, is_take_due}
use Rattle.pod_runner.specs.Play.{LastBy, play, session_of_takes, with_take}
use Rattle.trace_text.specs.Lines.{step_lines}
use Rattle.pod_runner.specs.Trace.{lines, made_lines}
use Rattle.lwp_types.specs.declared.call.Effect.{Effect}
use Rattle.pod_runner.specs.Session.{Made, Session, Setting, call_step, opening_session, take_step}
use Rattle.pod_runner.specs.declared.session.Took.{Took}

-- with the newest take before it, a call is the last step
pub played-call : {B : Type 0} (setting : Setting B) (takes : List Took) (n : ℕ) → LastBy takes n
    → session_of_takes setting takes (n + 1) ≡ call_step setting (session_of_takes setting takes n)
played-call setting [] n h = rw add-one refl
played-call setting (t ∷ takes) n h = rw (add-one, ne_eqb t.turn (suc n) (λ e. omega arith)) refl

pub play-zero : {B : Type 0} (setting : Setting B) → play setting [] 0 ≡ opening_session setting
unfolding play
play-zero setting = refl

pub play-call : {B : Type 0} (setting : Setting B) (takes : List Took) (n : ℕ) → LastBy (reverse takes) n
    → play setting takes (n + 1) ≡ call_step setting (play setting takes n)
unfolding play
play-call setting takes n h = played-call setting (reverse takes) n h

-- where a take is the newest of this turn, it is the last step
played-take : {B : Type 0} (setting : Setting B) (took : Took) (takes : List Took) (n : ℕ) → took.turn ≡ n
    → session_of_takes setting (took ∷ takes) n ≡ take_step setting took (session_of_takes setting takes n)
played-take setting took takes zero h = refl
played-take setting took takes (suc n) h = rw (eq-eqb took.turn (suc n) h) refl

newest : {A : Type 0} (xs : List A) (x : A) → reverse (xs ++ x ∷ []) ≡ x ∷ reverse xs
newest xs x = reverse-append xs (x ∷ [])

pub play-take : {B : Type 0} (setting : Setting B) (took : Took) (takes : List Took) (n : ℕ) → took.turn ≡ n
    → play setting (takes ++ took ∷ []) n ≡ take_step setting took (play setting takes n)
unfolding play
play-take setting took takes n h = ap (λ newest. session_of_takes setting newest n) (newest takes took) ∙ played-take setting took (reverse takes) n h

-- ---- defined sessions

-- no take of a session comes after its last call
last-due : {B : Type 0} (setting : Setting B) (took : Took) (before : ℕ → Session B) (Before : ℕ → Type 0) (n : ℕ)
    → TakeDue setting took before Before n → took.turn ≤ n
last-due setting took before Before zero h = omega (arith, h.0)
last-due setting took before Before (suc n) h = by_turn (took.turn == suc n) refl (λ rest. last-due setting took before Before n rest) h
  where
    by_turn : (b : Bool) → (took.turn == suc n) ≡ b → (TakeDue setting took before Before n → took.turn ≤ n)
        → MatchBool b (Before (suc n) × IsTrue (is_take_due took (before (suc n))))
        (TakeDue setting took before Before n × IsTrue (is_call_due (with_take setting took before n)))
        → took.turn ≤ suc n
    by_turn true is earlier h = omega (arith, eqb-true took.turn (suc n) is)
    by_turn false is earlier h = let e = earlier h.0 in omega (arith, e)

last-all : {B : Type 0} (setting : Setting B) (takes : List Took) (n : ℕ) → AllDue setting takes n → LastBy takes n
last-all setting [] n h = tt
last-all setting (took ∷ takes) n h = last-due setting took (session_of_takes setting takes) (AllDue setting takes) n h

pub LastBy-of : {B : Type 0} (setting : Setting B) (takes : List Took) (n : ℕ) → IsDefined setting takes n → LastBy (reverse takes) n
unfolding IsDefined
LastBy-of setting takes n h = last-all setting (reverse takes) n h

due-take : {B : Type 0} (setting : Setting B) (took : Took) (takes : List Took) (n : ℕ) → took.turn ≡ n → AllDue setting takes n
    → IsTrue (is_take_due took (session_of_takes setting takes n)) → AllDue setting (took ∷ takes) n
due-take setting took takes zero h all due = (h, all, due)
due-take setting took takes (suc n) h all due = rw (eq-eqb took.turn (suc n) h) (all, due)

pub IsDefined-take : {B : Type 0} (setting : Setting B) (took : Took) (takes : List Took) (n : ℕ) → took.turn ≡ n
    → IsDefined setting takes n → IsTrue (is_take_due took (play setting takes n)) → IsDefined setting (takes ++ took ∷ []) n
unfolding IsDefined play
IsDefined-take setting took takes n h all due =
    subst (λ newest. AllDue setting newest n) (sym (newest takes took)) (due-take setting took (reverse takes) n h all due)

pub IsDefined-zero : {B : Type 0} (setting : Setting B) → IsDefined setting [] 0
unfolding IsDefined
IsDefined-zero setting = tt

due-call : {B : Type 0} (setting : Setting B) (takes : List Took) (n : ℕ) → LastBy takes n → AllDue setting takes n
    → IsTrue (is_call_due (session_of_takes setting takes n)) → AllDue setting takes (n + 1)
due-call setting [] n h all due = rw add-one (all, due)
due-call setting (t ∷ takes) n h all due = rw (add-one, ne_eqb t.turn (suc n) (λ e. omega arith)) (all, due)

pub IsDefined-call : {B : Type 0} (setting : Setting B) (takes : List Took) (n : ℕ) → LastBy (reverse takes) n → IsDefined setting takes n
    → IsTrue (is_call_due (play setting takes n)) → IsDefined setting takes (n + 1)
unfolding IsDefined play
IsDefined-call setting takes n h all due = due-call setting (reverse takes) n h all due

-- ---- the lines of a session

pub lines-append : (procs : List (List ℕ)) (a b : List Made) → lines procs (a ++ b) ≡ lines procs a ++ lines procs b
lines-append procs [] b = refl
lines-append procs (made ∷ a) b = ap (λ x. made_lines procs made ++ x) (lines-append procs a b)
    ∙ sym (append_assoc (made_lines procs made) (lines procs a) (lines procs b))

-- one step more
pub lines-step : (procs : List (List ℕ)) (steps : List Made) (take : Option Took) (effects : List Effect)
    → lines procs (steps ++ record { take = take; effects = effects } ∷ [])
    ≡ lines procs steps ++ step_lines procs (option_map (λ (took : Took). took.line) take) effects
lines-step procs steps take effects = lines-append procs steps (record { take = take; effects = effects } ∷ [])
    ∙ ap (λ x. lines procs steps ++ x) (append-nil (step_lines procs (option_map (λ (took : Took). took.line) take) effects))
