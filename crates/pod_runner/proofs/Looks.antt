-- How often inlets are looked at.
use Rattle.std.proofs.Common.{◌≡◌, ◌≤◌, ◌<◌, ℕ, zero, suc, ◌+◌, List, [], ◌∷◌, Bool, true, false, cond, ap, ◌∙◌, refl}
use Rattle.std.proofs.Common.{sym, subst, ◌++◌, length, length-append, append-nil, add-one, slice_index_or, arith}
use Rattle.std.specs.Prelude.{Result, Ok, MatchBool, IsTrue, reverse, nat_le, ◌==◌}
use Rattle.std.specs.List.{All, AllByRecursion, filter}
use Rattle.std.proofs.lemmas.Bool.{eqb-true}
use Rattle.std.proofs.lemmas.Bool.Decides.{nat_tests}
use Rattle.std.proofs.lemmas.List.{reverse-append, reverse-reverse}
use Rattle.std.proofs.lemmas.List.Elements.{filter-append}
use Rattle.event_gate.specs.Inlet.{Intake}
use Rattle.pod_events.specs.Events.{is_takeable}
use Rattle.lwp_types.specs.Poll.{Next}
use Rattle.pod_runner.specs.Due.{AllDue, IsDefined, TakeDue, armed_calls, numbers_to, is_armed_at, is_call_due, is_take_due, takes_by}
use Rattle.pod_runner.specs.Inlets.{Serves, Takes}
use Rattle.pod_runner.specs.Live.{Draws, Gives, LivesOn, LooksAt, LooksAtAll, armed_count, lines_of_takes, looks}
use Rattle.pod_runner.specs.Play.{play, session_of_takes, with_take}
use Rattle.pod_runner.specs.Run.{GoesOn, Played, after_step, phase_now, session_of, setting_of, with_call}
use Rattle.streams.specs.Streams.{Stream}
use Rattle.pod_runner.specs.Session.{Session, Setting}
use Rattle.pod_runner.specs.declared.phase.RunErr.{RunErr}
use Rattle.pod_runner.specs.declared.phase.Phase.TheVariants as phase
use Rattle.pod_runner.specs.declared.session.Took.{Took}
use Rattle.pod_runner.proofs.Lives.{gives-event}

-- ---- takes by a number of calls

-- no take comes after the last call
due-parts : {B : Type 0} (setting : Setting B) (took : Took) (before : ℕ → Session B) (Before : ℕ → Type 0) (n : ℕ)
    → TakeDue setting took before Before n → (took.turn ≤ n) × Before took.turn
due-parts setting took before Before zero h = (omega (arith, h.0), subst Before (sym h.0) h.1)
due-parts setting took before Before (suc n) h = by_turn (took.turn == suc n) refl (λ rest. due-parts setting took before Before n rest) h
  where
    by_turn : (b : Bool) → (took.turn == suc n) ≡ b → (TakeDue setting took before Before n → (took.turn ≤ n) × Before took.turn)
        → MatchBool b (Before (suc n) × IsTrue (is_take_due took (before (suc n))))
        (TakeDue setting took before Before n × IsTrue (is_call_due (with_take setting took before n)))
        → (took.turn ≤ suc n) × Before took.turn
    by_turn true is earlier h = let e = eqb-true took.turn (suc n) is in (omega (arith, e), subst Before (sym e) h.0)
    by_turn false is earlier h = let e = earlier h.0 in (omega (arith, e.0), e.1)

all-early : {B : Type 0} (setting : Setting B) (takes : List Took) (n m : ℕ) → n ≤ m → AllDue setting takes n
    → AllByRecursion (λ (took : Took). took.turn ≤ m) takes
all-early setting [] n m low h = tt
all-early setting (took ∷ takes) n m low h =
    let parts = due-parts setting took (session_of_takes setting takes) (AllDue setting takes) n h in
    (omega (arith, parts.0, low), all-early setting takes took.turn m (omega (arith, parts.0, low)) parts.1)

early-one : (took : Took) (m : ℕ) → took.turn ≤ m → takes_by m (took ∷ []) ≡ took ∷ []
early-one took m h = by (nat_le took.turn m) refl
  where
    by : (b : Bool) → nat_le took.turn m ≡ b → cond b (took ∷ []) [] ≡ took ∷ []
    by true is = refl
    by false is = absurd (grind (arith, nat_tests))

late-one : (took : Took) (m : ℕ) → m < took.turn → takes_by m (took ∷ []) ≡ []
late-one took m h = by (nat_le took.turn m) refl
  where
    by : (b : Bool) → nat_le took.turn m ≡ b → cond b (took ∷ []) [] ≡ []
    by true is = absurd (grind (arith, nat_tests))
    by false is = refl

early-all : (m : ℕ) (takes : List Took) → AllByRecursion (λ (took : Took). took.turn ≤ m) takes → takes_by m (reverse takes) ≡ reverse takes
early-all m [] h = refl
early-all m (took ∷ takes) h =
    let order : reverse (took ∷ takes) ≡ reverse takes ++ took ∷ [] = reverse-append (took ∷ []) takes in
    ap (takes_by m) order
    ∙ filter-append (λ (t : Took). nat_le t.turn m) (reverse takes) (took ∷ [])
    ∙ (λ i. early-all m takes h.1 i ++ early-one took m h.0 i)
    ∙ sym order

by-now : {B : Type 0} (setting : Setting B) (takes : List Took) (n : ℕ) → IsDefined setting takes n → takes_by n takes ≡ takes
unfolding IsDefined
by-now setting takes n h =
    let twice = reverse-reverse takes in
    ap (takes_by n) (sym twice) ∙ early-all n (reverse takes) (all-early setting (reverse takes) n n (omega arith) h) ∙ twice

late-all : (m : ℕ) (takes : List Took) → All (λ took. m < took.turn) takes → takes_by m takes ≡ []
late-all m [] h = refl
late-all m (took ∷ takes) h =
    filter-append (λ (t : Took). nat_le t.turn m) (took ∷ []) takes
    ∙ (λ i. late-one took m (h 0 took (omega arith)) i ++ late-all m takes (λ k d low. h (suc k) d (omega (arith, low))) i)

-- ---- armed calls

-- what is taken later changes nothing in earlier calls
armed-same : {B : Type 0} (setting : Setting B) (takes later : List Took) (e m : ℕ) → All (λ took. m ≤ took.turn) later
    → filter (is_armed_at setting (takes ++ later) e) (numbers_to m) ≡ filter (is_armed_at setting takes e) (numbers_to m)
armed-same setting takes later e zero h = refl
armed-same setting takes later e (suc m) h =
    let late : All (λ took. m < took.turn) later = λ k d low. let l = h k d low in omega (arith, l) in
    let same : takes_by m (takes ++ later) ≡ takes_by m takes
    = filter-append (λ (t : Took). nat_le t.turn m) takes later ∙ ap (λ xs. takes_by m takes ++ xs) (late-all m later late) ∙ append-nil (takes_by m takes) in
    let now : is_armed_at setting (takes ++ later) e m ≡ is_armed_at setting takes e m = ap (λ xs. is_takeable (play setting xs m).live.pod e) same in
    filter-append (is_armed_at setting (takes ++ later) e) (numbers_to m) (m ∷ [])
    ∙ (λ i. armed-same setting takes later e m (λ k d low. let l = h k d low in omega (arith, l)) i ++ cond (now i) (m ∷ []) [])
    ∙ sym (filter-append (is_armed_at setting takes e) (numbers_to m) (m ∷ []))

-- a call more counts where the event waits before it
armed-call : {B : Type 0} (setting : Setting B) (takes : List Took) (e n : ℕ) → IsDefined setting takes n
    → armed_calls setting takes (n + 1) e ≡ armed_calls setting takes n e ++ cond (is_takeable (play setting takes n).live.pod e) (n ∷ []) []
armed-call setting takes e n h =
    ap (λ m. armed_calls setting takes m e) (add-one n)
    ∙ filter-append (is_armed_at setting takes e) (numbers_to n) (n ∷ [])
    ∙ ap (λ xs. armed_calls setting takes n e ++ cond (is_takeable (play setting xs n).live.pod e) (n ∷ []) []) (by-now setting takes n h)

gives-looks : (takes : List Took) (t u : Intake) → Gives takes t u → looks t ≤ looks u
gives-looks takes t u h =
    let e : looks u ≡ length (t.taken ++ lines_of_takes t.event takes) + (t.finds + h.nothing) = ap looks h.after in
    omega (arith, e, length-append t.taken (lines_of_takes t.event takes))

module _ {B P : Type 0} (next : Next B) (bodies : P → List B) (procs : P → List (List ℕ)) where
  -- no call was made
  count-still : (old new : Played P) (before after : List Intake) (most e : ℕ) → GoesOn old new
      → Draws next bodies old new before after most → new.calls ≡ old.calls
      → armed_count next bodies new e ≡ armed_count next bodies old e
  count-still old new before after most e same draws still =
      (λ i. length (armed_calls (record { next = next; bodies = bodies (same.program i); params = same.params i; names = same.names i })
      (draws.extends.takes i) (still i) e))
      ∙ ap length (armed-same (setting_of next bodies old) old.takes draws.later e old.calls (λ k d low. (draws.extends.between k d low).0))

  pub looks-same : (run : Played P) (inlets : List Intake) → LooksAtAll next bodies run run inlets inlets
  looks-same run inlets = (refl, λ k d low. omega arith)

  pub looks-still : {T : Type 0} (s : Stream) (old new : Played P) (before after : List Intake) (r : Result T RunErr)
      → LivesOn next bodies procs s old new before after r → Takes next bodies old new → LooksAtAll next bodies old new before after
  looks-still s old new before after r h takes = (
    h.draws.given.0,
    λ k d low.
        let t = slice_index_or before k d in
        let more = gives-looks (h.draws.later ++ h.draws.lost) t (slice_index_or after k d) (h.draws.given.1 k d low) in
        let still = count-still old new before after _ t.event h.ran.same h.draws takes.still in
        omega (arith, more, still),
  )

  pub looks-then : (old mid new : Played P) (before some after : List Intake) (most : ℕ) → Draws next bodies old mid before some most
      → LooksAtAll next bodies old mid before some → LooksAtAll next bodies mid new some after → LooksAtAll next bodies old new before after
  looks-then old mid new before some after most draws p q = (
    q.0 ∙ p.0,
    λ k d low.
        let t = slice_index_or before k d in
        let u = slice_index_or some k d in
        let first = p.1 k d low in
        let second = subst (λ e. armed_count next bodies new e + looks u ≤ armed_count next bodies mid e + looks (slice_index_or after k d))
        (gives-event (draws.later ++ draws.lost) t u (draws.given.1 k d low)) (q.1 k d (subst (λ n. k < n) (sym p.0) low)) in
        omega (arith, first, second),
  )

  -- a call after all inlets
  pub looks-call : {T U : Type 0} (s : Stream) (old mid new : Played P) (before after : List Intake) (x : T) (y : U)
      → phase_now next bodies old ≡ phase.Turn
      → LivesOn next bodies procs s old mid before after (Ok x) → Serves next bodies (length before) old mid before after
      → new ≡ after_step {T = U} mid (with_call mid) (Ok y)
      → LooksAtAll next bodies old new before after
  looks-call s old mid new before after x y turn h serves is =
      (h.draws.given.0, λ k d low. one k d low (is_takeable (session_of next bodies mid).live.pod (slice_index_or before k d).event) refl)
    where
      one : (k : ℕ) (d : Intake) → k < length before → (b : Bool) → is_takeable (session_of next bodies mid).live.pod (slice_index_or before k d).event ≡ b
          → LooksAt next bodies old new (slice_index_or before k d) (slice_index_or after k d)
      one k d low b waits =
          let t = slice_index_or before k d in
          let u = slice_index_or after k d in
          let gives = h.draws.given.1 k d low in
          let more = gives-looks (h.draws.later ++ h.draws.lost) t u gives in
          let event = gives-event (h.draws.later ++ h.draws.lost) t u gives in
          let still = count-still old mid before after 0 t.event h.ran.same h.draws serves.takes.still in
          let added : armed_count next bodies new t.event
          ≡ length (armed_calls (setting_of next bodies mid) mid.takes mid.calls t.event ++ cond b (mid.calls ∷ []) [])
          = ap (λ n. armed_count next bodies n t.event) is
          ∙ ap length (armed-call (setting_of next bodies mid) mid.takes t.event mid.calls h.ran.made)
          ∙ ap (λ c. length (armed_calls (setting_of next bodies mid) mid.takes mid.calls t.event ++ cond c (mid.calls ∷ []) [])) waits in
          by b t u more still added (λ yes_b.
          (serves.seen k d low low).looked turn (ap (λ e. is_takeable (session_of next bodies mid).live.pod e) event ∙ waits ∙ yes_b))
        where
          by : (b : Bool) (t u : Intake) → looks t ≤ looks u → armed_count next bodies mid t.event ≡ armed_count next bodies old t.event
              → armed_count next bodies new t.event
              ≡ length (armed_calls (setting_of next bodies mid) mid.takes mid.calls t.event ++ cond b (mid.calls ∷ []) [])
              → (b ≡ true → looks t < looks u) → LooksAt next bodies old new t u
          by true t u more still added looked = let l = looked refl in
              let n = length-append (armed_calls (setting_of next bodies mid) mid.takes mid.calls t.event) (mid.calls ∷ []) in omega (arith, still, added, n, l)
          by false t u more still added looked = let n = length-append (armed_calls (setting_of next bodies mid) mid.takes mid.calls t.event) [] in
              omega (arith, still, added, n, more)
