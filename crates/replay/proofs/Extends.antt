-- Each session goes on to an end.
use Rattle.event_gate.proofs.Lines.{cond_other, cond_same, of-append, same_or}
use Rattle.event_gate.specs.History.{IsClientHistory, lines_of}
use Rattle.event_gate.specs.Port.{IsNumbered, of}
use Rattle.event_gate.specs.Shelves.{event_of, first_left, full_shelves, lines_for}
use Rattle.lwp_types.specs.Choice.{choice}
use Rattle.lwp_types.specs.declared.call.Line.{Line}
use Rattle.pod_events.specs.Events.{is_takeable}
use Rattle.pod_runner.specs.Over.{can_take, events, halt_if, is_wanted, over}
use Rattle.replay.proofs.Forcing.{lines-append, pairs-append}
use Rattle.replay.proofs.Left.{first-for, some-client, some_first}
use Rattle.replay.proofs.Moves.{IsAt-moved, reaches-first, reaches-same}
use Rattle.replay.specs.Walk.{Due, IsFit, Reaches, moment, took_at}
use Rattle.replay.specs.Asked.{Asked, IsReached, Reach, halt_at, pairs_of, session_at}
use Rattle.trace_text.specs.declared.ends.Halt.{Halt}
use Rattle.trace_text.specs.declared.ends.Halt.TheVariants.{Ended, Spent}
use Rattle.std.specs.List.{AllByRecursion, list_any, range_with_len}
use Rattle.std.specs.Prelude.{Option, if◌then◌else◌, is_some, nat_le, ◌&&◌, ◌||◌}
use Rattle.std.proofs.Common.{Bool, List, None, Some, [], ap, append_assoc, arith, cond, drop, eqb, false, length, refl, slice_get}
use Rattle.std.proofs.Common.{subst, suc, sym, true, zero, ℕ, ⊎_elim, ◌++◌, ◌+◌, ◌-◌, ◌<◌, ◌∙◌, ◌∷◌, ◌≡◌, ◌≢◌, ◌≤◌}
use Rattle.std.proofs.lemmas.Bool.{eqb-true}
use Rattle.std.proofs.lemmas.Bool.Decides.{nat_tests}
use Rattle.std.proofs.lemmas.List.Elements.{All-from_recursion, recursion_from_All}

-- ---- one line less of a client

abbrev pub without_first : ℕ → List Line → List Line
without_first c [] = []
without_first c (x ∷ l) = cond (eqb x.client c) l (x ∷ without_first c l)

pub without-own : (c : ℕ) (l : List Line) → of c (without_first c l) ≡ drop 1 (of c l)
without-own c [] = refl
without-own c (x ∷ l) = ⊎_elim
    (λ (same : x.client ≡ c).
    ap (of c) (cond_same x.client c l (x ∷ without_first c l) same) ∙ sym (ap (drop 1) (cond_same x.client c (x ∷ of c l) (of c l) same)))
    (λ (other : x.client ≢ c).
    ap (of c) (cond_other x.client c l (x ∷ without_first c l) other)
    ∙ cond_other x.client c (x ∷ of c (without_first c l)) (of c (without_first c l)) other ∙ without-own c l
    ∙ sym (ap (drop 1) (cond_other x.client c (x ∷ of c l) (of c l) other)))
    (same_or x.client c)

pub without-other : (c d : ℕ) (l : List Line) → c ≢ d → of d (without_first c l) ≡ of d l
without-other c d [] apart = refl
without-other c d (x ∷ l) apart = ⊎_elim
    (λ (same : x.client ≡ c).
    ap (of d) (cond_same x.client c l (x ∷ without_first c l) same) ∙ sym (cond_other x.client d (x ∷ of d l) (of d l) (λ e. apart (sym same ∙ e))))
    (λ (other : x.client ≢ c).
    ap (of d) (cond_other x.client c l (x ∷ without_first c l) other) ∙ head (eqb x.client d) (without-other c d l apart))
    (same_or x.client c)
  where
    head : (b : Bool) → of d (without_first c l) ≡ of d l → cond b (x ∷ of d (without_first c l)) (of d (without_first c l)) ≡ cond b (x ∷ of d l) (of d l)
    head true e = ap (λ r. x ∷ r) e
    head false e = e

without-length : (c : ℕ) (l : List Line) → some_first (of c l) ≡ true → length (without_first c l) + 1 ≡ length l
without-length c [] h = absurd (cc)
without-length c (x ∷ l) h = ⊎_elim
    (λ (same : x.client ≡ c). omega (arith, ap length (cond_same x.client c l (x ∷ without_first c l) same)))
    (λ (other : x.client ≢ c).
    let rest = without-length c l (ap some_first (sym (cond_other x.client c (x ∷ of c l) (of c l) other)) ∙ h) in
    omega (arith, ap length (cond_other x.client c l (x ∷ without_first c l) other), rest))
    (same_or x.client c)

-- ---- the history, one take on

numbered-first : (n : ℕ) (xs ys : List Line) → IsNumbered n (xs ++ ys) → IsNumbered n xs
numbered-first n [] ys h = tt
numbered-first n (x ∷ xs) ys h = (h.0, h.1, numbered-first (suc n) xs ys h.2)

all-push : {A : Type 0} (P : A → Type 0) (xs : List A) (x : A) → AllByRecursion P xs → P x → AllByRecursion P (xs ++ x ∷ [])
all-push P [] x all last = (last, tt)
all-push P (y ∷ xs) x all last = (all.0, all-push P xs x all.1 last)

first-rest : (ls : List Line) (x : Line) → slice_get ls 0 ≡ Some x → ls ≡ x ∷ drop 1 ls
first-rest [] x e = absurd (cc)
first-rest (y ∷ ys) x e = let same : y ≡ x = cc in ap (λ z. z ∷ ys) same

of-own : (c n : ℕ) (l : List Line) (x : Line) → slice_get (of c l) n ≡ Some x → x.client ≡ c
of-own c n [] x h = absurd (cc)
of-own c n (y ∷ l) x h = by_test (eqb y.client c) refl n h (λ m. of-own c m l x)
  where
    by_test : (b : Bool) → eqb y.client c ≡ b → (n : ℕ) → slice_get (cond b (y ∷ of c l) (of c l)) n ≡ Some x
        → ((m : ℕ) → slice_get (of c l) m ≡ Some x → x.client ≡ c) → x.client ≡ c
    by_test true is zero h rest = let same : y ≡ x = cc in ap (λ (l : Line). l.client) (sym same) ∙ eqb-true y.client c is
    by_test true is (suc n) h rest = rest n h
    by_test false is n h rest = rest n h

pub client-own : (c n : ℕ) (l : List Line) (x : Line) → slice_get (of c l) n ≡ Some x → x.client ≡ c
client-own c n l x h = of-own c n l x h

pub history-take : (clients : List ℕ) (posts : List Line) (pairs : List (ℕ × Line)) (left : List Line) (c e : ℕ) (x : Line)
    → ((d : ℕ) → IsNumbered 0 (of d posts)) → IsClientHistory clients posts pairs left → event_of clients c ≡ e → slice_get (of c left) 0 ≡ Some x
    → IsClientHistory clients posts (pairs ++ (e, x) ∷ []) (without_first c left)
history-take clients posts pairs left c e x numbered h at first =
    let own : x.client ≡ c = of-own c 0 left x first in
    let Fits = λ (t : ℕ × Line). event_of clients t.1.client ≡ t.0 in
    let split : (d : ℕ) → of d (lines_of (pairs ++ (e, x) ∷ [])) ≡ of d (lines_of pairs) ++ of d (x ∷ []) =
    (λ (d : ℕ). ap (of d) (lines-append pairs ((e, x) ∷ [])) ∙ of-append d (lines_of pairs) (x ∷ [])) in
    let are : (d : ℕ) → of d (lines_of (pairs ++ (e, x) ∷ [])) ++ of d (without_first c left) ≡ of d posts =
    (λ (d : ℕ).
    ap (λ l. l ++ of d (without_first c left)) (split d)
    ∙ append_assoc (of d (lines_of pairs)) (of d (x ∷ [])) (of d (without_first c left))
    ∙ ap (λ l. of d (lines_of pairs) ++ l) (⊎_elim
    (λ (same : x.client ≡ d).
    let mine : c ≡ d = sym own ∙ same in
    ap (λ l. l ++ of d (without_first c left)) (cond_same x.client d (x ∷ []) [] same)
    ∙ ap (λ k. x ∷ of k (without_first c left)) (sym mine)
    ∙ ap (λ l. x ∷ l) (without-own c left)
    ∙ sym (first-rest (of c left) x first)
    ∙ ap (λ k. of k left) mine)
    (λ (other : x.client ≢ d).
    ap (λ l. l ++ of d (without_first c left)) (cond_other x.client d (x ∷ []) [] other)
    ∙ without-other c d left (λ k. other (own ∙ k)))
    (same_or x.client d))
    ∙ h.lines_are d) in
    record {
      events_are = All-from_recursion Fits (pairs ++ (e, x) ∷ [])
          (all-push Fits pairs (e, x) (recursion_from_All Fits pairs h.events_are) (ap (event_of clients) own ∙ at));
      lines_are = are;
      numbered = λ d.
          numbered-first 0 (of d (lines_of (pairs ++ (e, x) ∷ []))) (of d (without_first c left)) (subst (λ l. IsNumbered 0 l) (sym (are d)) (numbered d));
    }

-- ---- to the end

any-in : (p : ℕ → Bool) (a n : ℕ) → list_any p (range_with_len a n) ≡ true → (e : ℕ) × (a ≤ e) × (e < a + n) × (p e ≡ true)
any-in p a zero h = absurd (cc)
any-in p a (suc n) h = by_test (p a) refl h (any-in p (a + 1) n)
  where
    by_test : (b : Bool) → p a ≡ b → (b || list_any p (range_with_len (a + 1) n)) ≡ true
        → (list_any p (range_with_len (a + 1) n) ≡ true → (e : ℕ) × (a + 1 ≤ e) × (e < a + 1 + n) × (p e ≡ true))
        → (e : ℕ) × (a ≤ e) × (e < a + suc n) × (p e ≡ true)
    by_test true is h rest = (a, omega arith, omega arith, is)
    by_test false is h rest = let w = rest h in (w.0, omega (arith, w.1), omega (arith, w.2), w.3)

module _ {B : Type 0} (asked : Asked B) (fit : IsFit asked) where
  -- what may come next in a session that isn't over
  data Next (at : Reach) : Type 0 where
    Call : Due asked.setting (moment asked at) None → at.calls + 1 ≤ asked.turns → Next at
    Take : (c e : ℕ) (x : Line) → event_of asked.clients c ≡ e → slice_get (of c at.left) 0 ≡ Some x
        → Due asked.setting (moment asked at) (Some (e, x)) → Next at

  some-line : (l : List Line) → some_first l ≡ true → (x : Line) × (slice_get l 0 ≡ Some x)
  some-line [] h = absurd (cc)
  some-line (x ∷ l) h = (x, refl)

  and-parts : (a b : Bool) → (a && b) ≡ true → (a ≡ true) × (b ≡ true)
  and-parts true b h = (refl, h)
  and-parts false b h = absurd (cc)

  next-take : (at : Reach) → is_wanted (session_at asked at).live.pod (full_shelves asked.clients at.left) ≡ true → Next at
  unfolding events
  next-take at h =
      let s = (session_at asked at).live.pod in
      let w = any-in (λ e. can_take s (full_shelves asked.clients at.left) e) 0 32 h in
      let both = and-parts (is_takeable s w.0) (is_some (first_left (full_shelves asked.clients at.left) w.0)) w.3 in
      let for_it : some_first (lines_for asked.clients at.left w.0)
      ≡ true = ap is_some (sym (first-for asked.clients w.0 at.left (omega (arith, w.2)))) ∙ both.1 in
      let who = some-client asked.clients w.0 at.left for_it in
      let line = some-line (of who.0 at.left) who.2 in
      Take who.0 w.0 line.0 who.1 line.1 both.0

  next-of : (at : Reach) → halt_at asked at ≡ None → Next at
  next-of at h = by_end (session_at asked at).live.pod.state.ended (choice (session_at asked at).live.pod.state)
      (is_wanted (session_at asked at).live.pod (full_shelves asked.clients at.left)) refl refl refl h
    where
      by_end : (b : Bool) (o : Option ℕ) (w : Bool) → (session_at asked at).live.pod.state.ended ≡ b
          → choice (session_at asked at).live.pod.state ≡ o → is_wanted (session_at asked at).live.pod (full_shelves asked.clients at.left) ≡ w
          → (if b then Some (Ended (session_at asked at).live.pod.state.status) else halt_if asked.turns at.calls w o) ≡ None → Next at
      by_end true o w e f g h = absurd (cc)
      by_end false None true e f g h = next-take at g
      by_end false None false e f g h = absurd (cc)
      by_end false (Some t) w e f g h = by_count (nat_le asked.turns at.calls) refl h
        where
          by_count : (b : Bool) → nat_le asked.turns at.calls ≡ b → (if b then Some Spent else None) ≡ None → Next at
          by_count true is h = absurd (cc)
          by_count false is h = Call (rw (e, f) refl) (grind (arith, nat_tests))

  called : (at : Reach) → Reach
  called at = record at { calls = at.calls + 1 }

  -- a session that goes on to its end
  pub record Ends (at : Reach) : Type 0 where
    pub to : Reach
    pub reached : IsReached asked to
    pub halt : Halt
    pub over : halt_at asked to ≡ Some halt
    pub way : Reaches asked.setting (moment asked at) (moment asked to)

  ends-step : (fuel : ℕ) (at : Reach) → asked.turns - at.calls + length at.left ≤ fuel → IsReached asked at
      → ((to : Reach) → asked.turns - to.calls + length to.left + 1 ≤ fuel → IsReached asked to → Ends to) → Ends at
  ends-step fuel at few is rest = by_halt (halt_at asked at) refl
    where
      by_next : Next at → Ends at
      by_next (Call due room) =
          let p = moment asked at in
          let e = rest (record at { calls = at.calls + 1 }) (omega (arith, few, room))
          (record { due = IsAt-moved asked.setting p None is.due due; room = room; history = is.history }) in
          record { to = e.to; reached = e.reached; halt = e.halt; over = e.over; way = reaches-first asked.setting p (moment asked e.to) None due e.way }
      by_next (Take c e x at_event first due) =
          let p = moment asked at in
          let shorter = without-length c at.left (ap is_some first) in
          let on = rest (record { takes = at.takes ++ took_at p (e, x) ∷ []; calls = at.calls; left = without_first c at.left }) (omega (arith, few, shorter))
          (record {
            due = IsAt-moved asked.setting p (Some (e, x)) is.due due;
            room = is.room;
            history = subst (λ l. IsClientHistory asked.clients asked.posts l (without_first c at.left)) (sym (pairs-append at.takes (took_at p (e, x) ∷ [])))
                (history-take asked.clients asked.posts (pairs_of at.takes) at.left c e x fit.numbered is.history at_event first);
          }) in
          record {
            to = on.to;
            reached = on.reached;
            halt = on.halt;
            over = on.over;
            way = reaches-first asked.setting p (moment asked on.to) (Some (e, x)) due on.way;
          }

      by_halt : (o : Option Halt) → halt_at asked at ≡ o → Ends at
      by_halt (Some h) over = record { to = at; reached = is; halt = h; over = over; way = reaches-same asked.setting (moment asked at) }
      by_halt None goes = by_next (next-of at goes)

  ends-in : (fuel : ℕ) (at : Reach) → asked.turns - at.calls + length at.left ≤ fuel → IsReached asked at → Ends at
  ends-in zero at few is = ends-step zero at few is (λ to less there. absurd (omega (arith, less)))
  ends-in (suc fuel) at few is = ends-step (suc fuel) at few is (λ to less there. ends-in fuel to (omega (arith, less)) there)

  pub ends : (at : Reach) → IsReached asked at → Ends at
  ends at is = ends-in (asked.turns - at.calls + length at.left) at (omega arith) is
