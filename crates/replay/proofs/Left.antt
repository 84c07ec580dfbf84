-- What is left of the clients' lines is known by what was taken, and so is the end.
use Rattle.event_gate.proofs.Lines.{cond_same}
use Rattle.event_gate.specs.History.{IsClientHistory, lines_of}
use Rattle.event_gate.specs.Port.{of}
use Rattle.event_gate.specs.Shelves.{bare, event_of, first_left, full, full_shelves, lines_for}
use Rattle.lwp_types.specs.Choice.{choice}
use Rattle.pod_events.specs.Events.{EventState, is_takeable}
use Rattle.lwp_types.specs.declared.call.Line.{Line}
use Rattle.pod_runner.specs.Over.{can_take, events, halt_if, is_wanted, over}
use Rattle.replay.proofs.LineLaws.{cut}
use Rattle.replay.specs.Walk.{Moment, moment}
use Rattle.replay.specs.Asked.{Asked, IsReached, Reach, counts_from, end_by, halt_at, pairs_of, session_at}
use Rattle.trace_text.specs.Lines.{end_text}
use Rattle.trace_text.specs.declared.ends.Halt.{Halt}
use Rattle.trace_text.specs.declared.ends.Halt.TheVariants.{Ended}
use Rattle.std.specs.List.{list_any, range_with_len}
use Rattle.std.specs.Prelude.{Option, if◌then◌else◌, is_some, ◌&&◌}
use Rattle.std.proofs.Common.{Bool, List, None, Some, [], ap, arith, cond, eqb, false, length, refl, slice_get}
use Rattle.std.proofs.Common.{subst, suc, sym, true, zero, ℕ, ◌+◌, ◌<◌, ◌∙◌, ◌∷◌, ◌≡◌, ◌≤◌}
use Rattle.std.proofs.lemmas.Bool.{eqb-true}
use Rattle.std.proofs.lemmas.List.FromFn.{get_or-map-range_with_len}

abbrev pub SameLeft : List Line → List Line → Type 0
SameLeft l m = (c : ℕ) → of c l ≡ of c m

pub left-same : (clients : List ℕ) (posts : List Line) (pairs : List (ℕ × Line)) (l m : List Line) → IsClientHistory clients posts pairs l
    → IsClientHistory clients posts pairs m → SameLeft l m
left-same clients posts pairs l m h k c = cut (of c (lines_of pairs)) (of c l) (of c m) (h.lines_are c ∙ sym (k.lines_are c))

counts-same : (c : ℕ) (clients : List ℕ) (l m : List Line) → SameLeft l m → counts_from c clients l ≡ counts_from c clients m
counts-same c [] l m same = refl
counts-same c (e ∷ es) l m same = ap (λ n. n ∷ counts_from (c + 1) es l) (ap length (same c)) ∙ ap (λ r. length (of c m) ∷ r) (counts-same (c + 1) es l m same)

abbrev pub some_first : List Line → Bool
some_first lines = is_some (slice_get lines 0)

bool-same : (a b : Bool) → (a ≡ true → b ≡ true) → (b ≡ true → a ≡ true) → a ≡ b
bool-same true b f g = sym (f refl)
bool-same false true f g = g refl
bool-same false false f g = refl

module _ (clients : List ℕ) (e : ℕ) where
  -- an event has a line where some client of it has one
  pub some-client : (l : List Line) → some_first (lines_for clients l e) ≡ true → (c : ℕ) × (event_of clients c ≡ e) × (some_first (of c l) ≡ true)
  some-client [] h = absurd (cc)
  some-client (x ∷ l) h = by_test (eqb (event_of clients x.client) e) refl h (some-client l)
    where
      either : (c : ℕ) (b : Bool) → some_first (of c l) ≡ true → some_first (cond b (x ∷ of c l) (of c l)) ≡ true
      either c true h = refl
      either c false h = h

      by_test : (b : Bool) → eqb (event_of clients x.client) e ≡ b → some_first (cond b (x ∷ lines_for clients l e) (lines_for clients l e)) ≡ true
          → (some_first (lines_for clients l e) ≡ true → (c : ℕ) × (event_of clients c ≡ e) × (some_first (of c l) ≡ true))
          → (c : ℕ) × (event_of clients c ≡ e) × (some_first (of c (x ∷ l)) ≡ true)
      by_test true is h rest =
          (x.client, eqb-true (event_of clients x.client) e is, ap some_first (cond_same x.client x.client (x ∷ of x.client l) (of x.client l) refl))
      by_test false is h rest = let w = rest h in (w.0, w.1, either w.0 (eqb x.client w.0) w.2)

  pub client-some : (l : List Line) (c : ℕ) → event_of clients c ≡ e → some_first (of c l) ≡ true → some_first (lines_for clients l e) ≡ true
  client-some [] c at h = absurd (cc)
  client-some (x ∷ l) c at h = by_test (eqb x.client c) refl h (client-some l c at)
    where
      either : (b : Bool) → some_first (lines_for clients l e) ≡ true → some_first (cond b (x ∷ lines_for clients l e) (lines_for clients l e)) ≡ true
      either true h = refl
      either false h = h

      by_test : (b : Bool) → eqb x.client c ≡ b → some_first (cond b (x ∷ of c l) (of c l)) ≡ true
          → (some_first (of c l) ≡ true → some_first (lines_for clients l e) ≡ true)
          → some_first (lines_for clients (x ∷ l) e) ≡ true
      by_test true is h rest = ap some_first
          (cond_same (event_of clients x.client) e (x ∷ lines_for clients l e) (lines_for clients l e) (ap (event_of clients) (eqb-true x.client c is) ∙ at))
      by_test false is h rest = either (eqb (event_of clients x.client) e) (rest h)

  for-same : (l m : List Line) → SameLeft l m → some_first (lines_for clients l e) ≡ some_first (lines_for clients m e)
  for-same l m same = bool-same _ _
      (λ h. let w = some-client l h in client-some m w.0 w.1 (ap some_first (sym (same w.0)) ∙ w.2))
      (λ h. let w = some-client m h in client-some l w.0 w.1 (ap some_first (same w.0) ∙ w.2))

  pub first-for : (l : List Line) → e < 256 → first_left (full_shelves clients l) e ≡ slice_get (lines_for clients l e) 0
  first-for l low = ap (λ shelf. slice_get shelf.left 0) (get_or-map-range_with_len (full clients l) 0 256 e e bare low (omega arith))

wanted-same : (s : EventState) (clients : List ℕ) (l m : List Line) → SameLeft l m → is_wanted s (full_shelves clients l) ≡ is_wanted s (full_shelves clients m)
unfolding events
wanted-same s clients l m same = by 0 32 (omega arith)
  where
    one : (e : ℕ) → e < 256 → can_take s (full_shelves clients l) e ≡ can_take s (full_shelves clients m) e
    one e low = ap (λ o. is_takeable s e && is_some o) (first-for clients e l low)
        ∙ ap (λ b. is_takeable s e && b) (for-same clients e l m same) ∙ sym (ap (λ o. is_takeable s e && is_some o) (first-for clients e m low))

    by : (a n : ℕ) → a + n ≤ 256
        → list_any (λ e. can_take s (full_shelves clients l) e) (range_with_len a n)
        ≡ list_any (λ e. can_take s (full_shelves clients m) e) (range_with_len a n)
    by a zero low = refl
    by a (suc n) low = rw (one a (omega (arith, low)), by (a + 1) n (omega (arith, low))) refl

over-same : (turns : ℕ) (s : EventState) (calls : ℕ) (clients : List ℕ) (l m : List Line) → SameLeft l m
    → over turns s calls (full_shelves clients l) ≡ over turns s calls (full_shelves clients m)
over-same turns s calls clients l m same =
    ap (λ w. if s.state.ended then Some (Ended s.state.status) else halt_if turns calls w (choice s.state)) (wanted-same s clients l m same)

module _ {B : Type 0} (asked : Asked B) where
  with_moment : Moment → List Line → Reach
  with_moment p left = record { takes = p.takes; calls = p.calls; left = left }

  abbrev end_of : Reach → List ℕ
  end_of at = end_by asked at (halt_at asked at)

  halt-left : (at : Reach) (l : List Line) → SameLeft at.left l → halt_at asked at ≡ halt_at asked (record at { left = l })
  halt-left at l same = over-same asked.turns (session_at asked at).live.pod at.calls asked.clients at.left l same

  end-left : (at : Reach) (l : List Line) → SameLeft at.left l → end_of at ≡ end_of (record at { left = l })
  end-left at l same = ap (end_by asked at) (halt-left at l same) ∙ by_halt (halt_at asked (record at { left = l }))
    where
      by_halt : (o : Option Halt) → end_by asked at o ≡ end_by asked (record at { left = l }) o
      by_halt None = refl
      by_halt (Some h) = ap (end_by_counts h) (counts-same 0 asked.clients at.left l same)
        where
          end_by_counts : Halt → List ℕ → List ℕ
          end_by_counts h counts = end_text asked.turns counts h

  -- nor does how it has ended
  pub halt-same : (at to : Reach) → IsReached asked at → IsReached asked to → moment asked at ≡ moment asked to → halt_at asked at ≡ halt_at asked to
  halt-same at to one two same =
      let three : IsClientHistory asked.clients asked.posts (pairs_of at.takes) to.left =
      subst (λ (p : Moment). IsClientHistory asked.clients asked.posts (pairs_of p.takes) to.left) (sym same) two.history in
      halt-left at to.left (left-same asked.clients asked.posts (pairs_of at.takes) at.left to.left one.history three)
      ∙ ap (λ (p : Moment). halt_at asked (record { takes = p.takes; calls = p.calls; left = to.left })) same

  -- the end of a session doesn't hang on how what is left is listed
  pub end-same : (at to : Reach) → IsReached asked at → IsReached asked to → moment asked at ≡ moment asked to → end_of at ≡ end_of to
  end-same at to one two same =
      let three : IsClientHistory asked.clients asked.posts (pairs_of at.takes) to.left =
      subst (λ (p : Moment). IsClientHistory asked.clients asked.posts (pairs_of p.takes) to.left) (sym same) two.history in
      end-left at to.left (left-same asked.clients asked.posts (pairs_of at.takes) at.left to.left one.history three)
      ∙ ap (λ (p : Moment). end_of (record { takes = p.takes; calls = p.calls; left = to.left })) same
