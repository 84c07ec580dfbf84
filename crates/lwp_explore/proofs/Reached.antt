-- Steps lead to the core of each session.
use Rattle.event_gate.specs.Clients.{of}
use Rattle.lwp_explore.proofs.Alike.{Alike, alike_core, core_alike, move_alike, take_alike}
use Rattle.lwp_explore.proofs.Turns.{AreInTurn, client_within, counts_more, event_is, line_next, none_yet, turn_before}
use Rattle.lwp_explore.specs.CoreLaws.{SessionsHaveCores}
use Rattle.lwp_explore.specs.Cores.{Step, World, after, call_made, calls_at, first_core, live_of, next_line}
use Rattle.lwp_explore.specs.Cores.{take_if, take_made, takes_at, takes_from, with_taken}
use Rattle.lwp_explore.specs.Sessions.{IsSession, core_at}
use Rattle.lwp_types.specs.declared.call.Line.{Line}
use Rattle.pod_events.specs.Events.{is_takeable}
use Rattle.pod_runner.specs.Due.{AllDue, CallsDue, IsDefined, TakeDue, is_call_due, is_take_due}
use Rattle.pod_runner.specs.Play.{play, session_of_calls, session_of_takes, with_take}
use Rattle.pod_runner.specs.Session.{Live, Session, call_step, move, take_move, take_step}
use Rattle.pod_runner.specs.Snapshots.{taken_by}
use Rattle.pod_runner.specs.declared.session.Took.{Took}
use Rattle.search.proofs.Walks.{walk_push}
use Rattle.search.specs.Moves.{walk}
use Rattle.session_cores.specs.Core.{Core, core_of}
use Rattle.std.proofs.Common.{Bool, List, Some, [], ap, arith, false, length, map, refl, reverse, slice_get}
use Rattle.std.proofs.Common.{subst, suc, sym, true, zero, ℕ, ◌++◌, ◌+◌, ◌<◌, ◌∙◌, ◌∷◌, ◌≡◌}
use Rattle.std.proofs.lemmas.List.{reverse-append, reverse-reverse}
use Rattle.std.specs.Prelude.{IsTrue, MatchBool, if◌then◌else◌, slice_index, ◌==◌}

-- ---- places in lists

module _ {A C : Type 0} (f : A → C) where
  map_at_end : (xs : List A) (y : A) → slice_get (map f (xs ++ y ∷ [])) (length xs) ≡ Some (f y)
  map_at_end [] y = refl
  map_at_end (x ∷ xs) y = map_at_end xs y

  map_at : (xs ys : List A) (i : ℕ) (x : A) → slice_get xs i ≡ Some x → slice_get (map f (xs ++ ys)) i ≡ Some (f x)
  map_at [] ys i x h = absurd cc
  map_at (y ∷ xs) ys zero x h = let same : y ≡ x = cc in ap (λ z. Some (f z)) same
  map_at (y ∷ xs) ys (suc i) x h = map_at xs ys i x h

pub at_right : {A : Type 0} (xs ys : List A) (i : ℕ) → slice_get (xs ++ ys) (length xs + i) ≡ slice_get ys i
at_right [] ys i = let same : 0 + i ≡ i = omega arith in ap (slice_get ys) same
at_right (x ∷ xs) ys i = let same : suc (length xs) + i ≡ suc (length xs + i) = omega arith in ap (slice_get (x ∷ (xs ++ ys))) same ∙ at_right xs ys i

pub get_event : (events : List ℕ) (k : ℕ) → k < length events → slice_get events k ≡ Some (slice_index events k)
get_event [] k within = absurd (omega (arith, within))
get_event (e ∷ events) zero within = refl
get_event (e ∷ events) (suc k) within = get_event events k (omega (arith, within))

module _ {B : Type 0} (world : World B) where
  abbrev Reach : Core B → Type 0
  Reach core = (path : List ℕ) × (walk (after world) (first_core world) path ≡ Some core)

  -- ---- a call

  call_reached : (s : Session B) (taken : List ℕ) → is_call_due s ≡ true → Reach (core_of s.live taken) → Reach (core_of (call_step world.setting s).live taken)
  call_reached s taken due reached =
      let core = core_of s.live taken in
      let to = core_of (call_step world.setting s).live taken in
      let made : (call_made world core).to ≡ to = sym (core_alike (move world.setting.next world.setting.bodies s.live).live
      (move world.setting.next world.setting.bodies (live_of core)).live taken taken
      (move_alike world.setting.next world.setting.bodies s.live (live_of core) (alike_core s.live taken)).lives refl) in
      let all : calls_at world core ≡ call_made world core ∷ [] = ap (λ b. if b then call_made world core ∷ [] else []) due in
      let leads : slice_get (after world core) (length (takes_at world core)) ≡ Some to =
      ap (λ calls. slice_get (map (λ (step : Step B). step.to) (takes_at world core ++ calls)) (length (takes_at world core))) all
      ∙ map_at_end (λ (step : Step B). step.to) (takes_at world core) (call_made world core) ∙ ap (λ c. Some c) made in (
        reached.0 ++ length (takes_at world core) ∷ [],
        walk_push (after world) (first_core world) core to reached.0 (length
            (takes_at world core)) reached.1 leads,
      )

  -- ---- a take

  -- at which turn a line is taken counts for nothing
  pub same_take : (took : Took) (a b : Live B) → Alike (take_move world.setting.bodies took a).live (take_move world.setting.bodies took b).live
      → Alike (take_move world.setting.bodies took a).live (take_move world.setting.bodies (record { turn = 0; event = took.event; line = took.line }) b).live
  unfolding take_move
  same_take took a b h = h

  pub among_takes : (core : Core B) (c e : ℕ) (line : Line) → next_line world core c ≡ Some line → is_takeable core.pod e ≡ true
      → (from : ℕ) (events : List ℕ) (k : ℕ) → c ≡ from + k → slice_get events k ≡ Some e
      → (i : ℕ) × (slice_get (takes_from world core from events) i ≡ Some (take_made world core c (record { turn = 0; event = e; line = line })))
  among_takes core c e line next may from [] k is there = absurd cc
  among_takes core c e line next may from (d ∷ events) zero is there =
      let same : d ≡ e = cc in
      let here : from ≡ c = omega (arith, is) in (
        zero,
        (λ i. slice_get (take_if world core (here i) (same i) (next_line world core (here i)) ++ takes_from world core (from + 1) events) zero)
            ∙ ap (λ o. slice_get (take_if world core c e o ++ takes_from world core (from + 1) events) zero) next
            ∙ ap (λ b. slice_get ((if b then take_made world core c
            (record { turn = 0; event = e; line = line }) ∷ [] else []) ++ takes_from world core (from + 1) events) zero) may,
      )
  among_takes core c e line next may from (d ∷ events) (suc k) is there =
      let rest = among_takes core c e line next may (from + 1) events k (omega (arith, is)) there in (
        length (take_if world core from d (next_line world core from)) + rest.0,
        at_right (take_if world core from d (next_line world core from)) (takes_from world core (from + 1) events) rest.0 ∙ rest.1,
      )

  take_reached : (s : Session B) (takes : List Took) (took : Took) (left : List Line) → AreInTurn world (takes ++ took ∷ []) left → is_take_due took s ≡ true
      → Reach (core_of s.live (taken_by (length world.events) takes))
      → Reach (core_of (take_step world.setting took s).live (taken_by (length world.events) (takes ++ took ∷ [])))
  take_reached s takes took left turn due reached =
      let taken = taken_by (length world.events) takes in
      let more = taken_by (length world.events) (takes ++ took ∷ []) in
      let core = core_of s.live taken in
      let c = took.line.client in
      let to = core_of (take_step world.setting took s).live more in
      let within = client_within world took takes left turn in
      let place = among_takes core c took.event took.line (line_next world took takes left turn) due 0 world.events c (omega arith)
      (get_event world.events c within ∙ ap (λ e. Some e) (event_is world took takes left turn)) in
      let now : Took = record { turn = 0; event = took.event; line = took.line } in
      let made : (take_made world core c now).to ≡ to = sym (core_alike (take_move world.setting.bodies took s.live).live
      (take_move world.setting.bodies now (live_of core)).live more (with_taken taken c)
      (same_take took s.live (live_of core) (take_alike world.setting.bodies took s.live (live_of core) (alike_core s.live taken)).lives)
      (sym (counts_more (length world.events) took takes within))) in (
        reached.0 ++ place.0 ∷ [],
        walk_push (after world) (first_core world) core to reached.0 place.0 reached.1
            (map_at (λ (step : Step B). step.to) (takes_at world core) (calls_at world core) place.0 (take_made world core c now) place.1
            ∙ ap (λ c. Some c) made),
      )

  -- ---- sessions

  calls_reached : (n : ℕ) → CallsDue world.setting n → Reach (core_of (session_of_calls world.setting n).live (taken_by (length world.events) []))
  calls_reached zero due = ([], ap (λ taken. Some (core_of (session_of_calls world.setting 0).live taken)) (sym (none_yet 0 (length world.events))))
  calls_reached (suc n) due = call_reached (session_of_calls world.setting n) (taken_by (length world.events) []) due.1 (calls_reached n due.0)

  with_reached : (took : Took) (takes : List Took) (left : List Line) → AreInTurn world (takes ++ took ∷ []) left
      → (before : ℕ → Session B) (Before : ℕ → Type 0) → ((n : ℕ) → Before n → Reach (core_of (before n).live (taken_by (length world.events) takes)))
      → (n : ℕ) → TakeDue world.setting took before Before n
      → Reach (core_of (with_take world.setting took before n).live (taken_by (length world.events) (takes ++ took ∷ [])))
  with_reached took takes left turn before Before was zero h = take_reached (before 0) takes took left turn h.2 (was 0 h.1)
  with_reached took takes left turn before Before was (suc n) h =
      by_turn (took.turn == suc n) (λ d. with_reached took takes left turn before Before was n d) h
    where
      by_turn : (b : Bool) → (TakeDue world.setting took before Before n
          → Reach (core_of (with_take world.setting took before n).live (taken_by (length world.events) (takes ++ took ∷ []))))
          → MatchBool b (Before (suc n) × IsTrue (is_take_due took (before (suc n))))
          (TakeDue world.setting took before Before n × IsTrue (is_call_due (with_take world.setting took before n)))
          → Reach (core_of (if b then take_step world.setting took (before (suc n)) else call_step world.setting (with_take world.setting took before n)).live
          (taken_by (length world.events) (takes ++ took ∷ [])))
      by_turn true rest h = take_reached (before (suc n)) takes took left turn h.1 (was (suc n) h.0)
      by_turn false rest h = call_reached (with_take world.setting took before n) (taken_by (length world.events) (takes ++ took ∷ [])) h.1 (rest h.0)

  reached_by : (takes : List Took) (left : List Line) (n : ℕ) → AllDue world.setting takes n → AreInTurn world (reverse takes) left
      → Reach (core_of (session_of_takes world.setting takes n).live (taken_by (length world.events) (reverse takes)))
  reached_by [] left n h turn = calls_reached n h
  reached_by (took ∷ takes) left n h turn =
      let last : reverse (took ∷ takes) ≡ reverse takes ++ took ∷ [] = reverse-append (took ∷ []) takes in
      let turn' = subst (λ ts. AreInTurn world ts left) last turn in
      subst (λ ts. Reach (core_of (session_of_takes world.setting (took ∷ takes) n).live (taken_by (length world.events) ts))) (sym last)
      (with_reached took (reverse takes) left turn' (session_of_takes world.setting takes) (AllDue world.setting takes)
      (λ m d. reached_by takes (took.line ∷ left) m d (turn_before world took (reverse takes) left turn')) n h)

  session_reached : (takes : List Took) (n : ℕ) → IsSession world takes n → Reach (core_at world takes n)
  unfolding play IsDefined
  session_reached takes n session =
      let back : reverse (reverse takes) ≡ takes = reverse-reverse takes in
      let turn : AreInTurn world takes session.left =
      record { events = session.history.events_are; lines = session.history.lines_are; clients = session.clients } in
      subst (λ ts. Reach (core_of (session_of_takes world.setting (reverse takes) n).live (taken_by (length world.events) ts))) back
      (reached_by (reverse takes) session.left n session.made (subst (λ ts. AreInTurn world ts session.left) (sym back) turn))

pub sessions_have_cores : (B : Type 0) → SessionsHaveCores B
sessions_have_cores B world takes n session = session_reached world takes n session
