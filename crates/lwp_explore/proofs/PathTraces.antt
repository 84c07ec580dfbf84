-- The trace of each session is what the steps along some path write.
use Rattle.lwp_explore.proofs.Alike.{alike_core, core_alike, move_alike, take_alike}
use Rattle.lwp_explore.proofs.Played.{some_is}
use Rattle.lwp_explore.proofs.Reached.{among_takes, get_event, same_take}
use Rattle.lwp_explore.proofs.Turns.{AreInTurn, client_within, counts_more, event_is, line_next, none_yet, turn_before}
use Rattle.lwp_explore.specs.CoreLaws.{HasPath, SessionsHavePaths}
use Rattle.lwp_explore.specs.Cores.{Step, World, after, call_made, calls_at, first_core, live_of, steps_at, take_made, takes_at, with_taken}
use Rattle.lwp_explore.specs.Sessions.{IsSession}
use Rattle.lwp_explore.specs.Ways.{step_lines, steps_along, way, way_text}
use Rattle.lwp_types.specs.declared.call.Line.{Line}
use Rattle.pod_runner.specs.Due.{AllDue, CallsDue, IsDefined, TakeDue, is_call_due, is_take_due}
use Rattle.pod_runner.specs.Play.{play, session_of_calls, session_of_takes, with_take}
use Rattle.pod_runner.specs.Session.{Live, Made, Session, call_step, move, take_move, take_step}
use Rattle.pod_runner.specs.Snapshots.{taken_by}
use Rattle.pod_runner.specs.Trace.{lines, made_lines}
use Rattle.pod_runner.specs.declared.session.Took.{Took}
use Rattle.search.proofs.Places.{get_last, get_left}
use Rattle.search.proofs.Walks.{walk_push}
use Rattle.search.specs.Moves.{walk}
use Rattle.session_cores.specs.Core.{Core, core_of}
use Rattle.std.proofs.Common.{Bool, List, None, Option, Some, [], ap, append-nil, arith, false, length, refl, reverse, slice_get}
use Rattle.std.proofs.Common.{subst, suc, sym, true, zero, ℕ, ◌++◌, ◌∙◌, ◌∷◌, ◌≡◌}
use Rattle.std.proofs.lemmas.Grind.{flat_map-append}
use Rattle.std.proofs.lemmas.List.{reverse-append, reverse-reverse}
use Rattle.std.proofs.lemmas.Option.{slice_get-map}
use Rattle.std.specs.Option.{option_map_or}
use Rattle.std.specs.Prelude.{IsTrue, MatchBool, if◌then◌else◌, option_and_then, option_map, ◌==◌}

module _ {B : Type 0} (world : World B) (procs : List (List ℕ)) where
  -- a path leads to a session's core, and its steps write the session's lines
  record Told (s : Session B) (taken : List ℕ) : Type 0 where
    path : List ℕ
    leads : walk (after world) (first_core world) path ≡ Some (core_of s.live taken)
    trace : lines procs s.steps ≡ way_text procs (way world path)

  -- a path with one step more
  along_push : (path : List ℕ) (from to : Core B) (i : ℕ) (step : Step B) → walk (after world) from path ≡ Some to
      → slice_get (steps_at world to) i ≡ Some step → steps_along world from (path ++ i ∷ []) ≡ steps_along world from path ++ step ∷ []
  along_push [] from to i step led there =
      ap (λ o. option_map_or (λ (s : Step B). s ∷ steps_along world s.to []) o []) (ap (λ c. slice_get (steps_at world c) i) (some_is led) ∙ there)
  along_push (j ∷ path) from to i step led there =
      by (slice_get (steps_at world from) j) (sym (slice_get-map (λ (s : Step B). s.to) (steps_at world from) j)) led
      (λ s rest. along_push path s.to to i step rest there)
    where
      by : (o : Option (Step B)) → option_map (λ (s : Step B). s.to) o ≡ slice_get (after world from) j
          → option_and_then (λ c. walk (after world) c path) (slice_get (after world from) j) ≡ Some to
          → ((s : Step B) → walk (after world) s.to path ≡ Some to → steps_along world s.to (path ++ i ∷ []) ≡ steps_along world s.to path ++ step ∷ [])
          → option_map_or (λ (s : Step B). s ∷ steps_along world s.to (path ++ i ∷ [])) o []
          ≡ option_map_or (λ (s : Step B). s ∷ steps_along world s.to path) o [] ++ step ∷ []
      by None e led rest = absurd (cc (ap (option_and_then (λ c. walk (after world) c path)) e ∙ led))
      by (Some s) e led rest = ap (λ l. s ∷ l) (rest s (ap (option_and_then (λ c. walk (after world) c path)) e ∙ led))

  one_made : (steps : List Made) (made : Made) → lines procs (steps ++ made ∷ []) ≡ lines procs steps ++ made_lines procs made
  one_made steps made = flat_map-append (made_lines procs) steps (made ∷ []) ∙ ap (λ l. lines procs steps ++ l) (append-nil (made_lines procs made))

  one_step : (steps : List (Step B)) (step : Step B) → way_text procs (steps ++ step ∷ []) ≡ way_text procs steps ++ step_lines procs step
  one_step steps step = flat_map-append (step_lines procs) steps (step ∷ []) ∙ ap (λ l. way_text procs steps ++ l) (append-nil (step_lines procs step))

  told_more : (s t : Session B) (taken more : List ℕ) → Told s taken → (i : ℕ) (step : Step B) → slice_get (steps_at world (core_of s.live taken)) i ≡ Some step
      → step.to ≡ core_of t.live more → lines procs t.steps ≡ lines procs s.steps ++ step_lines procs step → Told t more
  told_more s t taken more told i step there to wrote = record {
    path = told.path ++ i ∷ [];
    leads = walk_push (after world) (first_core world) (core_of s.live taken) (core_of t.live more) told.path i told.leads
        (slice_get-map (λ (x : Step B). x.to) (steps_at world (core_of s.live taken)) i ∙ ap (option_map (λ (x : Step B). x.to)) there ∙ ap (λ c. Some c) to);
    trace = wrote ∙ ap (λ l. l ++ step_lines procs step) told.trace
        ∙ sym (ap (way_text procs) (along_push told.path (first_core world) (core_of s.live taken) i step told.leads there)
        ∙ one_step (way world told.path) step);
  }

  -- ---- a call

  call_told : (s : Session B) (taken : List ℕ) → is_call_due s ≡ true → Told s taken → Told (call_step world.setting s) taken
  call_told s taken due told =
      let core = core_of s.live taken in
      let alike = move_alike world.setting.next world.setting.bodies s.live (live_of core) (alike_core s.live taken) in
      let all : calls_at world core ≡ call_made world core ∷ [] = ap (λ b. if b then call_made world core ∷ [] else []) due in
      told_more s (call_step world.setting s) taken taken told (length (takes_at world core)) (call_made world core)
      (ap (λ calls. slice_get (takes_at world core ++ calls) (length (takes_at world core))) all ∙ get_last (takes_at world core) (call_made world core))
      (sym (core_alike (move world.setting.next world.setting.bodies s.live).live (move world.setting.next world.setting.bodies (live_of core)).live taken taken
      alike.lives refl))
      (one_made s.steps (record { take = None; effects = (move world.setting.next world.setting.bodies s.live).effects })
      ∙ ap (λ es. lines procs s.steps ++ made_lines procs (record { take = None; effects = es })) alike.effects)

  -- ---- a take

  abbrev now_of : Took → Took
  now_of took = record { turn = 0; event = took.event; line = took.line }

  same_effects : (took : Took) (a : Live B) → (take_move world.setting.bodies took a).effects ≡ (take_move world.setting.bodies (now_of took) a).effects
  unfolding take_move
  same_effects took a = refl

  take_told : (s : Session B) (takes : List Took) (took : Took) (left : List Line) → AreInTurn world (takes ++ took ∷ []) left → is_take_due took s ≡ true
      → Told s (taken_by (length world.events) takes) → Told (take_step world.setting took s) (taken_by (length world.events) (takes ++ took ∷ []))
  take_told s takes took left turn due told =
      let taken = taken_by (length world.events) takes in
      let more = taken_by (length world.events) (takes ++ took ∷ []) in
      let core = core_of s.live taken in
      let c = took.line.client in
      let within = client_within world took takes left turn in
      let place = among_takes world core c took.event took.line (line_next world took takes left turn) due 0 world.events c (omega arith)
      (get_event world.events c within ∙ ap (λ e. Some e) (event_is world took takes left turn)) in
      let alike = take_alike world.setting.bodies took s.live (live_of core) (alike_core s.live taken) in
      let step = take_made world core c (now_of took) in
      told_more s (take_step world.setting took s) taken more told place.0 step (get_left (takes_at world core) (calls_at world core) place.0 step place.1)
      (sym (core_alike (take_move world.setting.bodies took s.live).live (take_move world.setting.bodies (now_of took) (live_of core)).live more
      (with_taken taken c) (same_take world took s.live (live_of core) alike.lives) (sym (counts_more (length world.events) took takes within))))
      (one_made s.steps (record { take = Some took; effects = (take_move world.setting.bodies took s.live).effects })
      ∙ ap (λ es. lines procs s.steps ++ made_lines procs (record { take = Some (now_of took); effects = es }))
      (alike.effects ∙ same_effects took (live_of core)))

  -- ---- sessions

  calls_told : (n : ℕ) → CallsDue world.setting n → Told (session_of_calls world.setting n) (taken_by (length world.events) [])
  calls_told zero due = record {
    path = [];
    leads = ap (λ taken. Some (core_of (session_of_calls world.setting 0).live taken)) (sym (none_yet 0 (length world.events)));
    trace = refl;
  }
  calls_told (suc n) due = call_told (session_of_calls world.setting n) (taken_by (length world.events) []) due.1 (calls_told n due.0)

  with_told : (took : Took) (takes : List Took) (left : List Line) → AreInTurn world (takes ++ took ∷ []) left
      → (before : ℕ → Session B) (Before : ℕ → Type 0) → ((n : ℕ) → Before n → Told (before n) (taken_by (length world.events) takes))
      → (n : ℕ) → TakeDue world.setting took before Before n
      → Told (with_take world.setting took before n) (taken_by (length world.events) (takes ++ took ∷ []))
  with_told took takes left turn before Before was zero h = take_told (before 0) takes took left turn h.2 (was 0 h.1)
  with_told took takes left turn before Before was (suc n) h =
      by_turn (took.turn == suc n) (λ d. with_told took takes left turn before Before was n d) h
    where
      by_turn : (b : Bool) → (TakeDue world.setting took before Before n
          → Told (with_take world.setting took before n) (taken_by (length world.events) (takes ++ took ∷ [])))
          → MatchBool b (Before (suc n) × IsTrue (is_take_due took (before (suc n))))
          (TakeDue world.setting took before Before n × IsTrue (is_call_due (with_take world.setting took before n)))
          → Told (if b then take_step world.setting took (before (suc n)) else call_step world.setting (with_take world.setting took before n))
          (taken_by (length world.events) (takes ++ took ∷ []))
      by_turn true rest h = take_told (before (suc n)) takes took left turn h.1 (was (suc n) h.0)
      by_turn false rest h = call_told (with_take world.setting took before n) (taken_by (length world.events) (takes ++ took ∷ [])) h.1 (rest h.0)

  told_by : (takes : List Took) (left : List Line) (n : ℕ) → AllDue world.setting takes n → AreInTurn world (reverse takes) left
      → Told (session_of_takes world.setting takes n) (taken_by (length world.events) (reverse takes))
  told_by [] left n h turn = calls_told n h
  told_by (took ∷ takes) left n h turn =
      let last : reverse (took ∷ takes) ≡ reverse takes ++ took ∷ [] = reverse-append (took ∷ []) takes in
      let turn' = subst (λ ts. AreInTurn world ts left) last turn in
      subst (λ ts. Told (session_of_takes world.setting (took ∷ takes) n) (taken_by (length world.events) ts)) (sym last)
      (with_told took (reverse takes) left turn' (session_of_takes world.setting takes) (AllDue world.setting takes)
      (λ m d. told_by takes (took.line ∷ left) m d (turn_before world took (reverse takes) left turn')) n h)

  pub session_path : (takes : List Took) (n : ℕ) → IsSession world takes n → HasPath world procs takes n
  unfolding play IsDefined
  session_path takes n session =
      let back : reverse (reverse takes) ≡ takes = reverse-reverse takes in
      let turn : AreInTurn world takes session.left =
      record { events = session.history.events_are; lines = session.history.lines_are; clients = session.clients } in
      let told = subst (λ ts. Told (session_of_takes world.setting (reverse takes) n) (taken_by (length world.events) ts)) back
      (told_by (reverse takes) session.left n session.made (subst (λ ts. AreInTurn world ts session.left) (sym back) turn)) in
      record { path = told.path; leads = told.leads; trace = told.trace }

pub sessions_have_paths : (B : Type 0) → SessionsHavePaths B
sessions_have_paths B world procs takes n session = session_path world procs takes n session
