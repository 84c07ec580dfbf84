-- What the end of a walk comes to.
use Rattle.event_gate.specs.Port.{of}
use Rattle.event_gate.specs.Shelves.{event_of, first_left, full_shelves}
use Rattle.lwp_types.specs.Choice.{choice}
use Rattle.lwp_types.specs.State.{State}
use Rattle.lwp_types.specs.declared.call.Line.{Line}
use Rattle.pod_events.specs.Events.{EventState, is_takeable}
use Rattle.pod_runner.specs.Over.{can_take, events, halt_if, is_wanted}
use Rattle.pod_runner.specs.Phase.{phase_by, phase_of, phase_of_halt}
use Rattle.replay.proofs.Exits.{in-end, missing}
use Rattle.event_gate.specs.History.{lines_of}
use Rattle.replay.proofs.Forcing.{call-told, posted-by, told_line}
use Rattle.replay.proofs.Left.{client-some, first-for, some-client, some_first}
use Rattle.replay.proofs.LineLaws.{count-append}
use Rattle.replay.proofs.StepLines.{tells-same}
use Rattle.replay.proofs.Steps.{behind-front, same-end}
use Rattle.replay.proofs.WalkLaws.{chosen-turn, lowest-same, no-take, over-turn, says-other}
use Rattle.replay.specs.Asked.{Asked, IsReached, Reach, counts_from, end_by, halt_at, pairs_of}
use Rattle.replay.specs.Next.{NoneTold, counts_in, lowest_in}
use Rattle.replay.specs.Recorded.{Agree, is_ended, line_count, next_line}
use Rattle.replay.specs.Replayed.{Says}
use Rattle.replay.specs.Says.{DiffersBy, EndSays}
use Rattle.replay.specs.Verdict.{IsSame, call_lines, first_result, lowest_take, next_lines, next_of, or_else, take_by, take_lines, take_of, tells_take}
use Rattle.replay.specs.Walk.{ClientsLeft, Due, Going, IsFit, IsNext, Moment, Speaks, moment, move_lines, session_of, lines_until}
use Rattle.replay.specs.declared.verdict.Verdict.{Verdict}
use Rattle.trace_text.specs.Lines.{end_text}
use Rattle.trace_text.specs.declared.ends.Halt.{Halt}
use Rattle.std.specs.List.{list_any, range_with_len}
use Rattle.std.specs.Prelude.{IsTrue, Option, if◌then◌else◌, is_some, nat_le, nat_lt, not, slice_index_or, unwrap_or, ◌&&◌, ◌==◌, ◌||◌}
use Rattle.std.proofs.Common.{Bool, List, None, Some, [], ap, append-nil, arith, cond, drop, false, inl, inr, length, map, refl, slice_get}
use Rattle.std.proofs.Common.{subst, suc, sym, take, take-append-drop, true, zero, ℕ, ◌++◌, ◌+◌, ◌<◌, ◌∙◌, ◌∷◌, ◌≡◌, ◌≤◌, ◌⊎◌}
use Rattle.std.proofs.lemmas.Bool.{cases_eq, eq-eqb, eqb-true}
use Rattle.std.proofs.lemmas.Bool.Decides.{nat_tests}
use Rattle.std.proofs.lemmas.List.Elements.{recursion_from_All}
use Rattle.pod_runner.specs.declared.phase.Phase.TheVariants as phase
use Rattle.replay.specs.declared.verdict.Verdict.TheVariants as verdict
use Rattle.trace_text.specs.declared.ends.Halt.TheVariants as halt

-- ---- whether some line can be taken, by the lowest

module _ (f : ℕ → Option (List ℕ)) (test : ℕ → Bool) where
  -- where one gives something where the other holds
  given-any : (a n : ℕ) → ((k : ℕ) → a ≤ k → k < a + n → is_some (f k) ≡ test k)
      → is_some (first_result f (range_with_len a n)) ≡ list_any test (range_with_len a n)
  given-any a zero same = refl
  given-any a (suc n) same =
      head (f a) (test a) (same a (omega arith) (omega arith)) (given-any (a + 1) n (λ k low under. same k (omega (arith, low)) (omega (arith, under))))
    where
      head : (o : Option (List ℕ)) (b : Bool) → is_some o ≡ b → is_some (first_result f (range_with_len (a + 1) n)) ≡ list_any test (range_with_len (a + 1) n)
          → is_some (or_else o (first_result f (range_with_len (a + 1) n))) ≡ (b || list_any test (range_with_len (a + 1) n))
      head (Some x) true e rest = refl
      head (Some x) false e rest = absurd (cc)
      head None true e rest = absurd (cc)
      head None false e rest = rest

bool-same : (a b : Bool) → (a ≡ true → b ≡ true) → (b ≡ true → a ≡ true) → a ≡ b
bool-same true b f g = sym (f refl)
bool-same false true f g = g refl
bool-same false false f g = refl

given-some-at : (f : ℕ → Option (List ℕ)) (ns : List ℕ) → is_some (first_result f ns) ≡ true → (k : ℕ) × (is_some (f k) ≡ true)
given-some-at f [] h = absurd (cc)
given-some-at f (n ∷ ns) h = head (f n) refl h (given-some-at f ns)
  where
    head : (o : Option (List ℕ)) → f n ≡ o → is_some (or_else o (first_result f ns)) ≡ true
        → (is_some (first_result f ns) ≡ true → (k : ℕ) × (is_some (f k) ≡ true)) → (k : ℕ) × (is_some (f k) ≡ true)
    head (Some x) e h rest = (n, ap is_some e)
    head None e h rest = rest h

given-at : (f : ℕ → Option (List ℕ)) (a n k : ℕ) → a ≤ k → k < a + n → is_some (f k) ≡ true → is_some (first_result f (range_with_len a n)) ≡ true
given-at f a zero k low under h = absurd (omega (arith, low, under))
given-at f a (suc n) k low under h = head (f a) refl (elim (cases_eq a k) [
  | inl same ↦ inl (ap (λ j. is_some (f j)) same ∙ h)
  | inr other ↦ inr (given-at f (a + 1) n k (omega (arith, low, other)) (omega (arith, under)) h)
])
  where
    head : (o : Option (List ℕ)) → f a ≡ o → (is_some (f a) ≡ true) ⊎ (is_some (first_result f (range_with_len (a + 1) n)) ≡ true)
        → is_some (or_else o (first_result f (range_with_len (a + 1) n))) ≡ true
    head (Some x) e w = refl
    head None e (inl h) = absurd (let bad : false ≡ true = sym (ap is_some e) ∙ h in cc)
    head None e (inr h) = h

some-line : (l : List Line) → some_first l ≡ true → (x : Line) × (slice_get l 0 ≡ Some x)
some-line [] h = absurd (cc)
some-line (x ∷ l) h = (x, refl)

module _ {B : Type 0} (asked : Asked B) (fit : IsFit asked) (at : Reach) (is : IsReached asked at) where
  abbrev state : EventState
  state = (session_of asked.setting (moment asked at)).live.pod

  -- who has a line left is one of the clients
  left-client : (c : ℕ) → some_first (of c at.left) ≡ true → c < length asked.clients
  left-client c some =
      let w = some-line (of c at.left) some in
      let before = of c (lines_of (pairs_of at.takes)) in
      posted-by (length asked.clients) c (length before) w.0 asked.posts
      (recursion_from_All (λ (line : Line). line.client < length asked.clients) asked.posts fit.posters)
      (ap (λ l. slice_get l (length before)) (sym (is.history.lines_are c)) ∙ behind-front before (of c at.left) 0 refl ∙ w.1)

  take-some : (e c : ℕ) → event_of asked.clients c ≡ e → some_first (of c at.left) ≡ true → is_some (take_by asked state.state.now at.left e c) ≡ true
  take-some e c here some = rw (eq-eqb (event_of asked.clients c) e here) (mapped (next_of c at.left) some)
    where
      mapped : (o : Option Line) → is_some o ≡ true → is_some (take_lines state.state.now e o) ≡ true
      mapped None h = absurd (cc)
      mapped (Some x) h = refl

  some-take : (e c : ℕ) → is_some (take_by asked state.state.now at.left e c) ≡ true → (event_of asked.clients c ≡ e) × (some_first (of c at.left) ≡ true)
  some-take e c h = by_test (event_of asked.clients c == e) refl h
    where
      mapped : (o : Option Line) → is_some (take_lines state.state.now e o) ≡ true → is_some o ≡ true
      mapped None h = absurd (cc)
      mapped (Some x) h = refl

      by_test : (b : Bool) → (event_of asked.clients c == e) ≡ b
          → is_some (cond b (take_lines state.state.now e (next_of c at.left)) None) ≡ true
          → (event_of asked.clients c ≡ e) × (some_first (of c at.left) ≡ true)
      by_test true is h = (eqb-true (event_of asked.clients c) e is, mapped (next_of c at.left) h)
      by_test false is h = absurd (cc)

  event-wanted : (e : ℕ) → e < 256 → is_some (take_of asked at e) ≡ can_take state (full_shelves asked.clients at.left) e
  event-wanted e high = by_armed (is_takeable state e)
    where
      inner : is_some (first_result (take_by asked state.state.now at.left e) (range_with_len 0 (length asked.clients)))
          ≡ is_some (first_left (full_shelves asked.clients at.left) e)
      inner = bool-same _ _
          (λ h. let w = given-some-at (take_by asked state.state.now at.left e) (range_with_len 0 (length asked.clients)) h in let x = some-take e w.0 w.1 in
          ap is_some (first-for asked.clients e at.left high) ∙ client-some asked.clients e at.left w.0 x.0 x.1)
          (λ h. let w = some-client asked.clients e at.left (ap is_some (sym (first-for asked.clients e at.left high)) ∙ h) in
          given-at (take_by asked state.state.now at.left e) 0 (length asked.clients) w.0 (omega arith) (omega (arith, left-client w.0 w.2))
          (take-some e w.0 w.1 w.2))

      by_armed : (b : Bool)
          → is_some (if b then first_result (take_by asked state.state.now at.left e) (range_with_len 0 (length asked.clients)) else None)
          ≡ (b && is_some (first_left (full_shelves asked.clients at.left) e))
      by_armed true = inner
      by_armed false = refl

  pub lowest-wanted : is_some (lowest_take asked at) ≡ is_wanted state (full_shelves asked.clients at.left)
  unfolding events
  lowest-wanted = given-any (take_of asked at) (λ e. can_take state (full_shelves asked.clients at.left) e) 0 32
      (λ e low under. event-wanted e (omega (arith, under)))

-- ---- how many are left

counts-are : (lines : List (List Line)) (left : List Line) (a : ℕ) (clients : List ℕ) → length lines ≡ length clients
    → ((c : ℕ) → c < length clients → slice_index_or lines c [] ≡ of (a + c) left) → map (λ l. length l) lines ≡ counts_from a clients left
counts-are [] left a [] long each = refl
counts-are [] left a (e ∷ es) long each = absurd (omega (arith, long))
counts-are (l ∷ ls) left a [] long each = absurd (omega (arith, long))
counts-are (l ∷ ls) left a (e ∷ es) long each =
    let first : length l ≡ length (of a left) = ap length (each 0 (omega arith) ∙ ap (λ k. of k left) (omega arith)) in
    ap (λ n. n ∷ map (λ l. length l) ls) first
    ∙ ap (λ ns. length (of a left) ∷ ns)
    (counts-are ls left (a + 1) es (omega (arith, long)) (λ c low. each (suc c) (omega (arith, low)) ∙ ap (λ k. of k left) (omega arith)))

-- ---- the phase of an end

over-phase : (s : State) (turns calls : ℕ) (h : Halt) (w : Bool) → phase_of s turns calls ≡ phase_of_halt h → (h ≡ halt.Stuck → w ≡ false)
    → (if s.ended then Some (halt.Ended s.status) else halt_if turns calls w (choice s)) ≡ Some h
over-phase s turns calls h w is stuck = by_end s.ended (choice s) h is stuck
  where
    by_end : (b : Bool) (o : Option ℕ) (h : Halt) → cond b (phase.Ended s.status) (phase_by turns calls o) ≡ phase_of_halt h
        → (h ≡ halt.Stuck → w ≡ false) → (if b then Some (halt.Ended s.status) else halt_if turns calls w o) ≡ Some h
    by_end true o (halt.Ended status) is stuck = let same : s.status ≡ status = cc in ap (λ n. Some (halt.Ended n)) same
    by_end true o halt.Stuck is stuck = absurd (cc)
    by_end true o halt.Spent is stuck = absurd (cc)
    by_end false None (halt.Ended status) is stuck = absurd (cc)
    by_end false None halt.Stuck is stuck = ap (λ b. if b then None else Some halt.Stuck) (stuck refl)
    by_end false None halt.Spent is stuck = absurd (cc)
    by_end false (Some t) h is stuck = by_count (nat_lt calls turns) (nat_le turns calls) refl refl h is
      where
        by_count : (a b : Bool) → nat_lt calls turns ≡ a → nat_le turns calls ≡ b → (h : Halt)
            → cond a phase.Turn phase.Spent ≡ phase_of_halt h → (if b then Some halt.Spent else None) ≡ Some h
        by_count true b one two (halt.Ended status) is = absurd (cc)
        by_count true b one two halt.Stuck is = absurd (cc)
        by_count true b one two halt.Spent is = absurd (cc)
        by_count false true one two halt.Spent is = refl
        by_count false false one two h is = absurd (grind (arith, nat_tests))
        by_count false true one two (halt.Ended status) is = absurd (cc)
        by_count false true one two halt.Stuck is = absurd (cc)

no-call-due : (s : State) (turns calls : ℕ) (h : Halt) → phase_of s turns calls ≡ phase_of_halt h
    → IsTrue (not s.ended && is_some (choice s)) → calls + 1 ≤ turns → ⊥
no-call-due s turns calls h is due room = by_end s.ended (choice s) h is due
  where
    by_end : (b : Bool) (o : Option ℕ) (h : Halt) → cond b (phase.Ended s.status) (phase_by turns calls o) ≡ phase_of_halt h → IsTrue (not b && is_some o) → ⊥
    by_end true o h is due = absurd (cc)
    by_end false None h is due = absurd (cc)
    by_end false (Some t) h is due = by_count (nat_lt calls turns) refl h is
      where
        by_count : (a : Bool) → nat_lt calls turns ≡ a → (h : Halt) → cond a phase.Turn phase.Spent ≡ phase_of_halt h → ⊥
        by_count true one (halt.Ended status) is = absurd (cc)
        by_count true one halt.Stuck is = absurd (cc)
        by_count true one halt.Spent is = absurd (cc)
        by_count false one h is = grind (arith, nat_tests)

over-idle : (b : Bool) (o : Option ℕ) (w : Bool) (status turns calls : ℕ) → b ≡ false → o ≡ None → w ≡ true
    → (if b then Some (halt.Ended status) else halt_if turns calls w o) ≡ None
over-idle b o w status turns calls e f g = rw (e, f, g) refl

none-some : {A : Type 0} (o : Option A) → is_some o ≡ false → o ≡ None
none-some None h = refl
none-some (Some x) h = absurd (cc)

module _ {B : Type 0} (asked : Asked B) (bytes : List ℕ) (fit : IsFit asked) (speaks : Speaks asked) (p : Moment) (lines : ClientsLeft)
    (at n ticks : ℕ) (here : Going asked bytes p lines at n ticks)
    (none : NoneTold lines (session_of asked.setting p).live.pod (drop at bytes) (length lines.clients)) where
  abbrev rest : List ℕ
  rest = drop at bytes

  abbrev at_here : Reach
  at_here = record { takes = p.takes; calls = p.calls; left = here.left }

  no-take-here : (t : ℕ × Line) → Due asked.setting p (Some t) → IsNext asked p t → Agree 1 rest (told_line asked bytes p t) → ⊥
  no-take-here t due next agree =
      no-take asked fit speaks p lines (record { recorded = bytes; at = at; lines = n; ticks = ticks; step = []; faults = 0 })
      (record { recorded = bytes; at = at; lines = n; ticks = ticks; step = []; faults = 0 }) here refl none t due next agree

  pub walk-over : (h : Halt) → phase_of (session_of asked.setting p).live.pod.state asked.turns p.calls ≡ phase_of_halt h
      → (h ≡ halt.Stuck → lowest_in lines (session_of asked.setting p).live.pod ≡ None)
      → (v : Verdict) → EndSays (end_text asked.turns (counts_in lines) h) rest n v → Says asked bytes v p.takes p.calls
  walk-over h is stuck v says = by_verdict v says
    where
      halted : halt_at asked at_here ≡ Some h
      halted = over-phase (session_of asked.setting p).live.pod.state asked.turns p.calls h
          (is_wanted (session_of asked.setting p).live.pod (full_shelves asked.clients here.left)) is
          (λ e. sym (lowest-wanted asked fit at_here here.reached)
          ∙ ap is_some (sym (lowest-same asked p lines here.left here.same_clients here.kept) ∙ stuck e))

      counts : counts_in lines ≡ counts_from 0 asked.clients here.left
      counts = counts-are lines.left here.left 0 asked.clients (here.kept.long ∙ ap length here.same_clients)
          (λ c low. here.kept.each c (omega (arith, low, ap length here.same_clients)) ∙ ap (λ k. of k here.left) (omega arith))

      tail-is : end_text asked.turns (counts_in lines) h ≡ end_by asked at_here (halt_at asked at_here)
      tail-is = ap (λ cs. end_text asked.turns cs h) counts ∙ ap (end_by asked at_here) (sym halted)

      by_verdict : (v : Verdict) → EndSays (end_text asked.turns (counts_in lines) h) rest n v → Says asked bytes v p.takes p.calls
      by_verdict (verdict.Same l) says =
          let whole = same-end asked bytes fit speaks p lines at n ticks here h halted (end_text asked.turns (counts_in lines) h)
          (ap (λ cs. end_text asked.turns cs h) counts) says.0 in
          let count : line_count bytes
          ≡ l = omega (
            arith,
            says.1,
            here.stands.count,
            ap line_count here.stands.begins,
            count-append (lines_until asked.setting asked.procs p) rest,
            ap line_count says.0,
          ) in
          subst (λ k. IsSame asked bytes k p.takes p.calls) count whole
      by_verdict (verdict.Differs line want got ended) says =
          let text = end_text asked.turns (counts_in lines) h in
          let b = says.bytes in
          says-other asked bytes (verdict.Differs line want got ended) (n + line_count (take b text) + 1) (next_line (drop b text))
          (next_line (drop b rest)) (is_ended (drop b rest)) p.takes p.calls
          (subst
          (λ k. DiffersBy (verdict.Differs line want got ended) (n + k + 1) (next_line (drop b text)) (next_line (drop b rest)) (is_ended (drop b rest)))
          says.common.count says.differs)
          (in-end asked bytes fit speaks n p rest here.stands at_here here.reached refl here.last h halted (take b text) (drop b text) (drop b rest)
          (sym tail-is ∙ sym (take-append-drop b text)) (sym (take-append-drop b rest) ∙ ap (λ l. l ++ drop b rest) (sym says.common.same))
          says.common.closed says.common.differs says.unlike
          (λ due room. no-call-due (session_of asked.setting p).live.pod.state asked.turns p.calls h is due room) no-take-here)

  -- a take was to come, and none is told
  pub walk-missing : (line : List ℕ) → lowest_in lines (session_of asked.setting p).live.pod ≡ Some line → halt_at asked at_here ≡ None
      → (next_lines asked at_here rest ≡ line)
      → (Due asked.setting p None → p.calls + 1 ≤ asked.turns → Agree 1 rest (move_lines asked.setting asked.procs p None) → ⊥)
      → (v : Verdict) → DiffersBy v (n + 1) (next_line line) (next_line rest) (is_ended rest) → Says asked bytes v p.takes p.calls
  walk-missing line lowest goes_on next no_call v says =
      says-other asked bytes v (n + 1) (next_line (next_lines asked at_here rest)) (next_line rest) (is_ended rest) p.takes p.calls
      (subst (λ l. DiffersBy v (n + 1) (next_line l) (next_line rest) (is_ended rest)) (sym next) says)
      (missing asked bytes fit speaks n p rest here.stands at_here here.reached refl here.last goes_on no_call no-take-here)

  call-head : Due asked.setting p None → (tells_take rest ≡ true) → Agree 1 rest (move_lines asked.setting asked.procs p None) → ⊥
  call-head due tells agree =
      let text = move_lines asked.setting asked.procs p None in
      let told = call-told asked bytes speaks p [] here.stands.made due in
      let bad : true ≡ false = sym tells ∙ tells-same rest text agree ∙ ap tells_take (sym (append-nil text)) ∙ told.1 in
      cc bad

  idle-none : (s : State) (turns calls : ℕ) → phase_of s turns calls ≡ phase.Idle → (s.ended ≡ false) × (choice s ≡ None)
  idle-none s turns calls h = by_end s.ended (choice s) refl refl h
    where
      by_end : (b : Bool) (o : Option ℕ) → s.ended ≡ b → choice s ≡ o → cond b (phase.Ended s.status) (phase_by turns calls o) ≡ phase.Idle
          → (s.ended ≡ false) × (choice s ≡ None)
      by_end true o e f h = absurd (cc)
      by_end false None e f h = (e, f)
      by_end false (Some t) e f h = by_count (nat_lt calls turns) h
        where
          by_count : (a : Bool) → cond a phase.Turn phase.Spent ≡ phase.Idle → (s.ended ≡ false) × (choice s ≡ None)
          by_count true h = absurd (cc)
          by_count false h = absurd (cc)

  -- a take was to come, as the phase of the pod and the recorded line say, and none is told
  pub walk-asked : (line : List ℕ) → lowest_in lines (session_of asked.setting p).live.pod ≡ Some line
      → (phase_of (session_of asked.setting p).live.pod.state asked.turns p.calls ≡ phase.Idle)
      ⊎ ((phase_of (session_of asked.setting p).live.pod.state asked.turns p.calls ≡ phase.Turn) × (tells_take rest ≡ true))
      → (v : Verdict) → DiffersBy v (n + 1) (next_line line) (next_line rest) (is_ended rest) → Says asked bytes v p.takes p.calls
  walk-asked line lowest (inl idle) v says =
      let s = (session_of asked.setting p).live.pod.state in
      let pod = (session_of asked.setting p).live.pod in
      let w = idle-none s asked.turns p.calls idle in
      let low : lowest_take asked at_here ≡ Some line = sym (lowest-same asked p lines here.left here.same_clients here.kept) ∙ lowest in
      let wanted : is_wanted pod (full_shelves asked.clients here.left) ≡ true = sym (lowest-wanted asked fit at_here here.reached) ∙ ap is_some low in
      walk-missing line lowest
      (over-idle s.ended (choice s) (is_wanted pod (full_shelves asked.clients here.left)) s.status asked.turns p.calls w.0 w.1 wanted) (rw w.1 (ap (λ o.
      unwrap_or o (call_lines asked at_here)) low))
      (λ due room agree. idle-call s w.1 due) v says
    where
      idle-call : (s : State) → choice s ≡ None → IsTrue (not s.ended && is_some (choice s)) → ⊥
      idle-call s e due = by_end s.ended (rw e at due)
        where
          by_end : (b : Bool) → IsTrue (not b && false) → ⊥
          by_end true h = absurd (cc)
          by_end false h = absurd (cc)
  walk-asked line lowest (inr w) v says =
      let s = (session_of asked.setting p).live.pod.state in
      let pod = (session_of asked.setting p).live.pod in
      let low : lowest_take asked at_here ≡ Some line = sym (lowest-same asked p lines here.left here.same_clients here.kept) ∙ lowest in
      walk-missing line lowest (over-turn s asked.turns p.calls (is_wanted pod (full_shelves asked.clients here.left)) w.0)
      (rw (chosen-turn s asked.turns p.calls w.0, w.1) (ap (λ o. unwrap_or o (call_lines asked at_here)) low))
      (λ due room agree. call-head due w.1 agree) v says
