-- Where a step is among the steps of a core.
use Rattle.event_gate.specs.Clients.{of}
use Rattle.lwp_explore.proofs.Reached.{at_right, get_event}
use Rattle.lwp_explore.proofs.TakeCounts.{get_in}
use Rattle.lwp_explore.specs.Along.{IsCounted}
use Rattle.lwp_explore.specs.Cores.{Step, World, after, call_made, calls_at, count_at, next_line, steps_at, take_if, take_made, takes_at, takes_from}
use Rattle.lwp_explore.specs.Lines.{has_line}
use Rattle.lwp_explore.specs.Searching.{writes}
use Rattle.lwp_explore.specs.Sessions.{world_of}
use Rattle.lwp_explore.specs.Standing.{IsCalled, IsGone, IsStep, IsTakeOf, IsTaken, Standing, core_now, has_left_of, taken_now, trace_now}
use Rattle.lwp_explore.specs.Ways.{calls_in, step_lines, tail_of, takes_in}
use Rattle.lwp_types.specs.declared.call.Line.{Line}
use Rattle.pod_events.specs.Events.{has_turn, is_takeable}
use Rattle.script_body.specs.declared.thread_body.ThreadBody.{ThreadBody}
use Rattle.script_text.specs.Script.{lines_posted, proc_names}
use Rattle.session_cores.specs.Core.{Core}
use Rattle.std.proofs.Common.{Bool, List, Some, [], ap, arith, false, length, length-append, map, refl, slice_get, subst}
use Rattle.std.proofs.Common.{suc, sym, take, true, zero, ℕ, ◌++◌, ◌+◌, ◌<◌, ◌∙◌, ◌∷◌, ◌≡◌, ◌≤◌}
use Rattle.std.proofs.Math.Seq.{drop-append_seam}
use Rattle.std.proofs.lemmas.Bool.{and_parts, ltb-true}
use Rattle.std.specs.Option.{option_map_or}
use Rattle.std.specs.Prelude.{Err, IfSome, Ok, OnOk, Result, drop, if◌then◌else◌, slice_index}

get_left : {A : Type 0} (xs ys : List A) (i : ℕ) (x : A) → slice_get xs i ≡ Some x → slice_get (xs ++ ys) i ≡ Some x
get_left [] ys i x h = absurd cc
get_left (y ∷ xs) ys zero x h = h
get_left (y ∷ xs) ys (suc i) x h = get_left xs ys i x h

map_get : {A C : Type 0} (f : A → C) (xs : List A) (i : ℕ) (x : A) → slice_get xs i ≡ Some x → slice_get (map f xs) i ≡ Some (f x)
map_get f [] i x h = absurd cc
map_get f (y ∷ xs) zero x h = let same : y ≡ x = cc in ap (λ z. Some (f z)) same
map_get f (y ∷ xs) (suc i) x h = map_get f xs i x h

module _ {B : Type 0} (world : World B) (core : Core B) where
  place_from : (from : ℕ) (events : List ℕ) (k e : ℕ) (line : Line) → slice_get events k ≡ Some e → next_line world core (from + k) ≡ Some line
      → is_takeable core.pod e ≡ true
      → slice_get (takes_from world core from events) (length (takes_from world core from (take k events)))
      ≡ Some (take_made world core (from + k) (record { turn = 0; event = e; line = line }))
  place_from from [] k e line there next may = absurd cc
  place_from from (x ∷ events) zero e line there next may =
      let same : x ≡ e = cc in
      let here : from ≡ from + 0 = omega arith in
      (λ i. slice_get (take_if world core (here i) (same i) (next_line world core (here i)) ++ takes_from world core (from + 1) events) zero)
      ∙ ap (λ o. slice_get (take_if world core (from + 0) e o ++ takes_from world core (from + 1) events) zero) next
      ∙ ap (λ b. slice_get ((if b then take_made world core (from + 0)
      (record { turn = 0; event = e; line = line }) ∷ [] else []) ++ takes_from world core (from + 1) events) zero) may
  place_from from (x ∷ events) (suc k) e line there next may =
      let on : (from + 1) + k ≡ from + suc k = omega arith in
      let first = take_if world core from x (next_line world core from) in
      ap (slice_get (first ++ takes_from world core (from + 1) events)) (length-append first (takes_from world core (from + 1) (take k events)))
      ∙ at_right first (takes_from world core (from + 1) events) (length (takes_from world core (from + 1) (take k events)))
      ∙ place_from (from + 1) events k e line there (ap (next_line world core) on ∙ next) may
      ∙ ap (λ c. Some (take_made world core c (record { turn = 0; event = e; line = line }))) on

  -- the take of client c's line comes after those of the clients before it
  pub take_place : (c : ℕ) (line : Line) → c < length world.events → next_line world core c ≡ Some line
      → is_takeable core.pod (slice_index world.events c) ≡ true
      → slice_get (takes_at world core) (length (takes_from world core 0 (take c world.events)))
      ≡ Some (take_made world core c (record { turn = 0; event = slice_index world.events c; line = line }))
  take_place c line within next may =
      let here : 0 + c ≡ c = omega arith in
      place_from 0 world.events c (slice_index world.events c) line (get_event world.events c within) (ap (next_line world core) here ∙ next) may
      ∙ ap (λ k. Some (take_made world core k (record { turn = 0; event = slice_index world.events c; line = line }))) here

  pub take_among : (number c : ℕ) (line : Line) → c < length world.events → next_line world core c ≡ Some line
      → is_takeable core.pod (slice_index world.events c) ≡ true → length (takes_from world core 0 (take c world.events)) ≡ number
      → slice_get (steps_at world core) number ≡ Some (take_made world core c (record { turn = 0; event = slice_index world.events c; line = line }))
  take_among number c line within next may before =
      get_left (takes_at world core) (calls_at world core) number
      (take_made world core c (record { turn = 0; event = slice_index world.events c; line = line }))
      (ap (slice_get (takes_at world core)) (sym before) ∙ take_place c line within next may)

  -- the call comes after all takes
  call_by : (b : Bool) → has_turn core.pod.state ≡ b → (number : ℕ) → length (takes_at world core) ≤ number
      → number < length (steps_at world core) → slice_get (steps_at world core) number ≡ Some (call_made world core)
  call_by true due number more within =
      let all : calls_at world core ≡ call_made world core ∷ [] = ap (λ b. if b then call_made world core ∷ [] else []) due in
      let long = length-append (takes_at world core) (calls_at world core) in
      let at : number ≡ length (takes_at world core) + 0 = omega (arith, more, within, long, ap length all) in
      (λ i. slice_get (takes_at world core ++ all i) (at i))
      ∙ at_right (takes_at world core) (call_made world core ∷ []) 0
  call_by false due number more within =
      let none : calls_at world core ≡ [] = ap (λ b. if b then call_made world core ∷ [] else []) due in
      let long = length-append (takes_at world core) (calls_at world core) in
      absurd (omega (arith, more, within, long, ap length none))

  pub call_among : (number : ℕ) → length (takes_at world core) ≤ number → number < length (steps_at world core)
      → slice_get (steps_at world core) number ≡ Some (call_made world core)
  call_among number more within = call_by (has_turn core.pod.state) refl number more within

-- ---- a step that was made

pub on_ok : {T E P Q : Type 0} (r : Result T E) → (P → Q) → OnOk r P → OnOk r Q
on_ok (Ok x) f h = f h
on_ok (Err e) f h = tt

pub on_both : {T E P Q R : Type 0} (r : Result T E) → (P → Q → R) → OnOk r P → OnOk r Q → OnOk r R
on_both (Ok x) f h k = f h k
on_both (Err e) f h k = tt

abbrev Counts : Standing → Standing → Step ThreadBody → Type 0
Counts old new step = (new.run.calls ≡ old.run.calls + calls_in (step ∷ [])) × (length new.run.takes ≡ length old.run.takes + takes_in (step ∷ []))

module _ (old new : Standing) where
  abbrev w : World ThreadBody
  w = world_of old.script

  -- where a client's line is taken, the step of its number is made
  pub take_gone : (number c : ℕ) → IsTakeOf old number c → IsTaken old c new → IsGone old number new
  take_gone number c is taken =
      let parts = and_parts (has_left_of old c) (is_takeable (core_now old).pod (slice_index old.script.clients c)) is.may in
      let line = get_in (of c (lines_posted old.script)) (count_at (taken_now old) c)
      (ltb-true (count_at (taken_now old) c) (length (of c (lines_posted old.script))) parts.0) in
      subst (λ o. IfSome o (IsStep old new)) (sym (take_among w (core_now old) number c line.0 is.within line.1 parts.1 is.before))
      (subst (λ o. IfSome o (λ l. IsStep old new (take_made w (core_now old) c
      (record { turn = 0; event = slice_index old.script.clients c; line = l })))) line.1 taken)

  pub call_gone : (number : ℕ) → length (takes_at w (core_now old)) ≤ number → number < length (steps_at w (core_now old)) → IsCalled old new
      → IsGone old number new
  call_gone number more within called =
      subst (λ o. IfSome o (IsStep old new)) (sym (call_among w (core_now old) number more within)) called

  -- a take counts as one, and so does a call
  pub take_counts : (number c : ℕ) → IsTakeOf old number c → length new.run.takes ≡ length old.run.takes + 1 → new.run.calls ≡ old.run.calls
      → IsCounted old number new
  take_counts number c is longer calls =
      let parts = and_parts (has_left_of old c) (is_takeable (core_now old).pod (slice_index old.script.clients c)) is.may in
      let line = get_in (of c (lines_posted old.script)) (count_at (taken_now old) c)
      (ltb-true (count_at (taken_now old) c) (length (of c (lines_posted old.script))) parts.0) in
      let none : old.run.calls ≡ old.run.calls + 0 = omega arith in
      subst (λ o. IfSome o (Counts old new)) (sym (take_among w (core_now old) number c line.0 is.within line.1 parts.1 is.before)) (calls ∙ none, longer)

  pub call_counts : (number : ℕ) → length (takes_at w (core_now old)) ≤ number → number < length (steps_at w (core_now old))
      → new.run.calls ≡ old.run.calls + 1 → length new.run.takes ≡ length old.run.takes → IsCounted old number new
  call_counts number more within longer takes =
      let none : length old.run.takes ≡ length old.run.takes + 0 = omega arith in
      subst (λ o. IfSome o (Counts old new)) (sym (call_among w (core_now old) number more within)) (longer, takes ∙ none)

  -- what it wrote, and what comes after it where the session is over then
  pub gone_writes : (number : ℕ) → number < length (steps_at w (core_now old)) → IsGone old number new → (lines line : List ℕ)
      → lines ≡ drop (length (trace_now old)) (trace_now new)
      → has_line (lines ++ tail_of w (core_now new)) line ≡ writes w (proc_names old.script) line (core_now old) number
  gone_writes number within gone lines line last =
      let step = get_in (steps_at w (core_now old)) number within in
      let is = subst (λ o. IfSome o (IsStep old new)) step.1 gone in
      let own : lines ≡ step_lines (proc_names old.script) step.0 =
      last ∙ ap (drop (length (trace_now old))) is.lines ∙ drop-append_seam (trace_now old) (step_lines (proc_names old.script) step.0) in
      (λ i. has_line (own i ++ tail_of w (sym is.to i)) line)
      ∙ ap (λ o. option_map_or (λ (s : Step ThreadBody). has_line (step_lines (proc_names old.script) s ++ tail_of w s.to) line) o false) (sym step.1)

  -- it leads to the core where the machine is then
  pub gone_there : (number : ℕ) → number < length (steps_at w (core_now old)) → IsGone old number new
      → slice_get (after w (core_now old)) number ≡ Some (core_now new)
  gone_there number within gone =
      let step = get_in (steps_at w (core_now old)) number within in
      map_get (λ (step : Step ThreadBody). step.to) (steps_at w (core_now old)) number step.0 step.1
      ∙ ap (λ core. Some core) (subst (λ o. IfSome o (IsStep old new)) step.1 gone).to
