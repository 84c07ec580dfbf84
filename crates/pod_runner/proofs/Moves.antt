-- One call of a session, by what was found.
use Rattle.std.proofs.Common.{subst, ◌++◌, ◌≡◌, ℕ, ◌<◌, ◌≤◌, List, [], length, None, Some, sym, ap, ◌∙◌, refl, arith, inl, inr, true, false, Bool}
use Rattle.std.specs.Prelude.{Option, slice_get, if◌then◌else◌}
use Rattle.std.proofs.lemmas.Option.{slice_get_past, slice_get_cases}
use Rattle.pod_events.specs.Machine.{current_of}
use Rattle.pod_events.specs.Events.{EventState, take_event}
use Rattle.lwp_types.specs.Choice.{choice}
use Rattle.lwp_types.specs.Names.{Names, names_for_poll}
use Rattle.lwp_types.specs.Poll.{Next}
use Rattle.lwp_types.specs.State.{State}
use Rattle.pod_events.specs.Step.{event_step, leads, leads_if}
use Rattle.pod_events.specs.Traps.{lead}
use Rattle.lwp_types.specs.declared.call.Call.{Call}
use Rattle.lwp_types.specs.declared.call.Effect.{Effect}
use Rattle.pod_runner.specs.RunParts.{Moves}
use Rattle.trace_text.specs.Lines.{step_lines}
use Rattle.pod_runner.specs.Polls.{Polls, place_of}
use Rattle.pod_runner.specs.Session.{Live, after_poll, after_settle, call_move, move, no_move, proc_of, row_of, take_move}
use Rattle.pod_runner.specs.declared.session.Took.{Took}
use Rattle.pod_runner.specs.declared.session.Row.{Row}
use Rattle.pod_runner.proofs.RowLemmas.{row_of-place, with_row-place}

-- the thread whose turn it is was chosen
pub chosen_from : (s : State) (t : ℕ) → current_of s ≡ Some t → choice s ≡ Some t
chosen_from s t h = by_end s.ended h
  where
    by_end : (b : Bool) → (if b then None else choice s) ≡ Some t → choice s ≡ Some t
    by_end true h = let no : None ≡ Some t = h in cc
    by_end false h = h

pub slice_get_present : {X : Type 0} (xs : List X) (i : ℕ) → i < length xs → (x : X) × (slice_get xs i ≡ Some x)
slice_get_present xs i there = elim (slice_get_cases xs i).1 [ inl w ↦ (w.0, w.2) | inr w ↦ absurd (omega arith) ]

pub move_no_row : {B : Type 0} (next : Next B) (bodies : List B) (live : Live B) (t : ℕ) → choice live.pod.state ≡ Some t
    → length live.rows ≤ place_of t live.rows → move next bodies live ≡ no_move live
unfolding move
move_no_row next bodies live t h past = rw (h, row_of-place t live.rows, slice_get_past live.rows (place_of t live.rows) past) refl

move_some : {B : Type 0} (next : Next B) (bodies : List B) (live : Live B) (t : ℕ) (row : Row B) → choice live.pod.state ≡ Some t
    → row_of t live.rows ≡ Some row
    → move next bodies live ≡ call_move bodies live t (next row.body (names_for_poll t live.names) row.answer)
unfolding move
move_some next bodies live t row h there = rw (h, there) refl

-- a call that was carried out
pub moved : {B : Type 0} (next : Next B) (bodies : List B) (live : Live B) (t : ℕ) (row : Row B) (call : Call) (after : EventState)
    (effects : List Effect) (mid rows : List (Row B)) (names : Names)
    → choice live.pod.state ≡ Some t → slice_get live.rows (place_of t live.rows) ≡ Some row
    → Polls next row (names_for_poll t live.names) call (place_of t live.rows) live.rows mid names
    → after ≡ (event_step live.pod call).after → effects ≡ (event_step live.pod call).effects
    → rows ≡ after_settle bodies (proc_of call) effects mid
    → move next bodies live ≡ record { live = record { pod = after; rows = rows; names = names }; effects = effects }
unfolding call_move
moved next bodies live t row call after effects mid rows names h there polls a e r =
    let found : row_of t live.rows ≡ Some row = row_of-place t live.rows ∙ there in
    let reply = next row.body (names_for_poll t live.names) row.answer in
    let left : mid ≡ after_poll t reply.1 reply.0 live.rows = polls.leaves ∙ sym (with_row-place t _ live.rows row there) in
    move_some next bodies live t row h found ∙ rw (r, e, a, left, polls.names, polls.gives) refl

-- a call by the place of the row, with its lines
pub moves_at : {B : Type 0} (next : Next B) (bodies : List B) (procs : List (List ℕ)) (live : Live B) (t i : ℕ) (known : Names)
    (call : Call) (after : EventState) (effects : List Effect) (mid rows : List (Row B)) (names : Names) (out : List ℕ) (born : Option ℕ)
    → choice live.pod.state ≡ Some t → i ≡ place_of t live.rows → i < length live.rows → known ≡ names_for_poll t live.names
    → ((row : Row B) → slice_get live.rows i ≡ Some row → Polls next row known call i live.rows mid names)
    → after ≡ (event_step live.pod call).after → effects ≡ (event_step live.pod call).effects
    → born ≡ proc_of call → rows ≡ after_settle bodies born effects mid → out ≡ step_lines procs None effects
    → Moves procs None (move next bodies live) (record { pod = after; rows = rows; names = names }) effects out
moves_at next bodies procs live t i known call after effects mid rows names out born h at there k polls a e b r o =
    let found = slice_get_present live.rows i there in
    let is : slice_get live.rows (place_of t live.rows) ≡ Some found.0 = ap (slice_get live.rows) (sym at) ∙ found.1 in
    let p : Polls next found.0 (names_for_poll t live.names) call (place_of t live.rows) live.rows mid names = rw (← at, ← k) (polls found.0 found.1) in
    let m = moved next bodies live t found.0 call after effects mid rows names h is p a e (r ∙ ap (λ born. after_settle bodies born effects mid) b) in
    record { live = rw m refl; effects = rw m refl; lines = o ∙ rw m refl }

-- with no row, nothing happens
pub moves_none : {B : Type 0} (next : Next B) (bodies : List B) (procs : List (List ℕ)) (live : Live B) (t : ℕ) (out : List ℕ)
    → choice live.pod.state ≡ Some t → length live.rows ≤ place_of t live.rows → out ≡ [] → Moves procs None (move next bodies live) live [] out
moves_none next bodies procs live t out h past none = let m = move_no_row next bodies live t h past in record {
  live = rw m refl;
  effects = rw m refl;
  lines = none ∙ rw m refl;
}

-- of whose turn it is the call is told first, unless a trap is raised before it
pub first_told : (es : EventState) (t : ℕ) (call : Call) (effects : List Effect) → choice es.state ≡ Some t
    → leads es call ++ effects ≡ (event_step es call).effects → lead es.pending t call ++ effects ≡ (event_step es call).effects
first_told es t call effects turn told = subst (λ (who : Option ℕ). leads_if es.pending call who ++ effects ≡ (event_step es call).effects) turn told

-- the call itself settles nothing
pub settled-lead : {B : Type 0} (bodies : List B) (born : Option ℕ) (pending : Option ℕ) (t : ℕ) (call : Call) (effects : List Effect) (rows : List (Row B))
    → after_settle bodies born effects rows ≡ after_settle bodies born (lead pending t call ++ effects) rows
settled-lead bodies born None t call effects rows = refl
settled-lead bodies born (Some e) t call effects rows = refl

-- a call was carried out whose lines are of no matter: the effects are told without the call itself
pub called_live : {B : Type 0} (next : Next B) (bodies : List B) (live : Live B) (t i : ℕ) (known : Names) (call : Call)
    (after : EventState) (effects : List Effect) (mid rows : List (Row B)) (names : Names) (born : Option ℕ)
    → choice live.pod.state ≡ Some t → i ≡ place_of t live.rows → i < length live.rows → known ≡ names_for_poll t live.names
    → ((row : Row B) → slice_get live.rows i ≡ Some row → Polls next row known call i live.rows mid names)
    → after ≡ (event_step live.pod call).after → leads live.pod call ++ effects ≡ (event_step live.pod call).effects
    → born ≡ proc_of call → rows ≡ after_settle bodies born effects mid
    → record { pod = after; rows = rows; names = names } ≡ (move next bodies live).live
called_live next bodies live t i known call after effects mid rows names born h at there k polls a e b r =
    let all = lead live.pod.pending t call ++ effects in
    (moves_at next bodies [] live t i known call after all mid rows names (step_lines [] None all) born h at there k polls a
    (first_told live.pod t call effects h e) b (r ∙ settled-lead bodies born live.pod.pending t call effects mid) refl).live

-- a line was taken
pub taken_moves : {B : Type 0} (bodies : List B) (procs : List (List ℕ)) (live : Live B) (took : Took) (after : EventState)
    (effects : List Effect) (rows : List (Row B)) (out : List ℕ)
    → after ≡ (take_event live.pod took.event took.line.text).after → effects ≡ (take_event live.pod took.event took.line.text).effects
    → rows ≡ after_settle bodies None effects live.rows → out ≡ step_lines procs (Some took.line) effects
    → Moves procs (Some took.line) (take_move bodies took live) (record { pod = after; rows = rows; names = live.names }) effects out
unfolding take_move
taken_moves bodies procs live took after effects rows out a e r o = record {
  live = (λ t. record { pod = a t; rows = (r ∙ ap (λ effects. after_settle bodies None effects live.rows) e) t; names = live.names });
  effects = e;
  lines = o ∙ ap (step_lines procs (Some took.line)) e;
}

-- a line was taken, whose lines are of no matter
pub taken_live : {B : Type 0} (bodies : List B) (live : Live B) (took : Took) (after : EventState) (effects : List Effect) (rows : List (Row B))
    → after ≡ (take_event live.pod took.event took.line.text).after → effects ≡ (take_event live.pod took.event took.line.text).effects
    → rows ≡ after_settle bodies None effects live.rows
    → record { pod = after; rows = rows; names = live.names } ≡ (take_move bodies took live).live
taken_live bodies live took after effects rows a e r =
    (taken_moves bodies [] live took after effects rows (step_lines [] (Some took.line) effects) a e r refl).live
