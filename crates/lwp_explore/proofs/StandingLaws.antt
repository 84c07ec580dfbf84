-- What is known of a machine that stands, and of one that has gone a step on.
use Rattle.event_gate.specs.Clients.{IsNumbered, of}
use Rattle.event_gate.specs.History.{lines_of}
use Rattle.event_gate.specs.Shelves.{event_of}
use Rattle.lwp_explore.proofs.Alike.{alike_core, core_alike, move_alike, take_alike}
use Rattle.lwp_explore.proofs.Played.{numbered_first, of_client, some_is, turn_more, without_first}
use Rattle.lwp_explore.proofs.Reached.{same_take}
use Rattle.lwp_explore.proofs.Turns.{AreInTurn, as_many, count_now, counts_more, none_yet}
use Rattle.lwp_explore.specs.Cores.{Step, World, call_made, count_at, live_of, next_line, take_made, with_taken}
use Rattle.lwp_explore.specs.Sessions.{IsSession, core_at, world_of}
use Rattle.lwp_explore.specs.Standing.{IsCalled, IsStanding, IsStep, IsTaken, Standing, core_now, has_left_of, is_takeable_of, taken_now}
use Rattle.lwp_explore.specs.Ways.{step_lines}
use Rattle.lwp_types.specs.declared.call.Line.{Line}
use Rattle.pod_events.specs.Events.{is_takeable}
use Rattle.pod_runner.proofs.Appends.{writes_base}
use Rattle.pod_runner.proofs.Plays.{IsDefined-zero, LastBy-of, lines-step, play-call, play-take}
use Rattle.pod_runner.specs.Due.{IsDefined}
use Rattle.pod_runner.specs.Play.{play}
use Rattle.pod_runner.specs.Run as run
use Rattle.pod_runner.specs.Run.{GoesOn, Played, Tells, Writes, after_step, took_now, with_call, with_took}
use Rattle.pod_runner.specs.Session.{Live, Session, move, take_move}
use Rattle.pod_runner.specs.Snapshots.{taken_by, taken_of}
use Rattle.pod_runner.specs.Trace.{lines}
use Rattle.pod_runner.specs.declared.phase.RunErr.{RunErr}
use Rattle.pod_runner.specs.declared.phase.RunErr.TheVariants as fails
use Rattle.pod_runner.specs.declared.session.Took.{Took}
use Rattle.script_body.specs.Bodies.{bodies_of, body_next}
use Rattle.script_body.specs.declared.thread_body.ThreadBody.{ThreadBody}
use Rattle.script_body.specs.Posted.{IsPosted}
use Rattle.script_session.proofs.RunLaws.{Plays, lines-is, no-lines, plays, session-is, setting-is}
use Rattle.script_session.specs.History.{pairs_of}
use Rattle.script_session.specs.SoFar.{lines_after, opening_run, session_at, setting_of}
use Rattle.script_text.specs.Limits.{IsWithinLimits}
use Rattle.script_text.specs.Script.{lines_posted, proc_names}
use Rattle.script_text.specs.declared.script.Script.{Script}
use Rattle.session_cores.specs.Core.{Core, core_of}
use Rattle.std.proofs.Common.{Bool, Err, List, None, Ok, Option, Result, Some, [], ap, arith, false, length, length-append, refl, replicate, slice_get, subst}
use Rattle.std.proofs.Common.{sym, true, ℕ, ◌++◌, ◌+◌, ◌<◌, ◌∙◌, ◌∷◌, ◌≡◌, ◌≤◌}
use Rattle.std.proofs.lemmas.Bool.{and_parts, false≢true, ltb-true}
use Rattle.std.proofs.lemmas.List.FromFn.{length-map-range_with_len}
use Rattle.std.specs.Prelude.{IfSome, slice_index, slice_set}
use Rattle.streams.specs.Streams.{Stream}
use Rattle.trace_text.specs.Lines.{step_lines as effect_lines}

-- ---- steps of sessions

-- at which turn a line is taken changes nothing
same_effects : {B : Type 0} (bodies : List B) (took : Took) (live : Live B)
    → (take_move bodies took live).effects ≡ (take_move bodies (record { turn = 0; event = took.event; line = took.line }) live).effects
unfolding take_move
same_effects bodies took live = refl

module _ {B : Type 0} (world : World B) (takes : List Took) (calls : ℕ) where
  abbrev now : Session B
  now = play world.setting takes calls

  abbrev counts : List ℕ
  counts = taken_by (length world.events) takes

  -- the call leads to the core of the session with one call more
  pub call_leads : IsDefined world.setting takes calls → (call_made world (core_at world takes calls)).to ≡ core_at world takes (calls + 1)
  call_leads made =
      sym (core_alike (move world.setting.next world.setting.bodies now.live).live
      (move world.setting.next world.setting.bodies (live_of (core_of now.live counts))).live counts counts
      (move_alike world.setting.next world.setting.bodies now.live (live_of (core_of now.live counts)) (alike_core now.live counts)).lives refl)
      ∙ ap (λ (p : Session B). core_of p.live counts) (sym (play-call world.setting takes calls (LastBy-of world.setting takes calls made)))

  -- and the take of a line to that with one take more
  pub take_leads : (t : Took) → t.turn ≡ calls → t.line.client < length world.events
      → (take_made world (core_at world takes calls) t.line.client (record { turn = 0; event = t.event; line = t.line })).to
      ≡ core_at world (takes ++ t ∷ []) calls
  take_leads t at within =
      let c = t.line.client in
      sym (core_alike (take_move world.setting.bodies t now.live).live
      (take_move world.setting.bodies (record { turn = 0; event = t.event; line = t.line }) (live_of (core_of now.live counts))).live
      (taken_by (length world.events) (takes ++ t ∷ [])) (with_taken counts c)
      (same_take world t now.live (live_of (core_of now.live counts)) (take_alike world.setting.bodies t now.live
      (live_of (core_of now.live counts)) (alike_core now.live counts)).lives)
      (sym (counts_more (length world.events) t takes within)))
      ∙ ap (λ (p : Session B). core_of p.live (taken_by (length world.events) (takes ++ t ∷ []))) (sym (play-take world.setting t takes calls at))

  -- what they write
  pub call_lines : (procs : List (List ℕ)) → IsDefined world.setting takes calls
      → lines procs (play world.setting takes (calls + 1)).steps
      ≡ lines procs now.steps ++ step_lines procs (call_made world (core_at world takes calls))
  call_lines procs made =
      ap (λ (s : Session B). lines procs s.steps) (play-call world.setting takes calls (LastBy-of world.setting takes calls made))
      ∙ lines-step procs now.steps None (move world.setting.next world.setting.bodies now.live).effects
      ∙ ap (λ es. lines procs now.steps ++ effect_lines procs None es)
      (move_alike world.setting.next world.setting.bodies now.live (live_of (core_of now.live counts)) (alike_core now.live counts)).effects

  pub take_lines : (procs : List (List ℕ)) (t : Took) → t.turn ≡ calls
      → lines procs (play world.setting (takes ++ t ∷ []) calls).steps ≡ lines procs now.steps
      ++ step_lines procs (take_made world (core_at world takes calls) t.line.client (record { turn = 0; event = t.event; line = t.line }))
  take_lines procs t at =
      ap (λ (s : Session B). lines procs s.steps) (play-take world.setting t takes calls at)
      ∙ lines-step procs now.steps (Some t) (take_move world.setting.bodies t now.live).effects
      ∙ ap (λ es. lines procs now.steps ++ effect_lines procs (Some t.line) es)
      ((take_alike world.setting.bodies t now.live (live_of (core_of now.live counts)) (alike_core now.live counts)).effects
      ∙ same_effects world.setting.bodies t (live_of (core_of now.live counts)))

  abbrev turn_of : (is : IsSession world takes calls) → AreInTurn world takes is.left
  turn_of is = record { events = is.history.events_are; lines = is.history.lines_are; clients = is.clients }

  pub session_called : IsSession world takes calls → IsDefined world.setting takes (calls + 1) → IsSession world takes (calls + 1)
  session_called is made = record { made = made; left = is.left; history = is.history; clients = is.clients }

  pub session_taken : (t : Took) → ((c : ℕ) → IsNumbered 0 (of c world.posts)) → IsSession world takes calls → t.line.client < length world.events
      → event_of world.events t.line.client ≡ t.event
      → slice_get (of t.line.client world.posts) (count_at counts t.line.client) ≡ Some t.line
      → IsDefined world.setting (takes ++ t ∷ []) calls → IsSession world (takes ++ t ∷ []) calls
  session_taken t numbered is within event next made =
      let turn = turn_more world takes is.left t (turn_of is) within event next in
      record {
        made = made;
        left = without_first t.line.client is.left;
        history = record {
          events_are = turn.events;
          lines_are = turn.lines;
          numbered = λ c. numbered_first 0 (of c (lines_of (pairs_of (takes ++ t ∷ [])))) (of c (without_first t.line.client is.left))
              (subst (λ ls. IsNumbered 0 ls) (sym (turn.lines c)) (numbered c));
        };
        clients = turn.clients;
      }

  -- no more lines of a client were taken than it posts
  pub taken_le : IsSession world takes calls → (c : ℕ) → c < length world.events → count_at counts c ≤ length (of c world.posts)
  taken_le is c within =
      let own = of c (lines_of (pairs_of takes)) in
      let lines = ap length (sym (is.history.lines_are c)) ∙ length-append own (of c is.left) in
      omega (arith, count_now (length world.events) c takes within, as_many c takes, lines)

-- ---- a machine that stands

module _ {script : Script} {r : Played Script} {taken : List ℕ} {failed : Bool} (is : IsStanding script r taken failed) where
  playing : Plays script r.turns r
  playing = plays script r.turns (opening_run script r.turns) r refl is.plays

  pub session_same : run.session_of body_next bodies_of r ≡ session_at script r.takes r.calls
  session_same = session-is script r.turns r playing

  pub setting_same : run.setting_of body_next bodies_of r ≡ setting_of script
  setting_same = setting-is script r.turns r playing

  pub trace_same : run.trace_of body_next bodies_of proc_names r ≡ lines_after script r.takes r.calls
  trace_same = lines-is script r.turns r playing

  pub core_same : failed ≡ false → core_of (run.session_of body_next bodies_of r).live taken ≡ core_at (world_of script) r.takes r.calls
  core_same sound = λ i. core_of (session_same i).live (is.counted sound i)

  pub length_taken : failed ≡ false → length taken ≡ length script.clients
  length_taken sound = ap length (is.counted sound) ∙ length-map-range_with_len (taken_of r.takes) 0 (length script.clients)

  -- where a line is left of a client, that is the next
  pub left_taken : failed ≡ false → (c : ℕ) → count_at (taken_by (length script.clients) r.takes) c < length (of c (lines_posted script))
      → slice_index taken c < length (of c (lines_posted script))
  left_taken sound c left = omega (arith, left, ap (λ t. slice_index t c) (is.counted sound))

  pub few_taken : failed ≡ false → (c : ℕ) → c < length script.clients → slice_index taken c ≤ length (of c (lines_posted script))
  few_taken sound c within = let few = taken_le (world_of script) r.takes r.calls (is.session sound) c within in
      omega (arith, few, ap (λ t. slice_index t c) (is.counted sound))

-- before the first step it stands
pub opening_standing : (script : Script) (turns : ℕ) (r : Played Script) (taken : List ℕ) → r ≡ opening_run script turns
    → taken ≡ replicate (length script.clients) 0 → IsWithinLimits script → IsPosted script → IsStanding script r taken false
opening_standing script turns r taken opens none within posted =
    subst (λ (r : Played Script). IsStanding script r taken false) (sym opens) (record {
      plays = record { program = refl; params = refl; names = refl; turns = refl };
      within = within;
      posted = posted;
      sound = λ _. refl;
      session = λ _. record {
        made = IsDefined-zero (setting_of script);
        left = lines_posted script;
        history = record { events_are = λ k d within. absurd (omega (arith, within)); lines_are = λ c. refl; numbered = λ c. tt };
        clients = λ k d within. absurd (omega (arith, within));
      };
      counted = λ _. none ∙ sym (none_yet 0 (length script.clients));
    })

-- ---- what a machine that has failed keeps

pub fails_on : {script : Script} {r next : Played Script} {taken more : List ℕ} {failed : Bool} → IsStanding script r taken failed
    → GoesOn r next → IsStanding script next more true
fails_on is on = record {
  plays = record { program = on.program ∙ is.plays.program; params = on.params ∙ is.plays.params; names = on.names ∙ is.plays.names; turns = refl };
  within = is.within;
  posted = is.posted;
  sound = λ e. absurd (false≢true (sym e));
  session = λ e. absurd (false≢true (sym e));
  counted = λ e. absurd (false≢true (sym e));
}

-- ---- a step of it

pub steps_on : {T : Type 0} (r next : Played Script) → GoesOn r next → (result : Result T RunErr) → GoesOn r (after_step r next result)
steps_on r next on (Ok x) = on
steps_on r next on (Err fails.NoMemory) = record { program = refl; params = refl; names = refl; turns = refl }
steps_on r next on (Err fails.WriteFault) = record { program = on.program; params = on.params; names = on.names; turns = on.turns }

pub same_play : (r : Played Script) → GoesOn r r
same_play r = record { program = refl; params = refl; names = refl; turns = refl }

module _ {script : Script} {r : Played Script} {taken : List ℕ} {failed : Bool} (is : IsStanding script r taken failed) where
  abbrev w : World ThreadBody
  w = world_of script

  abbrev core : Core ThreadBody
  core = core_at w r.takes r.calls

  -- what was told, of the script
  pub told_on : {T : Type 0} (stream : Stream) (next : Played Script) (result : Result T RunErr) → GoesOn r next
      → Tells stream (run.trace_of body_next bodies_of proc_names r) (run.trace_of body_next bodies_of proc_names r)
      (run.trace_of body_next bodies_of proc_names next) result
      → Tells stream (lines_after script r.takes r.calls) (lines_after script r.takes r.calls) (lines_after script next.takes next.calls) result
  told_on stream next result on told =
      let before = trace_same is in
      let after = lines-is script next.turns next (plays script next.turns (opening_run script next.turns) next refl (fails_on {more = taken} is on).plays) in
      subst (λ l. Tells stream l l (lines_after script next.takes next.calls) result) before
      (subst (λ l. Tells stream (run.trace_of body_next bodies_of proc_names r) (run.trace_of body_next bodies_of proc_names r) l result) after told)

  module _ (sound : failed ≡ false) where
    -- the next line of a client is taken
    module _ (c e : ℕ) (line : Line) (within : c < length script.clients) (event : e ≡ slice_index script.clients c)
        (next : slice_get (of c (lines_posted script)) (slice_index taken c) ≡ Some line) where
      abbrev took : Took
      took = took_now r e line

      client_is : line.client ≡ c
      client_is = of_client c (lines_posted script) (slice_index taken c) line next

      within_is : line.client < length script.clients
      within_is = omega (arith, client_is, within)

      pub took_on : IsDefined (run.setting_of body_next bodies_of r) (r.takes ++ took ∷ []) r.calls
          → IsStanding script (with_took r e line) (slice_set taken c (slice_index taken c + 1)) false
      took_on made = record {
        plays = record { program = is.plays.program; params = is.plays.params; names = is.plays.names; turns = refl };
        within = is.within;
        posted = is.posted;
        sound = λ _. is.sound sound;
        session = λ _. session_taken w r.takes r.calls took is.posted.numbered (is.session sound) within_is
            (ap (slice_index script.clients) client_is ∙ sym event)
            ((λ i. slice_get (of (client_is i) (lines_posted script)) (count_at (sym (is.counted sound) i) (client_is i))) ∙ next)
            (subst (λ setting. IsDefined setting (r.takes ++ took ∷ []) r.calls) (setting_same is) made);
        counted = λ _. ap (λ counts. with_taken counts c) (is.counted sound)
            ∙ ap (λ k. with_taken (taken_by (length script.clients) r.takes) k) (sym client_is)
            ∙ counts_more (length script.clients) took r.takes within_is;
      }

      -- the step that takes it
      abbrev made_so : Line → Step ThreadBody
      made_so l = take_made w core c (record { turn = 0; event = slice_index script.clients c; line = l })

      step_is : (take_made w core took.line.client (record { turn = 0; event = took.event; line = took.line })) ≡ made_so line
      step_is = λ i. take_made w core (client_is i) (record { turn = 0; event = event i; line = line })

      took_next : next_line w core c ≡ Some line
      took_next = ap (λ counts. slice_get (of c (lines_posted script)) (count_at counts c)) (sym (is.counted sound)) ∙ next

      pub took_step : (sought : Option (List ℕ)) → IsTaken (record { script = script; run = r; sought = sought; failed = failed }) c
          (record { script = script; run = with_took r e line; sought = sought; failed = false })
      unfolding lines_after
      took_step sought =
          subst (λ o. IfSome o (λ l. IsStep (record { script = script; run = r; sought = sought; failed = failed })
          (record { script = script; run = with_took r e line; sought = sought; failed = false }) (made_so l))) (sym took_next)
          (record {
            to = ap (λ (step : Step ThreadBody). step.to) (sym step_is) ∙ take_leads w r.takes r.calls took refl within_is;
            lines = take_lines w r.takes r.calls (proc_names script) took refl
                ∙ ap (λ step. lines (proc_names script) (session_at script r.takes r.calls).steps ++ step_lines (proc_names script) step) step_is;
          })

    -- the call is made
    pub called_on : IsDefined (run.setting_of body_next bodies_of r) r.takes (r.calls + 1) → IsStanding script (with_call r) taken false
    called_on made = record {
      plays = record { program = is.plays.program; params = is.plays.params; names = is.plays.names; turns = refl };
      within = is.within;
      posted = is.posted;
      sound = λ _. is.sound sound;
      session = λ _. session_called w r.takes r.calls (is.session sound)
          (subst (λ setting. IsDefined setting r.takes (r.calls + 1)) (setting_same is) made);
      counted = λ _. is.counted sound;
    }

    pub called_step : (sought : Option (List ℕ)) → IsCalled (record { script = script; run = r; sought = sought; failed = failed })
        (record { script = script; run = with_call r; sought = sought; failed = false })
    unfolding lines_after
    called_step sought = record {
      to = call_leads w r.takes r.calls (is.session sound).made;
      lines = call_lines w r.takes r.calls (proc_names script) (is.session sound).made;
    }

    -- ---- as calls of a run tell of it

    -- a line was taken
    module _ (c : ℕ) (line : Line) (was next : Played Script) (same : was ≡ r) (e : ℕ) (after : next ≡ with_took was e line) where
      path : next ≡ with_took r e line
      path = after ∙ ap (λ (q : Played Script). with_took q e line) same

      pub took_in : (number : ℕ) → number ≡ slice_index taken c → c < length script.clients → e ≡ slice_index script.clients c
          → slice_get (of c (lines_posted script)) (slice_index taken c) ≡ Some line
          → IsDefined (run.setting_of body_next bodies_of next) next.takes next.calls → IsStanding script next (slice_set taken c (number + 1)) false
      took_in number counts within event following made =
          subst (λ (y : Played Script × ℕ). IsStanding script y.0 (slice_set taken c (y.1 + 1)) false) (λ i. (sym path i, sym counts i))
          (took_on c e line within event following
          (subst (λ (q : Played Script). IsDefined (run.setting_of body_next bodies_of q) q.takes q.calls) path made))

      pub took_there : (sought : Option (List ℕ)) → c < length script.clients → e ≡ slice_index script.clients c
          → slice_get (of c (lines_posted script)) (slice_index taken c) ≡ Some line
          → IsTaken (record { script = script; run = r; sought = sought; failed = failed }) c
          (record { script = script; run = next; sought = sought; failed = false })
      took_there sought within event following =
          subst (λ (q : Played Script). IsTaken (record { script = script; run = r; sought = sought; failed = failed }) c
          (record { script = script; run = q; sought = sought; failed = false })) (sym path) (took_step c e line within event following sought)

    -- a call was made
    module _ (was next : Played Script) (same : was ≡ r) (after : next ≡ with_call was) where
      call_path : next ≡ with_call r
      call_path = after ∙ ap (λ (q : Played Script). with_call q) same

      pub called_in : IsDefined (run.setting_of body_next bodies_of next) next.takes next.calls → IsStanding script next taken false
      called_in made =
          subst (λ (q : Played Script). IsStanding script q taken false) (sym call_path)
          (called_on (subst (λ (q : Played Script). IsDefined (run.setting_of body_next bodies_of q) q.takes q.calls) call_path made))

      pub called_there : (sought : Option (List ℕ)) → IsCalled (record { script = script; run = r; sought = sought; failed = failed })
          (record { script = script; run = next; sought = sought; failed = false })
      called_there sought =
          subst (λ (q : Played Script). IsCalled (record { script = script; run = r; sought = sought; failed = failed })
          (record { script = script; run = q; sought = sought; failed = false })) (sym call_path) (called_step sought)

  -- whatever came of it, what was told is of the script
  pub told_in : {T : Type 0} (stream : Stream) (was next : Played Script) (result : Result T RunErr) → was ≡ r → GoesOn r next
      → Tells stream (run.trace_of body_next bodies_of proc_names was) (run.trace_of body_next bodies_of proc_names was)
      (run.trace_of body_next bodies_of proc_names next) result
      → Tells stream (lines_after script r.takes r.calls) (lines_after script r.takes r.calls) (lines_after script next.takes next.calls) result
  told_in stream was next result same on told =
      told_on stream next result on
      (subst (λ (q : Played Script). Tells stream (run.trace_of body_next bodies_of proc_names q) (run.trace_of body_next bodies_of proc_names q)
      (run.trace_of body_next bodies_of proc_names next) result) same told)

pub took_goes : {T : Type 0} (r was next : Played Script) (e : ℕ) (line : Line) (result : Result T RunErr) → was ≡ r
    → next ≡ after_step was (with_took was e line) result → GoesOn r next
took_goes r was next e line result same after =
    subst (GoesOn r) (sym (after ∙ ap (λ (q : Played Script). after_step q (with_took q e line) result) same))
    (steps_on r (with_took r e line) (record { program = refl; params = refl; names = refl; turns = refl }) result)

pub call_goes : {T : Type 0} (r was next : Played Script) (result : Result T RunErr) → was ≡ r
    → next ≡ after_step was (with_call was) result → GoesOn r next
call_goes r was next result same after =
    subst (GoesOn r) (sym (after ∙ ap (λ (q : Played Script). after_step q (with_call q) result) same))
    (steps_on r (with_call r) (record { program = refl; params = refl; names = refl; turns = refl }) result)

-- a sink that was told all of a trace was told all of the longer one
pub told_all : (before after : List ℕ) (short long : List ℕ) → Writes (Some before) (Some after) short long → before ≡ short → after ≡ long
told_all before after short long writes same = some_is (writes_base writes (Some []) (ap (λ t. Some t) same))

-- where a line of a client can be taken, one is left
pub left_of : (s : Standing) (c : ℕ) → is_takeable_of s c ≡ true → count_at (taken_now s) c < length (of c (lines_posted s.script))
left_of s c may = ltb-true (count_at (taken_now s) c) (length (of c (lines_posted s.script)))
    (and_parts (has_left_of s c) (is_takeable (core_now s).pod (slice_index s.script.clients c)) may).0

-- nothing was told before the first step
pub told_first : (script : Script) (turns : ℕ) (r : Played Script) (told : List ℕ) → r ≡ opening_run script turns → told ≡ []
    → told ≡ lines_after script r.takes r.calls
unfolding lines_after
told_first script turns r told opens none =
    none ∙ sym (ap (λ (q : Played Script). lines (proc_names script) (session_at script q.takes q.calls).steps) opens
    ∙ no-lines (proc_names script) (setting_of script))
