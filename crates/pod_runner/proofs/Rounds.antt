-- What a run, a gate and a sink come to together, part by part.
use Rattle.std.proofs.Common.{◌≢◌, ◌≡◌, ◌≤◌, ◌<◌, ℕ, zero, suc, ◌+◌, ◌-◌, List, [], ◌∷◌, true, false, None}
use Rattle.std.proofs.Common.{Some, ap, ◌∙◌, refl, sym, subst, ◌++◌, length, length-append, take, arith}
use Rattle.std.proofs.Math.Seq.{take-append_seam}
use Rattle.std.specs.Prelude.{Option, Result, Ok, Err, OnOk, OnErr, IsErrAnd, IsErrOf}
use Rattle.std.specs.List.{fold, range_with_len}
use Rattle.std.specs.Slice.Scan.{HoldsNowhere}
use Rattle.std.proofs.lemmas.List.Sums.{fold-append}
use Rattle.event_gate.specs.Shelves.{Shelves, after_take_from, first_left, left_in_all}
use Rattle.pod_events.specs.Events.{is_takeable}
use Rattle.lwp_types.specs.Poll.{Next}
use Rattle.lwp_types.specs.declared.call.Line.{Line}
use Rattle.pod_runner.specs.Does.{Does, RunsOn}
use Rattle.pod_runner.specs.Due.{IsDefined}
use Rattle.pod_runner.specs.Eager.{IsFirstPart, Plan, Planned, after_advance, boundary, after_finish, after_offer}
use Rattle.pod_runner.specs.Eager.{one_call, opening_plan, plan_over, plan_whole, round, pod_of}
use Rattle.pod_runner.specs.Phase.{phase_of}
use Rattle.pod_runner.specs.Run.{Broke, GoesOn, IsNew, Played, Tells, WritesPart, Wrote, but_last, plan_now, planned_of, session_of}
use Rattle.pod_runner.specs.Run.{phase_now, setting_of, after_step, took_now, trace_before, trace_of, with_call, with_took}
use Rattle.streams.specs.Streams.{Stream}
use Rattle.pod_runner.specs.Session.{Made, Move, Session, call_step, take_step, with_move}
use Rattle.pod_runner.specs.Play.{play}
use Rattle.pod_runner.specs.Trace.{lines}
use Rattle.pod_runner.specs.declared.phase.Phase.TheVariants as phase
use Rattle.trace_text.specs.declared.ends.Halt.{Halt}
use Rattle.trace_text.specs.declared.ends.Halt.TheVariants as halts
use Rattle.pod_runner.specs.declared.phase.RunErr.{RunErr}
use Rattle.pod_runner.specs.declared.phase.RunErr.TheVariants as fails
use Rattle.pod_runner.specs.declared.session.Took.{Took}
use Rattle.pod_runner.specs.Over.{can_take, events}
use Rattle.pod_runner.proofs.Appends.{cut_part, cut_then, writes_none, writes_part, writes_then}
use Rattle.pod_runner.proofs.Kept.{boundary-turn}
use Rattle.pod_runner.proofs.Plays.{LastBy-of, play-call, play-take, play-zero}
use Rattle.pod_runner.proofs.Ends.{idle-on, idle-round, idle-stuck, turn-round}
use Rattle.pod_runner.proofs.Eagers.{call-grows, falls, finished-grows, finished-over, finished-round, first-same, first-then, offered-grows}
use Rattle.pod_runner.proofs.Eagers.{to_do, offered-some, offered-unable, serves-grow, serves-none, taken_from-none}

-- ---- what is told

abbrev pub stream : Option (List ℕ) → Option (List ℕ) → ℕ → ℕ → Stream
stream old new faults_old faults_new = record { old = old; new = new; faults_old = faults_old; faults_new = faults_new }

pub tells-then : {T : Type 0} (a b c : Option (List ℕ)) (f g h : ℕ) (t u least v : List ℕ) (r : Result T RunErr)
    → Wrote (stream a b f g) t u → Tells (stream b c g h) u least v r → Tells (stream a c f h) t least v r
tells-then a b c f g h t u least v (Ok x) p q = (writes_then p.0 q.0, q.1 ∙ p.1)
tells-then a b c f g h t u least v (Err fails.NoMemory) p q = (writes_then p.0 q.0, q.1 ∙ p.1)
tells-then a b c f g h t u least v (Err fails.WriteFault) p q = (cut_then p.0 q.0, rw p.1 at q.1, omega (arith, p.1, q.2))

pub tells-other : (T U : Type 0) (s : Stream) (t least v : List ℕ) (e : RunErr) → Tells {T = T} s t least v (Err e) → Tells {T = U} s t least v (Err e)
tells-other T U s t least v fails.NoMemory h = h
tells-other T U s t least v fails.WriteFault h = h

-- where memory ran out, what was done until then was written
pub tells-wrote : {T : Type 0} (s : Stream) (t least v : List ℕ) (r : Result T RunErr) → Tells s t least v r → IsErrOf r fails.NoMemory → Wrote s t v
tells-wrote s t least v r told is = subst (λ x. Tells s t least v x) is told

-- where a write failed, it broke off
pub tells-broke : {T : Type 0} (s : Stream) (t least v : List ℕ) (r : Result T RunErr) → Tells s t least v r → IsErrOf r fails.WriteFault → Broke s t least v
tells-broke s t least v r told is = subst (λ x. Tells s t least v x) is told

-- after an error, a first part was written
pub tells-part : {T : Type 0} (s : Stream) (t least v : List ℕ) (r : Result T RunErr) → Tells s t least v r → OnErr r (WritesPart s.old s.new t v)
tells-part s t least v (Ok x) h = tt
tells-part s t least v (Err fails.NoMemory) h = writes_part h.0
tells-part s t least v (Err fails.WriteFault) h = cut_part h.0

-- ---- all steps but the last

but_last-step : (steps : List Made) (made : Made) → but_last (steps ++ made ∷ []) ≡ steps
but_last-step steps made =
    let n : length (steps ++ made ∷ []) - 1 ≡ length steps = omega (arith, length-append steps (made ∷ [])) in
    ap (λ n. take n (steps ++ made ∷ [])) n ∙ take-append_seam steps (made ∷ [])

pub but_last-extended : {B : Type 0} (new old : Session B) (took : Option Took) (m : Move B) → new ≡ with_move old took m → but_last new.steps ≡ old.steps
but_last-extended new old took m is = ap (λ (s : Session _). but_last s.steps) is ∙ but_last-step old.steps (record { take = took; effects = m.effects })

module _ {B P : Type 0} (next : Next B) (bodies : P → List B) (procs : P → List (List ℕ)) where
  -- ---- the same run

  pub goes-same : (run : Played P) → GoesOn run run
  goes-same run = record { program = refl; params = refl; names = refl; turns = refl }

  pub goes-then : (a b c : Played P) → GoesOn a b → GoesOn b c → GoesOn a c
  goes-then a b c p q = record { program = q.program ∙ p.program; params = q.params ∙ p.params; names = q.names ∙ p.names; turns = q.turns ∙ p.turns }

  pub planned-same : (old new : Played P) → GoesOn old new → planned_of next bodies new ≡ planned_of next bodies old
  planned-same old new h = rw (h.program, h.params, h.names, h.turns) refl

  -- ---- a run and its sink

  abbrev Runs : {T : Type 0} → Stream → Played P → Played P → Result T RunErr → Type 0
  Runs s old new r = RunsOn next bodies procs s old new r

  pub ran-nothing : {T : Type 0} (w : Option (List ℕ)) (f : ℕ) (run : Played P) (x : T)
      → run.failed ≡ false → IsDefined (setting_of next bodies run) run.takes run.calls → run.calls ≤ run.turns
      → Runs (stream w w f f) run run (Ok x)
  ran-nothing w f run x sound made room = record {
    same = goes-same run;
    made = made;
    room = room;
    told = (writes_none w (trace_of next bodies procs run), refl);
    sound = sound;
  }

  -- after a part that was written whole
  pub ran-behind : {U : Type 0} (a b c : Option (List ℕ)) (i j k : ℕ) (old mid new : Played P) (r : Result U RunErr)
      → GoesOn old mid → Wrote (stream a b i j) (trace_of next bodies procs old) (trace_of next bodies procs mid) → Runs (stream b c j k) mid new r
      → Runs (stream a c i k) old new r
  ran-behind a b c i j k old mid new r same told q = record {
    same = goes-then old mid new same q.same;
    made = q.made;
    room = q.room;
    told = tells-then a b c i j k (trace_of next bodies procs old) (trace_of next bodies procs mid) (trace_before next bodies procs new)
        (trace_of next bodies procs new) r told q.told;
    sound = q.sound;
  }

  -- an answer, or an error, may be of another type
  pub ran-answer : {T U : Type 0} (s : Stream) (old new : Played P) (x : T) (y : U) → Runs s old new (Ok x) → Runs s old new (Ok y)
  ran-answer s old new x y h = record { same = h.same; made = h.made; room = h.room; told = h.told; sound = h.sound }

  pub ran-other : (T U : Type 0) (s : Stream) (old new : Played P) (e : RunErr) → Runs {T = T} s old new (Err e) → Runs {T = U} s old new (Err e)
  ran-other T U s old new e h = record {
    same = h.same;
    made = h.made;
    room = h.room;
    told = tells-other T U s (trace_of next bodies procs old) (trace_before next bodies procs new) (trace_of next bodies procs new) e h.told;
    sound = tt;
  }

  -- one step, if it counts
  pub ran-step : {T : Type 0} (s : Stream) (old counted new : Played P) (r : Result T RunErr)
      → GoesOn old counted → counted.failed ≡ false → but_last (session_of next bodies counted).steps ≡ (session_of next bodies old).steps
      → new ≡ after_step old counted r
      → Tells s (trace_of next bodies procs old) (trace_of next bodies procs old) (trace_of next bodies procs new) r
      → IsDefined (setting_of next bodies new) new.takes new.calls → new.calls ≤ new.turns
      → Runs s old new r
  ran-step s old counted new (Ok x) same sound before is told made room = record {
    same = subst (λ n. GoesOn old n) (sym is) same;
    made = made;
    room = room;
    told = told;
    sound = subst (λ (n : Played P). n.failed ≡ false) (sym is) sound;
  }
  ran-step s old counted new (Err fails.NoMemory) same sound before is told made room = record {
    same = subst (λ n. GoesOn old n) (sym is) (record { program = refl; params = refl; names = refl; turns = refl });
    made = made;
    room = room;
    told = told;
    sound = tt;
  }
  ran-step s old counted new (Err fails.WriteFault) same sound before is told made room = record {
    same = subst (λ n. GoesOn old n) (sym is) (record { program = same.program; params = same.params; names = same.names; turns = same.turns });
    made = made;
    room = room;
    told = subst (λ least. Broke s (trace_of next bodies procs old) least (trace_of next bodies procs new)) (sym least) told;
    sound = tt;
  }
    where
      least : trace_before next bodies procs new ≡ trace_of next bodies procs old
      least = ap (λ n. trace_before next bodies procs n) is ∙ (λ t. lines (procs (same.program t)) (before t))

  -- ---- one after the other

  abbrev Came : {T : Type 0} → Stream → (Planned B → Plan B → Plan B) → Played P → Played P → Shelves → Shelves → Result T RunErr → Type 0
  Came s by old new stock left r = Does next bodies procs s by old new stock left r

  pub does-nothing : {T : Type 0} (w : Option (List ℕ)) (f : ℕ) (run : Played P) (stock : Shelves) (x : T)
      → run.failed ≡ false → IsDefined (setting_of next bodies run) run.takes run.calls → run.calls ≤ run.turns
      → Came (stream w w f f) (λ planned plan. plan) run run stock stock (Ok x)
  does-nothing w f run stock x sound made room = record {
    ran = ran-nothing w f run x sound made room;
    comes = refl;
    part = tt;
  }

  -- what it comes to may be told otherwise
  pub does-by : {T : Type 0} (s : Stream) (f g : Planned B → Plan B → Plan B) (old new : Played P) (stock left : Shelves) (r : Result T RunErr)
      → f (planned_of next bodies old) (plan_now next bodies old stock) ≡ g (planned_of next bodies old) (plan_now next bodies old stock)
      → Came s f old new stock left r → Came s g old new stock left r
  does-by s f g old new stock left r e h = record {
    ran = h.ran;
    comes = subst (λ p. OnOk r (plan_now next bodies new left ≡ p)) e h.comes;
    part = subst (λ p. OnErr r (IsFirstPart (plan_now next bodies new left) p)) e h.part;
  }

  pub does-then : {T U : Type 0} (a b c : Option (List ℕ)) (i j k : ℕ) (f g : Planned B → Plan B → Plan B) (old mid new : Played P)
      (stock some left : Shelves) (x : T) (r : Result U RunErr)
      → Came (stream a b i j) f old mid stock some (Ok x) → Came (stream b c j k) g mid new some left r
      → Came (stream a c i k) (λ planned plan. g planned (f planned plan)) old new stock left r
  does-then a b c i j k f g old mid new stock some left x r p q =
      let e : g (planned_of next bodies mid) (plan_now next bodies mid some)
      ≡ g (planned_of next bodies old) (f (planned_of next bodies old) (plan_now next bodies old stock))
      = (λ t. g (planned-same old mid p.ran.same t) (p.comes t)) in
      record {
        ran = ran-behind a b c i j k old mid new r p.ran.same p.ran.told q.ran;
        comes = subst (λ p. OnOk r (plan_now next bodies new left ≡ p)) e q.comes;
        part = subst (λ p. OnErr r (IsFirstPart (plan_now next bodies new left) p)) e q.part;
      }

  -- where the first fails, so does the whole
  pub does-part : (T U : Type 0) (s : Stream) (f g : Planned B → Plan B → Plan B) (old new : Played P) (stock left : Shelves) (e : RunErr)
      → IsFirstPart (f (planned_of next bodies old) (plan_now next bodies old stock))
      (g (planned_of next bodies old) (f (planned_of next bodies old) (plan_now next bodies old stock)))
      → Came {T = T} s f old new stock left (Err e)
      → Came {T = U} s (λ planned plan. g planned (f planned plan)) old new stock left (Err e)
  does-part T U s f g old new stock left e more p = record {
    ran = ran-other T U s old new e p.ran;
    comes = tt;
    part = first-then (plan_now next bodies new left) (f (planned_of next bodies old) (plan_now next bodies old stock)) _ p.part more;
  }

  pub does-err : (T : Type 0) (s : Stream) (by : Planned B → Plan B → Plan B) (old new : Played P) (stock left : Shelves) (r : Result T RunErr) (e : RunErr)
      → IsErrAnd r (λ given. given ≡ e) → Came {T = T} s by old new stock left (Err e) → Came s by old new stock left r
  does-err T s by old new stock left (Ok x) e is h = absurd is
  does-err T s by old new stock left (Err given) e is h = subst (λ given. Came {T = T} s by old new stock left (Err given)) (sym is) h

  -- ---- one event more

  -- the events below n, in turn
  abbrev first_events : ℕ → Planned B → Plan B → Plan B
  first_events n planned plan = fold (λ (now : Plan B) e. after_offer planned e now) plan (range_with_len 0 n)

  more-events : (planned : Planned B) (plan : Plan B) (n : ℕ) → after_offer planned n (first_events n planned plan) ≡ first_events (n + 1) planned plan
  more-events planned plan n =
      let at : 0 + n ≡ n = omega arith in
      sym (ap (λ es. fold (λ (now : Plan B) e. after_offer planned e now) plan es) (one_more 0 n ∙ ap (λ k. range_with_len 0 n ++ k ∷ []) at)
      ∙ fold-append (λ (now : Plan B) e. after_offer planned e now) plan (range_with_len 0 n) (n ∷ []))
    where
      one_more : (a n : ℕ) → range_with_len a (n + 1) ≡ range_with_len a n ++ (a + n) ∷ []
      one_more a zero = let at : a ≡ a + 0 = omega arith in ap (λ k. k ∷ []) at
      one_more a (suc n) = let more : suc n + 1 ≡ suc (n + 1) = omega arith in let on : a + 1 + n ≡ a + suc n = omega arith in
          ap (range_with_len a) more ∙ ap (λ es. a ∷ es) (one_more (a + 1) n ∙ ap (λ k. range_with_len (a + 1) n ++ k ∷ []) on)

  pub events-begin : {T : Type 0} (w : Option (List ℕ)) (f : ℕ) (run : Played P) (stock : Shelves) (x : T)
      → run.failed ≡ false → IsDefined (setting_of next bodies run) run.takes run.calls → run.calls ≤ run.turns
      → Came (stream w w f f) (λ planned plan. first_events 0 planned plan) run run stock stock (Ok x)
  events-begin w f run stock x sound made room = does-nothing w f run stock x sound made room

  pub events-more : {T : Type 0} (a b c : Option (List ℕ)) (i j k : ℕ) (old mid new : Played P) (stock some left : Shelves) (e : ℕ) (x : T)
      (r : Result (Unit {0}) RunErr)
      → Came (stream a b i j) (λ planned plan. first_events e planned plan) old mid stock some (Ok x)
      → Came (stream b c j k) (λ planned plan. after_offer planned e plan) mid new some left r
      → Came (stream a c i k) (λ planned plan. first_events (e + 1) planned plan) old new stock left r
  events-more a b c i j k old mid new stock some left e x r p q =
      does-by (stream a c i k) (λ planned plan. after_offer planned e (first_events e planned plan))
      (λ planned plan. first_events (e + 1) planned plan) old new stock left r
      (more-events (planned_of next bodies old) (plan_now next bodies old stock) e)
      (does-then a b c i j k (λ planned plan. first_events e planned plan) (λ planned plan. after_offer planned e plan) old mid new stock some left x r p q)

  cut : (a m n : ℕ) → range_with_len a m ++ range_with_len (a + m) n ≡ range_with_len a (m + n)
  cut a zero n = let at : a + 0 ≡ a = omega arith in let all : n ≡ 0 + n = omega arith in ap (λ k. range_with_len k n) at ∙ ap (range_with_len a) all
  cut a (suc m) n = let e : a + suc m ≡ a + 1 + m = omega arith in let more : suc m + n ≡ suc (m + n) = omega arith in
      ap (λ k. a ∷ (range_with_len (a + 1) m ++ range_with_len k n)) e ∙ ap (λ es. a ∷ es) (cut (a + 1) m n) ∙ sym (ap (range_with_len a) more)

  -- the events below a, and so many more
  joined : (planned : Planned B) (plan : Plan B) (a n b : ℕ) → a + n ≡ b
      → fold (λ (now : Plan B) e. after_offer planned e now) (first_events a planned plan) (range_with_len a n)
      ≡ fold (λ (now : Plan B) e. after_offer planned e now) plan (range_with_len 0 b)
  joined planned plan a n b total =
      let at : a ≡ 0 + a = omega arith in
      sym (fold-append (λ (now : Plan B) e. after_offer planned e now) plan (range_with_len 0 a) (range_with_len a n))
      ∙ ap (λ es. fold (λ (now : Plan B) e. after_offer planned e now) plan es)
      (ap (λ k. range_with_len 0 a ++ range_with_len k n) at ∙ cut 0 a n ∙ ap (range_with_len 0) total)

  -- events that can't be delivered are passed over
  pub events-skip : {T : Type 0} (s : Stream) (old new : Played P) (stock left : Shelves) (a b : ℕ) (x : T) → a ≤ b
      → HoldsNowhere (can_take (session_of next bodies new).live.pod left) a b
      → Came s (λ planned plan. first_events a planned plan) old new stock left (Ok x)
      → Came s (λ planned plan. first_events b planned plan) old new stock left (Ok x)
  events-skip s old new stock left a b x up none p =
      let planned = planned_of next bodies old in
      let plan = plan_now next bodies old stock in
      let now = plan_now next bodies new left in
      let n = b - a in
      let reach : b ≡ a + n = omega (arith, up) in
      let still : fold (λ (now : Plan B) e. after_offer planned e now) now (range_with_len a n)
      ≡ now = serves-none planned now a n (subst (λ e. HoldsNowhere (can_take (session_of next bodies new).live.pod left) a e) reach none) in
      does-by s (λ planned plan. first_events a planned plan) (λ planned plan. first_events b planned plan) old new stock left (Ok x)
      (sym p.comes ∙ sym still ∙ ap (λ q. fold (λ (now : Plan B) e. after_offer planned e now) q (range_with_len a n)) p.comes
      ∙ joined planned plan a n b (sym reach))
      p

  pub events-end : {T : Type 0} (s : Stream) (old new : Played P) (stock left : Shelves) (e : ℕ) (x : T) → e ≡ 32
      → Came s (λ planned plan. first_events e planned plan) old new stock left (Ok x)
      → Came s (λ planned plan. boundary planned plan) old new stock left (Ok x)
  unfolding events
  events-end s old new stock left e x is p =
      does-by s (λ planned plan. first_events e planned plan) (λ planned plan. boundary planned plan) old new stock left (Ok x)
      (ap (λ n. first_events n (planned_of next bodies old) (plan_now next bodies old stock)) is) p

  -- where the run fails at an event, the rest isn't done
  events-rest : (planned : Planned B) (plan : Plan B) (e : ℕ) → e ≤ 32 → IsFirstPart (first_events e planned plan) (boundary planned plan)
  unfolding events
  events-rest planned plan e low =
      let n = 32 - e in
      let total : e + n ≡ 32 = omega (arith, low) in
      subst (λ whole. IsFirstPart (first_events e planned plan) whole) (joined planned plan e n 32 total)
      (serves-grow planned (range_with_len e n) (first_events e planned plan))

  pub events-part : {T U : Type 0} (a b c : Option (List ℕ)) (i j k : ℕ) (old mid new : Played P) (stock some left : Shelves) (e : ℕ)
      (x : T) (r : Result U RunErr) (error : RunErr)
      → IsErrAnd r (λ given. given ≡ error) → e < 32
      → Came (stream a b i j) (λ planned plan. first_events e planned plan) old mid stock some (Ok x)
      → Came {T = Unit {0}} (stream b c j k) (λ planned plan. after_offer planned e plan) mid new some left (Err error)
      → Came (stream a c i k) (λ planned plan. boundary planned plan) old new stock left r
  events-part a b c i j k old mid new stock some left e x r error is high p q =
      does-err _ (stream a c i k) (λ planned plan. boundary planned plan) old new stock left r error is
      (does-by (stream a c i k) (λ planned plan. boundary planned (plan_now next bodies old stock)) (λ planned plan. boundary planned plan)
      old new stock left (Err error) refl
      (does-part _ _ (stream a c i k) (λ planned plan. first_events (e + 1) planned plan)
      (λ planned plan. boundary planned (plan_now next bodies old stock)) old new stock left error
      (events-rest (planned_of next bodies old) (plan_now next bodies old stock) (e + 1) (omega (arith, high)))
      (events-more a b c i j k old mid new stock some left e x (Err error) p q)))

  -- ---- one step

  -- a step counts, by this function of plans, with these lines left then
  record IsStep (by : Planned B → Plan B → Plan B) (old counted : Played P) (stock left : Shelves) : Type 0 where
    pub same : GoesOn old counted
    pub sound : counted.failed ≡ false
    pub comes : plan_now next bodies counted left ≡ by (planned_of next bodies old) (plan_now next bodies old stock)
    pub before : but_last (session_of next bodies counted).steps ≡ (session_of next bodies old).steps
    pub more : IsFirstPart (plan_now next bodies old stock) (by (planned_of next bodies old) (plan_now next bodies old stock))

  does-step : {T : Type 0} (s : Stream) (by : Planned B → Plan B → Plan B) (old counted new : Played P) (stock left : Shelves) (r : Result T RunErr)
      → IsStep by old counted stock left → new ≡ after_step old counted r
      → Tells s (trace_of next bodies procs old) (trace_of next bodies procs old) (trace_of next bodies procs new) r
      → IsDefined (setting_of next bodies new) new.takes new.calls → new.calls ≤ new.turns
      → Came s by old new stock left r
  does-step s by old counted new stock left (Ok x) h is told made room = record {
    ran = ran-step s old counted new (Ok x) h.same h.sound h.before is told made room;
    comes = ap (λ n. plan_now next bodies n left) is ∙ h.comes;
    part = tt;
  }
  does-step s by old counted new stock left (Err fails.NoMemory) h is told made room = record {
    ran = ran-step s old counted new (Err fails.NoMemory) h.same h.sound h.before is told made room;
    comes = tt;
    part = subst (λ n. IsFirstPart (plan_now next bodies n left) (by (planned_of next bodies old) (plan_now next bodies old stock))) (sym is)
        (record { rest = h.more.rest; steps = h.more.steps; later = h.more.later; takes = h.more.takes; calls_up = h.more.calls_up });
  }
  does-step s by old counted new stock left (Err fails.WriteFault) h is told made room = record {
    ran = ran-step s old counted new (Err fails.WriteFault) h.same h.sound h.before is told made room;
    comes = tt;
    part = subst (λ p. IsFirstPart p (by (planned_of next bodies old) (plan_now next bodies old stock)))
        (sym (ap (λ n. plan_now next bodies n left) is ∙ h.comes))
        (first-same (by (planned_of next bodies old) (plan_now next bodies old stock)));
  }

  -- ---- a call

  call-last : (run : Played P) → IsDefined (setting_of next bodies run) run.takes run.calls
      → session_of next bodies (with_call run) ≡ call_step (setting_of next bodies run) (session_of next bodies run)
  call-last run made = play-call (setting_of next bodies run) run.takes run.calls (LastBy-of (setting_of next bodies run) run.takes run.calls made)

  take-last : (run : Played P) (e : ℕ) (line : Line)
      → session_of next bodies (with_took run e line) ≡ take_step (setting_of next bodies run) (took_now run e line) (session_of next bodies run)
  take-last run e line = play-take (setting_of next bodies run) (took_now run e line) run.takes run.calls refl

  pub does-call : {T : Type 0} (s : Stream) (old new : Played P) (stock : Shelves) (r : Result T RunErr)
      → old.failed ≡ false → IsDefined (setting_of next bodies old) old.takes old.calls → new ≡ after_step old (with_call old) r
      → Tells s (trace_of next bodies procs old) (trace_of next bodies procs old) (trace_of next bodies procs new) r
      → IsDefined (setting_of next bodies new) new.takes new.calls → new.calls ≤ new.turns
      → Came s (λ planned plan. one_call planned plan) old new stock stock r
  does-call s old new stock r sound was is told made room = does-step s (λ planned plan. one_call planned plan) old (with_call old) new stock stock r (record {
    same = record { program = refl; params = refl; names = refl; turns = refl };
    sound = sound;
    comes = ap (λ session. record { session = session; calls = old.calls + 1; left = stock; takes = old.takes }) (call-last old was);
    before = but_last-extended (session_of next bodies (with_call old)) (session_of next bodies old) None _ (call-last old was);
    more = call-grows (planned_of next bodies old) (plan_now next bodies old stock);
  }) is told made room

  -- ---- a take

  pub does-take : {T : Type 0} (s : Stream) (e : ℕ) (line : Line) (old new : Played P) (stock left : Shelves) (r : Result T RunErr)
      → old.failed ≡ false → is_takeable (session_of next bodies old).live.pod e ≡ true → first_left stock e ≡ Some line → left ≡ after_take_from stock e
      → new ≡ after_step old (with_took old e line) r
      → Tells s (trace_of next bodies procs old) (trace_of next bodies procs old) (trace_of next bodies procs new) r
      → IsDefined (setting_of next bodies new) new.takes new.calls → new.calls ≤ new.turns
      → Came s (λ planned plan. after_offer planned e plan) old new stock left r
  does-take s e line old new stock left r sound may first rest is told made room =
      does-step s (λ planned plan. after_offer planned e plan) old (with_took old e line) new stock left r (record {
        same = record { program = refl; params = refl; names = refl; turns = refl };
        sound = sound;
        comes = (λ t. record { session = take-last old e line t; calls = old.calls; left = rest t; takes = old.takes ++ took_now old e line ∷ [] })
            ∙ sym (offered-some (planned_of next bodies old) e (plan_now next bodies old stock) line may first);
        before = but_last-extended (session_of next bodies (with_took old e line)) (session_of next bodies old) (Some (took_now old e line)) _
            (take-last old e line);
        more = offered-grows (planned_of next bodies old) e (plan_now next bodies old stock);
      }) is told made room

  -- with no line to be taken, nothing is done
  pub does-none : {T : Type 0} (w : Option (List ℕ)) (f e : ℕ) (run : Played P) (stock left : Shelves) (x : T)
      → run.failed ≡ false → first_left stock e ≡ None → left ≡ after_take_from stock e
      → IsDefined (setting_of next bodies run) run.takes run.calls → run.calls ≤ run.turns
      → Came (stream w w f f) (λ planned plan. after_offer planned e plan) run run stock left (Ok x)
  does-none w f e run stock left x sound first rest made room =
      let still : left ≡ stock = rest ∙ taken_from-none stock e first in
      subst (λ l. Came (stream w w f f) (λ planned plan. after_offer planned e plan) run run stock l (Ok x)) (sym still)
      (does-by (stream w w f f) (λ planned plan. plan) (λ planned plan. after_offer planned e plan) run run stock stock (Ok x)
      (sym (offered-unable (planned_of next bodies run) e (plan_now next bodies run stock) first))
      (does-nothing w f run stock x sound made room))

  -- ---- a round

  -- an answer, or an error, may be of another type
  does-answer : {T U : Type 0} (s : Stream) (f : Planned B → Plan B → Plan B) (old new : Played P) (stock left : Shelves) (x : T) (y : U)
      → Came s f old new stock left (Ok x) → Came s f old new stock left (Ok y)
  does-answer s f old new stock left x y h = record { ran = ran-answer s old new x y h.ran; comes = h.comes; part = tt }

  -- lines are taken, and then a call is made
  pub does-turn : {T : Type 0} (a b c : Option (List ℕ)) (i j k : ℕ) (old mid new : Played P) (stock left : Shelves) (x y : Unit {0}) (z : T)
      → phase_now next bodies old ≡ phase.Turn
      → Came (stream a b i j) (λ planned plan. boundary planned plan) old mid stock left (Ok x)
      → Came (stream b c j k) (λ planned plan. one_call planned plan) mid new left left (Ok y)
      → Came (stream a c i k) (λ planned plan. round planned plan) old new stock left (Ok z)
  does-turn a b c i j k old mid new stock left x y z due p q =
      does-by (stream a c i k) (λ planned plan. one_call planned (boundary planned plan)) (λ planned plan. round planned plan) old new stock left (Ok z)
      (sym (turn-round (planned_of next bodies old) (plan_now next bodies old stock) due))
      (does-answer (stream a c i k) _ old new stock left y z
      (does-then a b c i j k (λ planned plan. boundary planned plan) (λ planned plan. one_call planned plan) old mid new stock left left x (Ok y) p q))

  pub does-turn-call : {T : Type 0} (a b c : Option (List ℕ)) (i j k : ℕ) (old mid new : Played P) (stock left : Shelves) (x : Unit {0}) (e : RunErr)
      → phase_now next bodies old ≡ phase.Turn
      → Came (stream a b i j) (λ planned plan. boundary planned plan) old mid stock left (Ok x)
      → Came {T = Unit {0}} (stream b c j k) (λ planned plan. one_call planned plan) mid new left left (Err e)
      → Came {T = T} (stream a c i k) (λ planned plan. round planned plan) old new stock left (Err e)
  does-turn-call a b c i j k old mid new stock left x e due p q =
      does-by (stream a c i k) (λ planned plan. one_call planned (boundary planned plan)) (λ planned plan. round planned plan) old new stock left (Err e)
      (sym (turn-round (planned_of next bodies old) (plan_now next bodies old stock) due))
      (does-part _ _ (stream a c i k) (λ planned plan. one_call planned (boundary planned plan)) (λ planned plan. plan) old new stock left e (first-same _)
      (does-then a b c i j k (λ planned plan. boundary planned plan) (λ planned plan. one_call planned plan) old mid new stock left left x (Err e) p q))

  -- with nobody to run, lines are taken
  pub does-idle : {T : Type 0} (s : Stream) (old new : Played P) (stock left : Shelves) (x : Unit {0}) (y : T) → phase_now next bodies old ≡ phase.Idle
      → Came s (λ planned plan. boundary planned plan) old new stock left (Ok x)
      → Came s (λ planned plan. round planned plan) old new stock left (Ok y)
  does-idle s old new stock left x y idle p =
      does-by s (λ planned plan. boundary planned plan) (λ planned plan. round planned plan) old new stock left (Ok y)
      (sym (idle-round (planned_of next bodies old) (plan_now next bodies old stock) idle))
      (does-answer s _ old new stock left x y p)

  pub does-idle-lines : {T : Type 0} (s : Stream) (old new : Played P) (stock left : Shelves) (e : RunErr) → phase_now next bodies old ≡ phase.Idle
      → Came {T = Unit {0}} s (λ planned plan. boundary planned plan) old new stock left (Err e)
      → Came {T = T} s (λ planned plan. round planned plan) old new stock left (Err e)
  does-idle-lines s old new stock left e idle p =
      does-by s (λ planned plan. boundary planned plan) (λ planned plan. round planned plan) old new stock left (Err e)
      (sym (idle-round (planned_of next bodies old) (plan_now next bodies old stock) idle))
      (does-part _ _ s (λ planned plan. boundary planned plan) (λ planned plan. plan) old new stock left e (first-same _) p)

  -- where no more lines were taken than before, the session is stuck, and else it isn't over
  pub over-stuck : (s : Stream) (old new : Played P) (stock left : Shelves) (x : Unit {0}) → phase_now next bodies old ≡ phase.Idle
      → Came s (λ planned plan. boundary planned plan) old new stock left (Ok x) → length new.takes ≡ length old.takes
      → plan_over (planned_of next bodies old) (plan_now next bodies old stock) ≡ Some halts.Stuck
  over-stuck s old new stock left x idle p n =
      idle-stuck (planned_of next bodies old) (plan_now next bodies old stock) idle (ap (λ (plan : Plan B). length plan.takes) (sym p.comes) ∙ n)

  pub over-on : (s : Stream) (old new : Played P) (stock left : Shelves) (x : Unit {0}) → phase_now next bodies old ≡ phase.Idle
      → Came s (λ planned plan. boundary planned plan) old new stock left (Ok x) → length new.takes ≢ length old.takes
      → plan_over (planned_of next bodies old) (plan_now next bodies old stock) ≡ None
  over-on s old new stock left x idle p n =
      idle-on (planned_of next bodies old) (plan_now next bodies old stock) idle (λ same. n (ap (λ (plan : Plan B). length plan.takes) p.comes ∙ same))

  -- somebody may run still, once lines were taken
  pub due-still : (s : Stream) (old new : Played P) (stock left : Shelves) (x : Unit {0}) → phase_now next bodies old ≡ phase.Turn
      → Came s (λ planned plan. boundary planned plan) old new stock left (Ok x) → phase_now next bodies new ≡ phase.Turn
  due-still s old new stock left x due p =
      (λ t. phase_of (pod_of (p.comes t)).state (p.ran.same.turns t) (p.comes t).calls)
      ∙ boundary-turn (planned_of next bodies old) (plan_now next bodies old stock) due

  -- ---- round after round

  -- so far, a run has gone towards this end
  pub record Going (s : Stream) (old now : Played P) (stock left : Shelves) : Type 0 where
    pub same : GoesOn old now
    pub sound : now.failed ≡ false
    pub told : Wrote s (trace_of next bodies procs old) (trace_of next bodies procs now)
    pub ends : after_finish (planned_of next bodies old) (plan_now next bodies now left)
        ≡ after_finish (planned_of next bodies old) (plan_now next bodies old stock)

  going-round : (old now new : Played P) (some left : Shelves) → GoesOn old now
      → plan_now next bodies new left ≡ round (planned_of next bodies now) (plan_now next bodies now some)
      → plan_now next bodies new left ≡ round (planned_of next bodies old) (plan_now next bodies now some)
  going-round old now new some left same comes = comes ∙ ap (λ planned. round planned (plan_now next bodies now some)) (planned-same old now same)

  pub going-on : {T : Type 0} (a b c : Option (List ℕ)) (i j k : ℕ) (old now new : Played P) (stock some left : Shelves) (x : T)
      → Going (stream a b i j) old now stock some → Came (stream b c j k) (λ planned plan. round planned plan) now new some left (Ok x)
      → Going (stream a c i k) old new stock left
  going-on a b c i j k old now new stock some left x g p = record {
    same = goes-then old now new g.same p.ran.same;
    sound = p.ran.sound;
    told = tells-then {T = Unit {0}} a b c i j k (trace_of next bodies procs old) (trace_of next bodies procs now)
        (trace_of next bodies procs new) (trace_of next bodies procs new) (Ok tt) g.told p.ran.told;
    ends = ap (after_finish (planned_of next bodies old)) (going-round old now new some left g.same p.comes)
        ∙ finished-round (planned_of next bodies old) (plan_now next bodies now some)
        ∙ g.ends;
  }

  pub going-falls : {T : Type 0} (s : Stream) (now new : Played P) (some left : Shelves) (x : T)
      → Came s (λ planned plan. round planned plan) now new some left (Ok x) → plan_over (planned_of next bodies now) (plan_now next bodies now some) ≡ None
      → (new.turns - new.calls) + left_in_all left + 1 ≤ (now.turns - now.calls) + left_in_all some
  going-falls s now new some left x p is =
      let planned = planned_of next bodies now in
      let plan = plan_now next bodies now some in
      let e : to_do planned (plan_now next bodies new left)
      ≡ to_do planned (after_advance planned plan) =
      ap (to_do planned) (p.comes ∙ ap (λ (o : Option Halt). elim o as (λ _. Plan B) [ None ↦ after_advance planned plan | Some halt ↦ plan ]) is) in
      let f = falls planned plan is in
      omega (arith, e, f, p.ran.same.turns)

  -- at the end
  still-over : {T : Type 0} (s : Stream) (old now new : Played P) (some left : Shelves) (halt : Halt) (x : T) → GoesOn old now
      → Came s (λ planned plan. round planned plan) now new some left (Ok x)
      → plan_over (planned_of next bodies now) (plan_now next bodies now some) ≡ Some halt
      → plan_now next bodies new left ≡ plan_now next bodies now some
  still-over s old now new some left halt x same p is = p.comes
      ∙ ap
      (λ (o : Option Halt). elim o as (λ _. Plan B)
      [ None ↦ after_advance (planned_of next bodies now) (plan_now next bodies now some) | Some halt ↦ plan_now next bodies now some ])
      is

  pub going-finishes : {T : Type 0} (s u : Stream) (old now new : Played P) (stock some left : Shelves) (halt : Halt) (x : T)
      → Going s old now stock some → Came u (λ planned plan. round planned plan) now new some left (Ok x)
      → plan_over (planned_of next bodies now) (plan_now next bodies now some) ≡ Some halt
      → plan_now next bodies new left ≡ after_finish (planned_of next bodies old) (plan_now next bodies old stock)
  going-finishes s u old now new stock some left halt x g p is =
      let over : plan_over (planned_of next bodies old) (plan_now next bodies now some) ≡ Some halt
      = ap (λ planned. plan_over planned (plan_now next bodies now some)) (sym (planned-same old now g.same)) ∙ is in
      still-over u old now new some left halt x g.same p is
      ∙ sym (finished-over (planned_of next bodies old) (plan_now next bodies now some) halt over)
      ∙ g.ends

  pub going-part : {T : Type 0} (s u : Stream) (old now new : Played P) (stock some left : Shelves) (e : RunErr)
      → Going s old now stock some → Came {T = T} u (λ planned plan. round planned plan) now new some left (Err e)
      → IsFirstPart (plan_now next bodies new left) (after_finish (planned_of next bodies old) (plan_now next bodies old stock))
  going-part s u old now new stock some left e g p =
      let planned = planned_of next bodies old in
      let plan = plan_now next bodies now some in
      subst (λ whole. IsFirstPart (plan_now next bodies new left) whole) (finished-round planned plan ∙ g.ends)
      (first-then (plan_now next bodies new left) (round planned plan) (after_finish planned (round planned plan))
      (subst (λ given. IsFirstPart (plan_now next bodies new left) (round given plan)) (planned-same old now g.same) p.part)
      (finished-grows planned (round planned plan)))

  -- a run to the end, whose last round failed
  pub going-fails : (T U : Type 0) (a b c : Option (List ℕ)) (i j k : ℕ) (old now new : Played P) (stock some left : Shelves) (e : RunErr) (r : Result U RunErr)
      → IsErrAnd r (λ given. given ≡ e)
      → Going (stream a b i j) old now stock some → Came {T = T} (stream b c j k) (λ planned plan. round planned plan) now new some left (Err e)
      → Came (stream a c i k) (λ planned plan. after_finish planned plan) old new stock left r
  going-fails T U a b c i j k old now new stock some left e r is g p =
      does-err U (stream a c i k) (λ planned plan. after_finish planned plan) old new stock left r e is (record {
        ran = ran-other T U (stream a c i k) old new e (ran-behind a b c i j k old now new (Err e) g.same g.told p.ran);
        comes = tt;
        part = going-part (stream a b i j) (stream b c j k) old now new stock some left e g p;
      })

  -- a run to the end, which its last round found
  pub going-ends : {T U : Type 0} (a b c : Option (List ℕ)) (i j k : ℕ) (old now new : Played P) (stock some left : Shelves) (halt : Halt) (x : T) (y : U)
      → Going (stream a b i j) old now stock some → Came (stream b c j k) (λ planned plan. round planned plan) now new some left (Ok x)
      → plan_over (planned_of next bodies now) (plan_now next bodies now some) ≡ Some halt
      → Came (stream a c i k) (λ planned plan. after_finish planned plan) old new stock left (Ok y)
  going-ends a b c i j k old now new stock some left halt x y g p is = record {
    ran = ran-answer (stream a c i k) old new x y (ran-behind a b c i j k old now new (Ok x) g.same g.told p.ran);
    comes = going-finishes (stream a b i j) (stream b c j k) old now new stock some left halt x g p is;
    part = tt;
  }

  -- a new run has done nothing yet
  new-opens : (run : Played P) (stock : Shelves) → IsNew run → plan_now next bodies run stock ≡ opening_plan (planned_of next bodies run) stock
  new-opens run stock h =
      (λ t. record { session = play (setting_of next bodies run) (h.1 t) (h.0 t); calls = h.0 t; left = stock; takes = h.1 t })
      ∙ ap (λ session. record { session = session; calls = 0; left = stock; takes = [] }) (play-zero (setting_of next bodies run))

  pub new-whole : (run : Played P) (stock : Shelves) → IsNew run
      → after_finish (planned_of next bodies run) (plan_now next bodies run stock) ≡ plan_whole (planned_of next bodies run) stock
  unfolding plan_whole
  new-whole run stock h = ap (after_finish (planned_of next bodies run)) (new-opens run stock h)
