-- Steps on the way to a moment.
use Rattle.lwp_state.specs.Along.{CallsNext, IsLastWithin, IsOnWay, IsStep, IsThere, TakesNext, lines_by, moment_at, moment_now, moment_of}
use Rattle.streams.specs.Counting.{Counting as Counted}
use Rattle.lwp_state.specs.declared.along.Reach.{Reach}
use Rattle.lwp_types.specs.Choice.{choice}
use Rattle.lwp_types.specs.Names.{Names}
use Rattle.lwp_types.specs.Poll.{Next}
use Rattle.lwp_types.specs.State.{State}
use Rattle.lwp_types.specs.declared.call.Line.{Line}
use Rattle.lwp_types.specs.declared.call.PodParams.{PodParams}
use Rattle.pod_events.specs.Events.{is_takeable}
use Rattle.pod_events.specs.Events.{has_turn}
use Rattle.pod_runner.specs.Due.{IsDefined, is_call_due}
use Rattle.pod_runner.specs.Phase.{phase_by, phase_of}
use Rattle.pod_runner.specs.Run as run
use Rattle.pod_runner.proofs.Plays.{play-zero}
use Rattle.pod_runner.specs.Play.{play}
use Rattle.pod_runner.specs.Trace.{lines}
use Rattle.pod_runner.proofs.Appends.{writes_base}
use Rattle.pod_runner.specs.Run.{GoesOn, IsNew, Played, Tells, Writes, after_step, with_call, with_took}
use Rattle.pod_runner.specs.declared.phase.Phase.TheVariants as phase
use Rattle.pod_runner.specs.declared.phase.RunErr.{RunErr}
use Rattle.pod_runner.specs.Session.{Made, Session, Setting}
use Rattle.pod_runner.specs.declared.session.Took.{Took}
use Rattle.replay.proofs.Moves.{gone-calls, gone-takes}
use Rattle.replay.specs.Recorded.{line_count}
use Rattle.replay.specs.Walk.{DueAll, Moment, Move, Reaches, after_move, after_moves, lines_until, session_of, took_at}
use Rattle.std.proofs.Common.{Bool, Err, List, None, Ok, OnOk, Option, Result, Some, [], ap, arith, false, get_or, inl, inr, length, length-append, length-take}
use Rattle.std.proofs.Common.{refl, slice_get, subst, suc, sym, take, take_all, true, zero, ℕ, ◌++◌, ◌+◌, ◌-◌, ◌<◌, ◌∙◌, ◌∷◌, ◌≡◌, ◌≤◌}
use Rattle.std.proofs.Math.Seq.{take-append_seam, take-nil}
use Rattle.std.proofs.lemmas.Bool.{lt-ltb, ltb-true, ltb-false}
use Rattle.std.proofs.lemmas.Option.{slice_get_past, slice_get_read}
use Rattle.std.specs.Prelude.{IsTrue, if◌then◌else◌, is_some, nat_lt, not, ◌&&◌}
use Rattle.streams.specs.Streams.{Stream}

at-end : {X : Type 0} (xs : List X) (x : X) (later : List X) → slice_get ((xs ++ x ∷ []) ++ later) (length xs) ≡ Some x
at-end [] x later = refl
at-end (y ∷ xs) x later = at-end xs x later

none-past : {X : Type 0} (xs : List X) (x : X) → slice_get xs (length xs) ≡ Some x → ⊥
none-past xs x is = let no : ◌≡◌ {A = Option _} (Some x) None = sym is ∙ slice_get_past xs (length xs) (omega arith) in cc no

-- the take after a move that is one
next-is : (ms : List Move) (at : Moment) (t : ℕ × Line) (took : Took)
    → slice_get (after_moves (after_move at (Some t)) ms).takes (length at.takes) ≡ Some took → took_at at t ≡ took
next-is ms at t took is =
    let w = gone-takes ms (after_move at (Some t)) in
    let some : ◌≡◌ {A = Option Took} (Some (took_at at t)) (Some took) = sym (at-end at.takes (took_at at t) w.0)
    ∙ ap (λ ts. slice_get ts (length at.takes)) (sym w.1) ∙ is in
    cc some

-- later takes have later turns
later-turn : (ms : List Move) (at : Moment) (took : Took) → slice_get (after_moves at ms).takes (length at.takes) ≡ Some took → at.calls ≤ took.turn
later-turn [] at took is = absurd (none-past at.takes took is)
later-turn (None ∷ ms) at took is = omega (arith, later-turn ms (after_move at None) took is)
later-turn (Some t ∷ ms) at took is = omega (arith, ap (λ (x : Took). x.turn) (next-is ms at t took is))

module _ {B : Type 0} (setting : Setting B) where
  takes-by : (ms : List Move) (to at : Moment) (took : Took) → DueAll setting at ms → after_moves at ms ≡ to
      → slice_get to.takes (length at.takes) ≡ Some took → took.turn ≡ at.calls → TakesNext setting to at took
  takes-by [] to at took due comes is turn = absurd (none-past at.takes took (ap (λ (m : Moment). slice_get m.takes (length at.takes)) comes ∙ is))
  takes-by (None ∷ ms) to at took due comes is turn =
      absurd (omega (arith, later-turn ms (after_move at None) took (ap (λ (m : Moment). slice_get m.takes (length at.takes)) comes ∙ is), turn))
  takes-by (Some t ∷ ms) to at took due comes is turn =
      let same : took_at at t ≡ took = next-is ms at t took (ap (λ (m : Moment). slice_get m.takes (length at.takes)) comes ∙ is) in
      let pair : t ≡ (took.event, took.line) = ap (λ (x : Took). (x.event, x.line)) same in record {
        due = subst (λ e. IsTrue (is_takeable (session_of setting at).live.pod e)) (ap (λ (x : Took). x.event) same) due.0;
        way = subst (λ (p : ℕ × Line). Reaches setting (after_move at (Some p)) to) pair (record { moves = ms; due = due.1; comes = comes });
      }

  pub takes-next : (to at : Moment) (took : Took) → Reaches setting at to → slice_get to.takes (length at.takes) ≡ Some took
      → took.turn ≡ at.calls → TakesNext setting to at took
  takes-next to at took way is turn = takes-by way.moves to at took way.due way.comes is turn

  calls-by : (ms : List Move) (to at : Moment) → DueAll setting at ms → after_moves at ms ≡ to → (at ≡ to → ⊥)
      → ((took : Took) → slice_get to.takes (length at.takes) ≡ Some took → took.turn ≡ at.calls → ⊥) → CallsNext setting to at
  calls-by [] to at due comes more other = absurd (more comes)
  calls-by (None ∷ ms) to at due comes more other = record {
    due = due.0;
    way = record { moves = ms; due = due.1; comes = comes };
    more = omega (arith, gone-calls ms (after_move at None), ap (λ (m : Moment). m.calls) comes);
  }
  calls-by (Some t ∷ ms) to at due comes more other =
      let w = gone-takes ms (after_move at (Some t)) in
      absurd (other (took_at at t) (ap (λ (m : Moment). slice_get m.takes (length at.takes)) (sym comes)
      ∙ ap (λ ts. slice_get ts (length at.takes)) w.1 ∙ at-end at.takes (took_at at t) w.0) refl)

  pub calls-next : (to at : Moment) → Reaches setting at to → (at ≡ to → ⊥)
      → ((took : Took) → slice_get to.takes (length at.takes) ≡ Some took → took.turn ≡ at.calls → ⊥) → CallsNext setting to at
  calls-next to at way more other = calls-by way.moves to at way.due way.comes more other

  -- a moment on the way has the first takes
  pub first-takes : (to at : Moment) → Reaches setting at to → at.takes ≡ take (length at.takes) to.takes
  first-takes to at way =
      let w = gone-takes way.moves at in
      sym (ap (λ (m : Moment). take (length at.takes) m.takes) (sym way.comes) ∙ ap (take (length at.takes)) w.1 ∙ take-append_seam at.takes w.0)

  -- with as many takes and calls it is the end of the way
  pub there-by : (to at : Moment) → Reaches setting at to → length at.takes ≡ length to.takes → at.calls ≡ to.calls → at ≡ to
  there-by to at way takes calls =
      let same : at.takes ≡ to.takes = first-takes to at way ∙ take_all (length at.takes) to.takes (omega (arith, takes)) in
      ap (λ ts. moment_of ts at.calls) same ∙ ap (moment_of to.takes) calls

-- with other takes or other calls it is another moment
pub not-there : (to at : Moment) → (length at.takes ≡ length to.takes → at.calls ≡ to.calls → ⊥) → at ≡ to → ⊥
not-there to at more is = more (ap (λ (m : Moment). length m.takes) is) (ap (λ (m : Moment). m.calls) is)

slice_get-take : {X : Type 0} (xs : List X) (n i : ℕ) → i < n → slice_get (take n xs) i ≡ slice_get xs i
slice_get-take [] n i low = ap (λ ys. slice_get ys i) (take-nil n)
slice_get-take (x ∷ xs) zero i low = absurd (omega (arith, low))
slice_get-take (x ∷ xs) (suc n) zero low = refl
slice_get-take (x ∷ xs) (suc n) (suc i) low = slice_get-take xs n i (omega (arith, low))

-- the take at a place of the first so many
pub at-place : (takes : List Took) (n i : ℕ) (took : Took) → n ≤ length takes → i < n → took ≡ get_or takes i took → slice_get (take n takes) i ≡ Some took
at-place takes n i took most low is = slice_get-take takes n i low ∙ slice_get_read takes (length takes) i took refl (omega (arith, most, low)) is

pub none-at : (takes : List Took) (n i : ℕ) (took : Took) → n ≤ i → slice_get (take n takes) i ≡ Some took → ⊥
none-at takes n i took past is = let no : ◌≡◌ {A = Option Took} (Some took) None = sym is
    ∙ slice_get_past (take n takes) i (omega (arith, length-take n takes, past)) in
    cc no

-- ---- a step that was made

module _ {B P : Type 0} (next : Next B) (bodies : P → List B) (proc_names : P → List (List ℕ)) where
  pub taken-on : (to : Moment) (sink : Stream) (old new : Played P) (took : Took) (result : Result (Unit {0}) RunErr)
      → IsOnWay next bodies to old → TakesNext (run.setting_of next bodies old) to (moment_now old) took
      → new ≡ after_step old (with_took old took.event took.line) result
      → Tells sink (run.trace_of next bodies proc_names old) (run.trace_of next bodies proc_names old) (run.trace_of next bodies proc_names new) result
      → IsDefined (run.setting_of next bodies new) new.takes new.calls → OnOk result (IsStep next bodies proc_names to sink old new)
  taken-on to sink old new took (Err e) on takes is told made = tt
  taken-on to sink old new took (Ok x) on takes is told made = subst (λ (n : Played P). IsStep next bodies proc_names to sink old n) (sym is) (record {
    on = record {
      sound = on.sound;
      made = subst (λ (n : Played P). IsDefined (run.setting_of next bodies n) n.takes n.calls) is made;
      way = takes.way;
      room = on.room;
    };
    same = record { program = refl; params = refl; names = refl; turns = refl };
    step = Some (took.event, took.line);
    due = takes.due;
    comes = refl;
    told = subst (λ (n : Played P). Writes sink.old sink.new (run.trace_of next bodies proc_names old) (run.trace_of next bodies proc_names n)) is told.0;
  })

  pub called-on : (to : Moment) (sink : Stream) (old new : Played P) (result : Result (Unit {0}) RunErr) → IsOnWay next bodies to old
      → CallsNext (run.setting_of next bodies old) to (moment_now old)
      → new ≡ after_step old (with_call old) result
      → Tells sink (run.trace_of next bodies proc_names old) (run.trace_of next bodies proc_names old) (run.trace_of next bodies proc_names new) result
      → IsDefined (run.setting_of next bodies new) new.takes new.calls → OnOk result (IsStep next bodies proc_names to sink old new)
  called-on to sink old new (Err e) on calls is told made = tt
  called-on to sink old new (Ok x) on calls is told made = subst (λ (n : Played P). IsStep next bodies proc_names to sink old n) (sym is) (record {
    on = record {
      sound = on.sound;
      made = subst (λ (n : Played P). IsDefined (run.setting_of next bodies n) n.takes n.calls) is made;
      way = calls.way;
      room = on.room;
    };
    same = record { program = refl; params = refl; names = refl; turns = refl };
    step = None;
    due = calls.due;
    comes = refl;
    told = subst (λ (n : Played P). Writes sink.old sink.new (run.trace_of next bodies proc_names old) (run.trace_of next bodies proc_names n)) is told.0;
  })

-- where a call is due and allowed, it is the run's turn
pub turn-of : (s : State) (turns calls : ℕ) → IsTrue (has_turn s) → calls < turns → phase_of s turns calls ≡ phase.Turn
turn-of s turns calls due room = by s.ended (choice s) due (lt-ltb calls turns room)
  where
    by : (ended : Bool) (c : Option ℕ) → IsTrue (not ended && is_some c) → nat_lt calls turns ≡ true
        → (if ended then phase.Ended s.status else phase_by turns calls c) ≡ phase.Turn
    by true c h low = absurd (cc h)
    by false None h low = absurd (cc h)
    by false (Some t) h low = rw low refl

-- ---- runs that go on

pub reach-is : (a b : Reach) → a.takes ≡ b.takes → a.calls ≡ b.calls → a ≡ b
reach-is a b takes calls = ap (λ n. reach_by n a.calls) takes ∙ ap (reach_by b.takes) calls
  where
    reach_by : ℕ → ℕ → Reach
    reach_by n k = record { takes = n; calls = k }

take-first : {X : Type 0} (m n : ℕ) (xs : List X) → m ≤ n → take m (take n xs) ≡ take m xs
take-first zero n xs low = refl
take-first (suc m) n [] low = ap (take (suc m)) (take-nil n)
take-first (suc m) zero (x ∷ xs) low = absurd (omega (arith, low))
take-first (suc m) (suc n) (x ∷ xs) low = ap (λ ys. x ∷ ys) (take-first m n xs (omega (arith, low)))

module _ {B P : Type 0} (next : Next B) (bodies : P → List B) where
  -- a run that goes on to a moment, and where it is
  pub record Going (to : Moment) (old now : Played P) (here : Reach) : Type 0 where
    pub on : IsOnWay next bodies to now
    pub same : GoesOn old now
    pub takes : here.takes ≡ length now.takes
    pub calls : here.calls ≡ now.calls

  pub going-first : (to : Moment) (old : Played P) (here : Reach) → IsOnWay next bodies to old → here.takes ≡ length old.takes
      → here.calls ≡ old.calls → Going to old old here
  going-first to old here on takes calls = record {
    on = on;
    same = record { program = refl; params = refl; names = refl; turns = refl };
    takes = takes;
    calls = calls;
  }

  pub going-on : (proc_names : P → List (List ℕ)) (to : Moment) (sink : Stream) (old now new : Played P) (here after : Reach)
      → Going to old now here → IsStep next bodies proc_names to sink now new → after.takes ≡ length new.takes
      → after.calls ≡ new.calls → Going to old new after
  going-on proc_names to sink old now new here after g step takes calls = record {
    on = step.on;
    same = record {
      program = step.same.program ∙ g.same.program;
      params = step.same.params ∙ g.same.params;
      names = step.same.names ∙ g.same.names;
      turns = step.same.turns ∙ g.same.turns;
    };
    takes = takes;
    calls = calls;
  }

  -- it is not past the moment
  pub not-past : (takes : List Took) (end : Reach) (now : Played P) → end.takes ≤ length takes
      → IsOnWay next bodies (moment_at takes end) now → (length now.takes ≤ end.takes) × (now.calls ≤ end.calls)
  not-past takes end now most on =
      let w = gone-takes on.way.moves (moment_now now) in
      let whole : length (take end.takes takes) ≡ length (now.takes ++ w.0) = ap (λ (m : Moment). length m.takes) (sym on.way.comes) ∙ ap length w.1 in (
        omega (arith, whole, length-take end.takes takes, length-append now.takes w.0),
        omega (arith, gone-calls on.way.moves (moment_now now), ap (λ (m : Moment). m.calls) on.way.comes),
      )

  -- a step brings it nearer
  pub nearer : (proc_names : P → List (List ℕ)) (takes : List Took) (end : Reach) (sink : Stream) (old now new : Played P) (here after : Reach)
      → end.takes ≤ length takes → Going (moment_at takes end) old now here
      → IsStep next bodies proc_names (moment_at takes end) sink now new → after.takes ≡ length new.takes → after.calls ≡ new.calls
      → (end.takes - after.takes) + (end.calls - after.calls) < (end.takes - here.takes) + (end.calls - here.calls)
  nearer proc_names takes end sink old now new here after most g step took made =
      let past = not-past takes end new most step.on in
      by step.step (ap (λ (m : Moment). length m.takes) step.comes) (ap (λ (m : Moment). m.calls) step.comes) past
    where
      by : (m : Move) → length new.takes ≡ length (after_move (moment_now now) m).takes → new.calls ≡ (after_move (moment_now now) m).calls
          → (length new.takes ≤ end.takes) × (new.calls ≤ end.calls)
          → (end.takes - after.takes) + (end.calls - after.calls) < (end.takes - here.takes) + (end.calls - here.calls)
      by None longer more past = omega (arith, longer, more, past.0, past.1, took, made, g.takes, g.calls)
      by (Some t) longer more past =
          omega (arith, longer, more, past.0, past.1, took, made, g.takes, g.calls, length-append now.takes (took_at (moment_now now) t ∷ []))

  -- where it is, as so many of all takes
  pub moment-here : (takes : List Took) (end here : Reach) (now : Played P) → end.takes ≤ length takes
      → IsOnWay next bodies (moment_at takes end) now → here.takes ≡ length now.takes → here.calls ≡ now.calls
      → moment_at takes here ≡ moment_now now
  moment-here takes end here now most on took made =
      let past = not-past takes end now most on in
      let same : now.takes
      ≡ take (length now.takes) takes = first-takes (run.setting_of next bodies now) (moment_at takes end) (moment_now now) on.way
      ∙ take-first (length now.takes) end.takes takes past.0 in
      ap (λ n. moment_of (take n takes) here.calls) took ∙ ap (λ ts. moment_of ts here.calls) (sym same) ∙ ap (moment_of now.takes) made

  -- it is there
  pub arrived : (takes : List Took) (end here : Reach) (old now : Played P) → end.takes ≤ length takes
      → Going (moment_at takes end) old now here → here ≡ end → IsThere (moment_at takes end) old now
  arrived takes end here old now most g is = record {
    sound = g.on.sound;
    same = g.same;
    there = sym (moment-here takes end here now most g.on g.takes g.calls) ∙ ap (moment_at takes) is;
  }

  setting-on : (old new : Played P) → GoesOn old new → run.setting_of next bodies new ≡ run.setting_of next bodies old
  setting-on old new g =
      ap (λ (p : P). the_setting p new.params new.names) g.program
      ∙ ap (λ (p : PodParams). the_setting old.program p new.names) g.params
      ∙ ap (λ (n : Names). the_setting old.program old.params n) g.names
    where
      the_setting : P → PodParams → Names → Setting B
      the_setting p params names = record { next = next; bodies = bodies p; params = params; names = names }

  module _ (proc_names : P → List (List ℕ)) where
    -- it goes on to a moment, and few lines were written so far, which a sink has counted
    pub record Counting (to : Moment) (old now : Played P) (here : Reach) (most : ℕ) (held : Counted) : Type 0 where
      pub going : Going to old now here
      pub bytes : held.bytes ≡ run.trace_of next bodies proc_names now
      pub few : line_count held.bytes ≤ most

    pub counting-first : (to : Moment) (old : Played P) (here : Reach) (most : ℕ) (held : Counted) → IsNew old → IsOnWay next bodies to old
        → here.takes ≡ length old.takes → here.calls ≡ old.calls
        → held.bytes ≡ [] → Counting to old old here most held
    counting-first to old here most held new on takes calls empty = record {
      going = going-first to old here on takes calls;
      bytes = empty ∙ sym none;
      few = omega (arith, ap line_count empty);
    }
      where
        none : run.trace_of next bodies proc_names old ≡ []
        none =
            ap (λ n. lines_of_steps (play (run.setting_of next bodies old) old.takes n).steps) new.0
            ∙ ap (λ ts. lines_of_steps (play (run.setting_of next bodies old) ts 0).steps) new.1
            ∙ ap (λ (s : Session B). lines_of_steps s.steps) (play-zero (run.setting_of next bodies old))
          where
            lines_of_steps : List Made → List ℕ
            lines_of_steps steps = lines (proc_names old.program) steps

    -- what the sink has after a step
    told-now : (to : Moment) (now new : Played P) (faults more_faults : ℕ) (bytes more : List ℕ) → bytes ≡ run.trace_of next bodies proc_names now
        → IsStep next bodies proc_names to (record { old = Some bytes; new = Some more; faults_old = faults; faults_new = more_faults }) now new
        → more ≡ run.trace_of next bodies proc_names new
    told-now to now new faults more_faults bytes more is step =
        let told : ◌≡◌ {A = Option (List ℕ)} (Some more) (Some (run.trace_of next bodies proc_names new)) = writes_base step.told (Some []) (ap (λ ls. Some ls) is) in
        cc told

    pub counting-on : (to : Moment) (old now new : Played P) (here after : Reach) (most : ℕ) (held more : Counted) → Counting to old now here most held
        → IsStep next bodies proc_names to (record { old = Some held.bytes; new = Some more.bytes; faults_old = held.faults; faults_new = more.faults }) now new
        → after.takes ≡ length new.takes → after.calls ≡ new.calls
        → nat_lt most (line_count more.bytes) ≡ false → Counting to old new after most more
    counting-on to old now new here after most held more g step takes calls under = record {
      going = going-on proc_names to _ old now new here after g.going step takes calls;
      bytes = told-now to now new held.faults more.faults held.bytes more.bytes g.bytes step;
      few = omega (arith, ltb-false most (line_count more.bytes) under);
    }

    moved : (takes : List Took) (end here : Reach) (old now : Played P) (most : ℕ) → end.takes ≤ length takes → Going (moment_at takes end) old now here
        → IsLastWithin (run.setting_of next bodies now) (proc_names now.program) most (moment_at takes end) (moment_now now)
        → IsLastWithin (run.setting_of next bodies old) (proc_names old.program) most (moment_at takes end) (moment_at takes here)
    moved takes end here old now most fits g h =
        subst (λ (m : Moment). IsLastWithin (run.setting_of next bodies old) (proc_names old.program) most (moment_at takes end) m)
        (sym (moment-here takes end here now fits g.on g.takes g.calls))
        (subst (λ (s : Setting B). IsLastWithin s (proc_names old.program) most (moment_at takes end) (moment_now now)) (setting-on old now g.same)
        (subst (λ (p : P). IsLastWithin (run.setting_of next bodies now) (proc_names p) most (moment_at takes end) (moment_now now)) g.same.program h))

    -- how many lines were written by then
    pub told-here : (takes : List Took) (end here : Reach) (old now : Played P) (most : ℕ) (held : Counted) → end.takes ≤ length takes
        → Counting (moment_at takes end) old now here most held
        → line_count held.bytes ≡ lines_by (run.setting_of next bodies old) (proc_names old.program) (moment_at takes here)
    told-here takes end here old now most held fits g =
        subst (λ (m : Moment). line_count held.bytes ≡ lines_by (run.setting_of next bodies old) (proc_names old.program) m)
        (sym (moment-here takes end here now fits g.going.on g.going.takes g.going.calls))
        (subst (λ (s : Setting B). line_count held.bytes ≡ lines_by s (proc_names old.program) (moment_now now)) (setting-on old now g.going.same)
        (subst (λ (p : P). line_count held.bytes ≡ lines_by (run.setting_of next bodies now) (proc_names p) (moment_now now)) g.going.same.program
        (ap line_count g.bytes)))

    -- it stops at the end of the way
    pub stops-there : (takes : List Took) (end here : Reach) (old now : Played P) (most : ℕ) (held : Counted) → end.takes ≤ length takes
        → Counting (moment_at takes end) old now here most held → here ≡ end
        → IsLastWithin (run.setting_of next bodies old) (proc_names old.program) most (moment_at takes end) (moment_at takes here)
    stops-there takes end here old now most held fits g is =
        moved takes end here old now most fits g.going (record {
          made = g.going.on.made;
          way = g.going.on.way;
          few = omega (arith, g.few, ap line_count g.bytes);
          last = inl (sym (moment-here takes end here now fits g.going.on g.going.takes g.going.calls) ∙ ap (moment_at takes) is);
        })

    -- it stops since the next step writes too many lines
    pub stops-before : (takes : List Took) (end here : Reach) (old now new : Played P) (most : ℕ) (held more : Counted)
        → end.takes ≤ length takes → Counting (moment_at takes end) old now here most held
        → IsStep next bodies proc_names (moment_at takes end)
        (record { old = Some held.bytes; new = Some more.bytes; faults_old = held.faults; faults_new = more.faults })
        now new
        → nat_lt most (line_count more.bytes) ≡ true
        → IsLastWithin (run.setting_of next bodies old) (proc_names old.program) most (moment_at takes end) (moment_at takes here)
    stops-before takes end here old now new most held more fits g step over =
        moved takes end here old now most fits g.going (record {
          made = g.going.on.made;
          way = g.going.on.way;
          few = omega (arith, g.few, ap line_count g.bytes);
          last = inr (record { step = step.step; due = step.due; on = goes; more = past });
        })
      where
        there : run.setting_of next bodies new ≡ run.setting_of next bodies now
        there = setting-on now new step.same

        goes : Reaches (run.setting_of next bodies now) (after_move (moment_now now) step.step) (moment_at takes end)
        goes = subst (λ (m : Moment). Reaches (run.setting_of next bodies now) m (moment_at takes end)) step.comes
            (subst (λ (s : Setting B). Reaches s (moment_now new) (moment_at takes end)) there step.on.way)

        wrote : more.bytes ≡ lines_until (run.setting_of next bodies now) (proc_names now.program) (after_move (moment_now now) step.step)
        wrote = told-now (moment_at takes end) now new held.faults more.faults held.bytes more.bytes g.bytes step
            ∙ ap (λ (p : P). lines_until (run.setting_of next bodies new) (proc_names p) (moment_now new)) step.same.program
            ∙ ap (λ (s : Setting B). lines_until s (proc_names now.program) (moment_now new)) there
            ∙ ap (lines_until (run.setting_of next bodies now) (proc_names now.program)) step.comes

        past : most < line_count (lines_until (run.setting_of next bodies now) (proc_names now.program) (after_move (moment_now now) step.step))
        past = omega (arith, ltb-true most (line_count more.bytes) over, ap line_count wrote)
