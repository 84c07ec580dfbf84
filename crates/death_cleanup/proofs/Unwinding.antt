-- The exit procedures of frames that go, one after another.
use Rattle.death_cleanup.proofs.Notes.{noted-stack}
use Rattle.death_cleanup.proofs.Looks.{row_under, rows-under}
use Rattle.death_cleanup.proofs.Unmarking.{blocked, lives, marked_again, marks_now, priority, run_exit_so, same_case}
use Rattle.death_cleanup.specs.Comes.{CameTo, HasRoom}
use Rattle.death_cleanup.specs.Moves.{after_set_stack, kind_with_marks, kind_marks, stack_of, pair_with_stack}
use Rattle.death_cleanup.specs.Ties.{InStep, LawfulParts}
use Rattle.death_cleanup.specs.View.{known_of, row_of, row_onto, rows_of, state_of}
use Rattle.death_cleanup.specs.declared.parts.Parts.{Parts}
use Rattle.death_cleanup.specs.declared.rows.Kind.{Kind}
use Rattle.death_cleanup.specs.declared.rows.Kind.TheVariants as kind
use Rattle.conditions.specs.declared.waits.WaitRec.{WaitRec}
use Rattle.monitors.specs.declared.requests.EntryRequest.{EntryRequest}
use Rattle.exc_stack.specs.Stack.{UnwindsAll, below_last_exit, unwound_all}
use Rattle.lwp_types.specs.Death.{run_all_exits}
use Rattle.lwp_types.specs.Exits.{exit_case, run_exit}
use Rattle.lwp_types.specs.Exceptions.{exits_of, is_exit}
use Rattle.lwp_types.specs.Lawful.{is_same_option}
use Rattle.lwp_types.specs.ListLaws.{All-weaker}
use Rattle.lwp_types.specs.State as machine
use Rattle.lwp_types.specs.State.{Outcome, State, ThreadRow, and_then, for_each, is_thread, marks_in, row_with_marks, with_marks, with_marks_of}
use Rattle.lwp_types.specs.Unblock.{zero_answer}
use Rattle.lwp_types.specs.declared.call.Effect.{Effect}
use Rattle.lwp_types.specs.declared.call.Effect.TheVariants as effect
use Rattle.lwp_types.specs.declared.rows.ExitMark.{ExitMark}
use Rattle.lwp_types.specs.declared.rows.Mark.{Mark}
use Rattle.lwp_types.specs.CountLaws.{count-cons}
use Rattle.lwp_types.specs.Counts.{has_its_marks}
use Rattle.pod_laws.proofs.MarkLists.{Fewer}
use Rattle.pod_laws.proofs.Chosen.{living}
use Rattle.pod_laws.proofs.MarkMoves.{NineParts-fewer}
use Rattle.pod_sched.specs.declared.rows.Known.{Known}
use Rattle.stale_ids.specs.Register.{AreRising, value_of}
use Rattle.std.proofs.Common.{Bool, List, None, Option, Some, [], ap, arith, cond, count_by, eqb, false, length, length-append}
use Rattle.std.proofs.Common.{map, not, refl, sym, true, ℕ, ◌&&◌, ◌++◌, ◌+◌, ◌<◌, ◌||◌, ◌∙◌, ◌∷◌, ◌≡◌, ◌≤◌}
use Rattle.std.proofs.lemmas.List.{append-nil, append_assoc, length-map}
use Rattle.std.proofs.lemmas.Bool.{eq-eqb, or_left}
use Rattle.std.specs.List.{list_any}
use Rattle.std.specs.Prelude.{option_map, option_to_list, unwrap_or}

-- other marks in the registry are other marks in the state
rows-stacked : (p t : ℕ) (ms : List Mark) (known : List Known) (living : List (ℕ × Kind))
    → rows_of p known (map (pair_with_stack t ms) living) ≡ with_marks t ms (rows_of p known living)
rows-stacked p t ms known [] = refl
rows-stacked p t ms known (live ∷ living) = by_kind live.0 live.1 (rows-stacked p t ms known living)
  where
    by_kind : (n : ℕ) (k : Kind) → rows_of p known (map (pair_with_stack t ms) living) ≡ with_marks t ms (rows_of p known living)
        → row_onto (known_of p known n) n (cond (eqb n t) (kind_with_marks ms k) k) (rows_of p known (map (pair_with_stack t ms) living))
        ≡ with_marks t ms (row_onto (known_of p known n) n k (rows_of p known living))
    by_kind n kind.Agent rest = by_test (eqb n t)
      where
        by_test : (c : Bool)
            → row_onto (known_of p known n) n (cond c kind.Agent kind.Agent) (rows_of p known (map (pair_with_stack t ms) living))
            ≡ with_marks t ms (rows_of p known living)
        by_test true = rest
        by_test false = rest
    by_kind n (kind.Thread rec) rest = by_test (eqb n t)
      where
        by_test : (c : Bool)
            → row_onto (known_of p known n) n (cond c (kind.Thread (record rec { stack = ms })) (kind.Thread rec))
            (rows_of p known (map (pair_with_stack t ms) living))
            ≡ record (row_of (known_of p known n) n rec) { marks = cond c ms rec.stack } ∷ with_marks t ms (rows_of p known living)
        by_test true = ap (λ rows. record (row_of (known_of p known n) n rec) { marks = ms } ∷ rows) rest
        by_test false = ap (λ rows. row_of (known_of p known n) n rec ∷ rows) rest

module _ (parts : Parts) (t : ℕ) (ms : List Mark) where
  pub stacked-is : state_of (after_set_stack parts t ms) ≡ with_marks_of (state_of parts) t ms
  stacked-is = ap (λ rows. record (state_of parts) { threads = rows }) (rows-stacked parts.last_prio t ms parts.sched.threads parts.ids.live)

  pub InStep-stacked : InStep parts → InStep (after_set_stack parts t ms)
  InStep-stacked step = record {
    tied = record {
      known = λ u. step.tied.known u
          ∙ ap (λ b. b && not (is_same_option parts.dying u)) (sym (ap (λ s. is_thread s u) stacked-is ∙ lives t ms (state_of parts) u));
      waits = λ u. step.tied.waits u ∙ sym (ap (λ s. machine.is_blocked_in s u) stacked-is ∙ blocked t ms (state_of parts) u);
    };
    ranked = record {
      requests = All-weaker (λ (r : EntryRequest). r.prio ≡ machine.priority_in (state_of parts) r.tid)
          (λ r. r.prio ≡ machine.priority_in (state_of (after_set_stack parts t ms)) r.tid)
          (λ r e. e ∙ sym (ap (λ s. machine.priority_in s r.tid) stacked-is ∙ priority t ms (state_of parts) r.tid)) parts.mons.requests step.ranked.requests;
      waits = All-weaker (λ (w : WaitRec). w.prio ≡ machine.priority_in (state_of parts) w.tid)
          (λ w. w.prio ≡ machine.priority_in (state_of (after_set_stack parts t ms)) w.tid)
          (λ w e. e ∙ sym (ap (λ s. machine.priority_in s w.tid) stacked-is ∙ priority t ms (state_of parts) w.tid)) parts.conds.waits step.ranked.waits;
    };
    roomy = record {
      letters = omega (arith, few, step.roomy.letters);
      threads = omega (arith, few, step.roomy.threads);
      requests = omega (arith, few, step.roomy.requests);
      waits = omega (arith, few, step.roomy.waits);
    };
    monitors = step.monitors;
    conditions = step.conditions;
    noted = noted-stack parts.named t ms parts.ids.live step.noted;
  }
    where
      few : length (state_of (after_set_stack parts t ms)).threads ≡ length (state_of parts).threads
      few = ap (λ (s : State). length s.threads) stacked-is ∙ length-map (state_of parts).threads (row_with_marks t ms)

-- a thread's marks are those in the registry
pub marks-are : (parts : Parts) (t : ℕ) → AreRising parts.ids.live → marks_in (state_of parts) t ≡ stack_of t parts.ids.live
marks-are parts t rising =
    ap (λ o. unwrap_or (option_map (λ (row : ThreadRow). row.marks) o) []) (rows-under parts.last_prio parts.sched.threads t parts.ids.live rising)
    ∙ by_kind (value_of t parts.ids.live)
  where
    by_kind : (o : Option Kind) → unwrap_or (option_map (λ (row : ThreadRow). row.marks) (row_under parts.last_prio parts.sched.threads t o)) [] ≡ kind_marks o
    by_kind None = refl
    by_kind (Some (kind.Thread rec)) = refl
    by_kind (Some kind.Agent) = refl

module _ (t : ℕ) (todo : List Mark → List ExitMark) (kept : List Mark) where
  -- some marks stay, and the exit procedures that are still to do run
  abbrev pub all : State → Outcome
  all s = for_each (run_exit t) (todo (marks_in s t)) (with_marks_of s t kept)

  pub record Unwinding (Fits : List Mark → Type 0) (start : Parts) (before : List Effect) (parts : Parts) (after : List Effect) : Type 0 where
    pub lawful : LawfulParts parts
    pub lives : is_thread (state_of parts) t ≡ true
    pub fits : Fits (marks_in (state_of parts) t)
    pub dying : parts.dying ≡ start.dying
    pub state : (all (state_of parts)).after ≡ (all (state_of start)).after
    pub effects : after ++ (all (state_of parts)).effects ≡ before ++ (all (state_of start)).effects
    pub room : HasRoom after (all (state_of parts)) 1

  module _ (Fits : List Mark → Type 0) (start : Parts) (before : List Effect) (parts : Parts) (after : List Effect)
      (h : Unwinding Fits start before parts after) (left : List Mark) where
    abbrev pub popped : Parts
    popped = after_set_stack parts t left

    pub popped_lawful : Fewer left (marks_in (state_of parts) t) → (is_same_option parts.dying t || has_its_marks left) ≡ true → LawfulParts popped
    popped_lawful fewer based =
        let who = living (state_of parts) t h.lives in
        record {
          nine = rw (stacked-is parts t left) (NineParts-fewer (state_of parts) parts.dying h.lawful.nine t who.row who.known left based
              (λ p. omega (arith, fewer p, ap (λ o. count_by p (unwrap_or (option_map (λ (row : ThreadRow). row.marks) o) [])) who.known)));
          step = InStep-stacked parts t left h.lawful.step;
        }

    -- one exit procedure runs
    module _ (x : ExitMark) (first : todo (marks_in (state_of parts) t) ≡ x ∷ todo left) where
      other : State
      other = (run_exit t x (state_of parts)).after

      next : (ks : List Mark)
          → run_exit t x (with_marks_of (state_of parts) t ks)
          ≡ record { after = with_marks_of (run_exit t x (state_of parts)).after t ks; effects = (run_exit t x (state_of parts)).effects }
      next ks = run_exit_so t ks t x (state_of parts)

      turn : all (state_of parts)
          ≡ record {
            after = (for_each (run_exit t) (todo left) (with_marks_of (run_exit t x (state_of parts)).after t kept)).after;
            effects = (run_exit t x (state_of parts)).effects
                ++ (for_each (run_exit t) (todo left) (with_marks_of (run_exit t x (state_of parts)).after t kept)).effects;
          }
      unfolding for_each and_then
      turn = ap (λ xs. for_each (run_exit t) xs (with_marks_of (state_of parts) t kept)) first
          ∙ ap (λ (o : Outcome).
          record { after = (for_each (run_exit t) (todo left) o.after).after; effects = o.effects ++ (for_each (run_exit t) (todo left) o.after).effects })
          (next kept)

      pub exit_room : length after
          + ((length (run_exit t x (state_of parts)).effects
          + length (for_each (run_exit t) (todo left) (with_marks_of (run_exit t x (state_of parts)).after t kept)).effects)
          + 1)
          ≤ 2048
      exit_room =
          omega (
            arith,
            h.room,
            ap (λ (o : Outcome). length o.effects) turn,
            length-append (run_exit t x (state_of parts)).effects
                (for_each (run_exit t) (todo left) (with_marks_of (run_exit t x (state_of parts)).after t kept)).effects,
          )

      module _ (new : Parts) (now : List Effect) (came : CameTo popped new after now (run_exit t x (state_of popped)))
          (nine : LawfulParts new) (fit : Fits left) where
        came_so : (state_of new ≡ with_marks_of (run_exit t x (state_of parts)).after t left) × (now ≡ after ++ (run_exit t x (state_of parts)).effects)
        came_so =
            let e = ap (λ s. run_exit t x s) (stacked-is parts t left) ∙ next left in
            (came.state ∙ ap (λ (o : Outcome). o.after) e, came.effects ∙ ap (λ (o : Outcome). after ++ o.effects) e)

        there : is_thread (run_exit t x (state_of parts)).after t ≡ true
        there = same_case t (state_of parts) t x.call ∙ h.lives

        pub marks_left : marks_in (state_of new) t ≡ left
        marks_left = ap (λ s. marks_in s t) came_so.0 ∙ marks_now t left (run_exit t x (state_of parts)).after there

        rest : all (state_of new) ≡ for_each (run_exit t) (todo left) (with_marks_of (run_exit t x (state_of parts)).after t kept)
        rest = ap (λ ms. for_each (run_exit t) (todo ms) (with_marks_of (state_of new) t kept)) marks_left
            ∙ ap (λ s. for_each (run_exit t) (todo left) (with_marks_of s t kept)) came_so.0
            ∙ ap (λ s. for_each (run_exit t) (todo left) s) (marked_again t kept (run_exit t x (state_of parts)).after left)

        pub unwinds_on : Unwinding Fits start before new now
        unwinds_on = record {
          lawful = nine;
          lives = ap (λ s. is_thread s t) came_so.0 ∙ lives t left (run_exit t x (state_of parts)).after t ∙ there;
          fits = rw marks_left fit;
          dying = came.dying ∙ h.dying;
          state = ap (λ (o : Outcome). o.after) rest ∙ sym (ap (λ (o : Outcome). o.after) turn) ∙ h.state;
          effects = ap (λ es. es ++ (all (state_of new)).effects) came_so.1
              ∙ append_assoc after (run_exit t x (state_of parts)).effects (all (state_of new)).effects
              ∙ ap (λ (o : Outcome). after ++ ((run_exit t x (state_of parts)).effects ++ o.effects)) rest
              ∙ ap (λ es. after ++ es) (sym (ap (λ (o : Outcome). o.effects) turn)) ∙ h.effects;
          room = omega
              (arith, exit_room, ap length came_so.1, length-append after (run_exit t x (state_of parts)).effects, ap (λ (o : Outcome). length o.effects) rest);
        }

    -- none is left
    pub unwinds_over : todo (marks_in (state_of parts) t) ≡ [] → left ≡ kept → CameTo start popped before after (all (state_of start))
    unfolding for_each
    unwinds_over none last =
        let done = ap (λ xs. for_each (run_exit t) xs (with_marks_of (state_of parts) t kept)) none in
        record {
          state = stacked-is parts t left ∙ ap (with_marks_of (state_of parts) t) last ∙ sym (ap (λ (o : Outcome). o.after) done) ∙ h.state;
          effects = sym (append-nil after) ∙ ap (λ es. after ++ es) (sym (ap (λ (o : Outcome). o.effects) done)) ∙ h.effects;
          step = InStep-stacked parts t left h.lawful.step;
          dying = h.dying;
        }

-- an exit procedure tells its result
pub told : (t : ℕ) (x : ExitMark) (s : State) → 1 ≤ length (run_exit t x s).effects
told t x s = omega (arith, length-append (exit_case s t x.call).others (effect.Exited t x.reg x.call (unwrap_or (exit_case s t x.call).own zero_answer) ∷ []))

-- what lies below the last exit is fewer marks
pub below_fewer : (ms : List Mark) → Fewer (below_last_exit ms) ms
below_fewer [] p = omega arith
below_fewer (m ∷ ms) p = by_test (list_any is_exit ms) (below_fewer ms p)
  where
    by_test : (c : Bool) → count_by p (below_last_exit ms) ≤ count_by p ms → count_by p (cond c (m ∷ below_last_exit ms) []) ≤ count_by p (m ∷ ms)
    by_test true rest = omega (arith, rest, count-cons p m ms, count-cons p m (below_last_exit ms))
    by_test false rest = omega arith

-- of an unwinding of the whole stack

given : {A : Type 0} (o : Option A) (x : A) (rest all : List A) → o ≡ Some x → all ≡ option_to_list o ++ rest → all ≡ x ∷ rest
given o x rest all is e = e ∙ ap (λ p. option_to_list p ++ rest) is

module _ (t : ℕ) (start : Parts) (before : List Effect) (parts : Parts) (after : List Effect) (dying : start.dying ≡ Some t)
    (h : Unwinding t exits_of [] (λ ms. Unit {0}) start before parts after) (rising : AreRising parts.ids.live) where
  abbrev stack : List Mark
  stack = stack_of t parts.ids.live

  abbrev left : List Mark
  left = (unwound_all stack).left

  abbrev lighter : Parts
  lighter = popped t exits_of [] (λ ms. Unit {0}) start before parts after h left

  same : marks_in (state_of parts) t ≡ stack
  same = marks-are parts t rising

  module _ (o : Option ExitMark) (steps : UnwindsAll stack left o) where
    module _ (x : ExitMark) (is : o ≡ Some x) where
      shorter : length left < length stack
      shorter = rw is at steps.shrinks

      first : exits_of (marks_in (state_of parts) t) ≡ x ∷ exits_of left
      first = ap exits_of same ∙ given o x (exits_of left) (exits_of stack) is steps.next

      pub all_lawful : LawfulParts lighter
      all_lawful = popped_lawful t exits_of [] (λ ms. Unit {0}) start before parts after h left (rw same (below_fewer stack))
          (ap (λ d. is_same_option d t || has_its_marks left) (h.dying ∙ dying) ∙ or_left (eqb t t) _ (eq-eqb t t refl))

      pub all_room : length after + 2 ≤ 2048
      all_room = omega (arith, exit_room t exits_of [] (λ ms. Unit {0}) start before parts after h left x first, told t x (state_of parts))

      module _ (new : Parts) (now : List Effect) (came : CameTo lighter new after now (run_exit t x (state_of lighter))) (nine : LawfulParts new) where
        pub all_fewer : length (marks_in (state_of new) t) < length (marks_in (state_of parts) t)
        all_fewer = omega
            (arith, shorter, ap length same, ap length (marks_left t exits_of [] (λ ms. Unit {0}) start before parts after h left x first new now came nine tt))

        pub all_on : Unwinding t exits_of [] (λ ms. Unit {0}) start before new now
        all_on = unwinds_on t exits_of [] (λ ms. Unit {0}) start before parts after h left x first new now came nine tt

    pub all_over : o ≡ None → CameTo start lighter before after (run_all_exits t (state_of start))
    all_over is = unwinds_over t exits_of [] (λ ms. Unit {0}) start before parts after h left
        (ap exits_of same ∙ (rw is at steps.next) ∙ none) (rw is at steps.rest)
      where
        none : exits_of left ≡ []
        none = ap exits_of (let e : left ≡ [] = (rw is at steps.rest) in e)
