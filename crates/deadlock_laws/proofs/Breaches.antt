-- A step in which nobody dies and no monitor is broken leaves each cycle, also where frames go or an agent ends.
use Rattle.deadlock_laws.proofs.Cycles.{has_next, next_goes, none_at_all, round_lasts}
use Rattle.deadlock_laws.proofs.Deliveries.{no_agent}
use Rattle.deadlock_laws.proofs.Frames.{Framed, framed_end, framed_still, framed_then, framed_unless, letter_left}
use Rattle.deadlock_laws.proofs.Frames.{mapped_lists, next_framed, same_lists, same_threads}
use Rattle.deadlock_laws.proofs.Lasting.{Waiter, blocked_by, calm_case, waiter_row}
use Rattle.deadlock_laws.proofs.Loosening.{broadcast_framed, monitor_exit_framed, notify_framed, reply_framed}
use Rattle.deadlock_laws.proofs.Posting.{each_freed, freed}
use Rattle.deadlock_laws.proofs.Staying.{blocked_row, not_the_caller}
use Rattle.deadlock_laws.specs.Deadlocks.{OnlyBreachesBreak, is_breach, is_break, is_exit_break}
use Rattle.deadlock_laws.specs.Freeing.{can_break}
use Rattle.lwp_types.specs.Agents.{after_agent_end, end_agent}
use Rattle.lwp_types.specs.Case.{Case, Check, refusal_case, silent_case, unless, with_zero}
use Rattle.lwp_types.specs.Choice.{choice}
use Rattle.lwp_types.specs.Counts.{has_its_marks}
use Rattle.lwp_types.specs.Death.{death, destroy_case}
use Rattle.lwp_types.specs.Exceptions.{caught_marks, exits_of, first_frames, frames, handler_in, handler_of, later_frames, with_match}
use Rattle.lwp_types.specs.Exits.{catch_case, excnotify_case_by, exit_case, leave_frame, run_exit, unwind}
use Rattle.lwp_types.specs.Lawful.{Lawful, NineParts, is_same_option}
use Rattle.lwp_types.specs.Messages.{awaits, receivers_of}
use Rattle.lwp_types.specs.State.{State, ThreadRow, and_then, for_each, is_agent, is_blocked_in, is_number, marks_in}
use Rattle.lwp_types.specs.State.{numbers, row_with_marks, row_with_suspension, thread_of, with_marks_of}
use Rattle.lwp_types.specs.Step.{case_of, end_effects, ends, own_effects, step, step_by, step_if}
use Rattle.lwp_types.specs.Unblock.{nonexist, unblock}
use Rattle.lwp_types.specs.CountLaws.{any_counted, one}
use Rattle.lwp_types.specs.declared.call.Call.{Call}
use Rattle.lwp_types.specs.declared.call.Effect.{Effect}
use Rattle.lwp_types.specs.declared.call.ExitCall.{ExitCall}
use Rattle.lwp_types.specs.declared.call.Func.{Func}
use Rattle.lwp_types.specs.declared.rows.Block.{Block}
use Rattle.lwp_types.specs.declared.rows.ExitMark.{ExitMark}
use Rattle.lwp_types.specs.declared.rows.Found.{Found}
use Rattle.lwp_types.specs.declared.rows.Mark.{Mark}
use Rattle.pod_laws.proofs.Chosen.{chosen}
use Rattle.pod_laws.proofs.Died.{death_died}
use Rattle.pod_laws.proofs.Elements.{all_filter, all_found, differ, not_of}
use Rattle.pod_laws.proofs.ExitCalls.{run_exit_keeps}
use Rattle.pod_laws.proofs.MarkLists.{caught_based, caught_fewer, first_based, first_fewer, found_deep, stack_fewer, stack_from}
use Rattle.pod_laws.proofs.MarkMoves.{NineParts-fewer}
use Rattle.pod_laws.proofs.Rowed.{once_threads}
use Rattle.pod_laws.proofs.Rows.{known_all, number_known}
use Rattle.pod_laws.specs.Forgotten.{is_died}
use Rattle.state_text.specs.Waiting.{awaited_by, next_of}
use Rattle.std.proofs.Common.{Bool, List, None, Option, Some, [], ap, arith, cond, eqb, false, length, not}
use Rattle.std.proofs.Common.{refl, sym, true, ℕ, ◌&&◌, ◌++◌, ◌-◌, ◌||◌, ◌∙◌, ◌∷◌, ◌≡◌, ◌≢◌, ◌≤◌}
use Rattle.std.proofs.lemmas.Bool.{and_from, and_parts, eq-eqb, eqb-true, leb-true, or_parts}
use Rattle.std.proofs.lemmas.List.Folds.{list_any-append}
use Rattle.std.proofs.lemmas.Option.{none-some}
use Rattle.std.specs.List.{filter, list_all, list_any}
use Rattle.std.specs.Prelude.{is_some, nat_le}
use Rattle.lwp_types.specs.declared.call.Call.TheVariants as call
use Rattle.lwp_types.specs.declared.call.Effect.TheVariants as effect
use Rattle.lwp_types.specs.declared.call.ExitCall.TheVariants as exit
use Rattle.lwp_types.specs.declared.call.Func.TheVariants as func
use Rattle.lwp_types.specs.declared.rows.Block.TheVariants as block

-- effects without a breach
abbrev Calm : List Effect → Type 0
Calm es = list_any is_breach es ≡ false

calm_both : (es fs : List Effect) → Calm (es ++ fs) → Calm es × Calm fs
calm_both es fs calm = or_parts (list_any is_breach es) (list_any is_breach fs) (sym (list_any-append is_breach es fs) ∙ calm)

-- a death is a breach
died_breach : (u : ℕ) (e : Effect) → is_died u e ≡ true → is_breach e ≡ true
died_breach u (effect.Died t) is = refl
died_breach u _ is = differ (sym is)

any_weaker : {X : Type 0} (p q : X → Bool) → ((x : X) → p x ≡ true → q x ≡ true) → (xs : List X) → list_any p xs ≡ true → list_any q xs ≡ true
any_weaker p q imp [] some = some
any_weaker p q imp (x ∷ xs) some = by_head (p x) refl (q x) refl some (any_weaker p q imp xs)
  where
    by_head : (b : Bool) → p x ≡ b → (c : Bool) → q x ≡ c → (b || list_any p xs) ≡ true → (list_any p xs ≡ true → list_any q xs ≡ true)
        → (c || list_any q xs) ≡ true
    by_head b e true f some rest = refl
    by_head true e false f some rest = differ (sym (imp x e) ∙ f)
    by_head false e false f some rest = rest some

deaths_tell : {A : Type 0} (u : ℕ) (s : State) → Calm (death u s).effects → A
deaths_tell u s calm = differ (sym (any_weaker (is_died u) is_breach (died_breach u) (death u s).effects
    (any_counted (is_died u) (death u s).effects (omega (arith, death_died u u s, ap one (eq-eqb u u refl))))) ∙ calm)

all_numbers : (h : ℕ) (rows : List ThreadRow) → list_all (λ row. not (is_number h row)) rows ≡ true → list_all (λ n. not (eqb n h)) (numbers rows) ≡ true
all_numbers h [] all = refl
all_numbers h (row ∷ rows) all =
    let parts = and_parts _ _ all in
    and_from _ _ parts.0 (all_numbers h rows parts.1)

-- a refusal tells of nothing; else the checks were passed
calm_unless : (h v : ℕ) (s : State) (checks : List Check) (otherwise : Case) → Calm (unless s checks otherwise).others
    → (Calm otherwise.others → Framed h v s otherwise.after) → Framed h v s (unless s checks otherwise).after
unfolding unless
calm_unless h v s [] otherwise calm fine = fine calm
calm_unless h v s (check ∷ checks) otherwise calm fine = by_test check.0 calm (λ rest. calm_unless h v s checks otherwise rest fine)
  where
    by_test : (b : Bool) → Calm (cond b (refusal_case s check.1) (unless s checks otherwise)).others
        → (Calm (unless s checks otherwise).others → Framed h v s (unless s checks otherwise).after)
        → Framed h v s (cond b (refusal_case s check.1) (unless s checks otherwise)).after
    by_test true calm rest = framed_still h v s
    by_test false calm rest = rest calm

module _ (t h v : ℕ) (other : h ≢ t) (apart : v ≢ t) where
  -- an exit procedure that breaks no monitor
  exit_framed : (now : State) → NineParts now None → Waiter now h v → (x : ExitCall) → is_exit_break x ≡ false → Framed h v now (exit_case now t x).after
  exit_framed now was its (exit.MonExit m) calm = monitor_exit_framed now was t h v its.row its.known its.waits other apart m
  exit_framed now was its (exit.MonBreak m) calm = differ calm
  exit_framed now was its (exit.Notify c) calm = notify_framed now was t h v its.row its.known its.waits other apart c
  exit_framed now was its (exit.Broadcast c) calm = broadcast_framed now was t h v its.row its.known its.waits other apart c
  exit_framed now was its (exit.Reply to text) calm = reply_framed now was t h v its.row its.known its.waits other apart to text
  exit_framed now was its (exit.Resume u) calm =
      framed_unless h v now _ _ (λ passed. mapped_lists h v now _ (row_with_suspension u false) (λ r. refl) (λ r e. refl) refl refl refl)
  exit_framed now was its (exit.SetExit code) calm = framed_unless h v now _ _ (λ passed. same_lists h v now _ refl refl refl)
  exit_framed now was its (exit.Note text) calm = framed_still h v now

  -- one after the other
  exits_framed : (xs : List ExitMark) (now : State) → NineParts now None → next_of now h ≡ Some v → Calm (for_each (run_exit t) xs now).effects
      → Framed h v now (for_each (run_exit t) xs now).after
  unfolding for_each and_then
  exits_framed [] now was waits calm = framed_still h v now
  exits_framed (x ∷ xs) now was waits calm =
      let parts = calm_both (run_exit t x now).effects (for_each (run_exit t) xs (run_exit t x now).after).effects calm in
      let own = calm_both (exit_case now t x.call).others _ parts.0 in
      let framed = exit_framed now was (waiter_row now h v waits) x.call (or_parts (is_exit_break x.call) false own.1).0 in
      let middle = (exit_case now t x.call).after in
      framed_then h v now middle _ framed
      (exits_framed xs middle (run_exit_keeps None t x now was) (next_framed h v now middle framed waits) parts.1)

  module _ (s : State) (was : NineParts s None) (waits : next_of s h ≡ Some v) where
    -- frames go
    unwound : (kept gone : List Mark) → NineParts (with_marks_of s t kept) None → Calm (unwind t kept gone s).effects
        → Framed h v s (unwind t kept gone s).after
    unwound kept gone fine calm =
        let cut = with_marks_of s t kept in
        let framed = mapped_lists h v s cut (row_with_marks t kept) (λ r. refl) (λ r e. refl) refl refl refl in
        framed_then h v s cut _ framed (exits_framed (exits_of gone) cut fine (next_framed h v s cut framed waits) calm)

    module _ (x : ThreadRow) (known : thread_of s t ≡ Some x) where
      stack : has_its_marks x.marks ≡ true
      stack = all_found (is_number t) (λ row. is_same_option None row.number || has_its_marks row.marks) s.threads x was.marks known

      left : 2 ≤ frames x.marks → Calm (leave_frame s t).others → Framed h v s (leave_frame s t).after
      left more = rw known (unwound (first_frames (frames x.marks - 1) x.marks) (later_frames (frames x.marks - 1) x.marks)
          (NineParts-fewer s None was t x known (first_frames (frames x.marks - 1) x.marks)
          (stack_fewer x.marks (first_frames (frames x.marks - 1) x.marks) (first_fewer (frames x.marks - 1) x.marks)
          (first_based (frames x.marks - 1) x.marks (omega (arith, more)) (stack_from x.marks stack).based) stack)
          (first_fewer (frames x.marks - 1) x.marks)))

      caught : (p : ℕ) (f : Found) → handler_in p x.marks ≡ Some f → Calm (catch_case s t p f).others → Framed h v s (catch_case s t p f).after
      caught p f e = rw known (unwound (caught_marks f x.marks) (later_frames f.depth x.marks)
          (NineParts-fewer s None was t x known (caught_marks f x.marks)
          (stack_fewer x.marks (caught_marks f x.marks) (caught_fewer f x.marks)
          (caught_based f x.marks (found_deep p x.marks f (stack_from x.marks stack).based e) (stack_from x.marks stack).based) stack)
          (caught_fewer f x.marks)))

      searched : (p : ℕ) (on_match : Found → Case) → ((f : Found) → handler_in p x.marks ≡ Some f → Calm (on_match f).others → Framed h v s (on_match f).after)
          → Calm (with_match s on_match (handler_of s t p)).others → Framed h v s (with_match s on_match (handler_of s t p)).after
      searched p on_match fine = rw known (by_found (handler_in p x.marks) refl)
        where
          by_found : (o : Option Found) → handler_in p x.marks ≡ o → Calm (with_match s on_match o).others → Framed h v s (with_match s on_match o).after
          by_found None e calm = framed_still h v s
          by_found (Some f) e calm = fine f e calm

      notified : (p : ℕ) (f : Found) → handler_in p x.marks ≡ Some f → (g : Func) → Calm (excnotify_case_by s t p f g).others
          → Framed h v s (excnotify_case_by s t p f g).after
      notified p f e func.Give calm = framed_still h v s
      notified p f e func.Sum calm = framed_still h v s
      notified p f e func.Nothing calm = caught p f e calm

    -- an agent ends

    awaited_thread : (a : ℕ) (b : Block) → awaited_by s h b ≡ Some v → awaits a b ≡ true → v ≡ a
    awaited_thread a block.Not e is = differ (sym is)
    awaited_thread a (block.Joining u) e is = differ (sym is)
    awaited_thread a block.Sending e is = differ (sym is)
    awaited_thread a (block.Receiving None) e is = differ (sym is)
    awaited_thread a (block.Receiving (Some y)) e is = by_thread (is_some (thread_of s y)) e
      where
        by_thread : (b : Bool) → cond b (Some y) None ≡ Some v → v ≡ a
        by_thread true e =
            let same : y ≡ v = cc in
            sym same ∙ eqb-true y a is
        by_thread false e = absurd (none-some v e)
    awaited_thread a (block.Entering m) e is = differ (sym is)
    awaited_thread a (block.Waiting c) e is = differ (sym is)
    awaited_thread a block.Sleeping e is = differ (sym is)

    receivers_apart : (a : ℕ) → v ≢ a → list_all (λ n. not (eqb n h)) (receivers_of s a) ≡ true
    receivers_apart a away = all_numbers h (filter (λ row. awaits a row.block) s.threads)
        (all_filter (λ row. not (is_number h row && awaits a row.block)) (λ row. not (is_number h row)) (λ row. awaits a row.block)
        (λ row here e. left_of (is_number h row) (awaits a row.block) here e) s.threads
        (known_all (λ row. not (is_number h row && awaits a row.block)) s.threads (once_threads s None was)
        (λ n row found. not_of _ (by_both (is_number h row && awaits a row.block) n row found refl))))
      where
        left_of : (b c : Bool) → c ≡ true → not (b && c) ≡ true → not b ≡ true
        left_of true true e f = f
        left_of true false e f = differ (sym e)
        left_of false c e f = refl

        by_both : (b : Bool) (n : ℕ) (row : ThreadRow) → thread_of s n ≡ Some row → (is_number h row && awaits a row.block) ≡ b → b ≡ false
        by_both false n row found e = refl
        by_both true n row found e =
            let both = and_parts (is_number h row) (awaits a row.block) e in
            let its = waiter_row s h v waits in
            let at : n ≡ h = sym (number_known s.threads n row found) ∙ eqb-true row.number h both.0 in
            let rows : Some row ≡ Some its.row = sym found ∙ ap (thread_of s) at ∙ its.known in
            let same : row ≡ its.row = cc in
            absurd (away (awaited_thread a its.row.block its.waits (ap (λ (r : ThreadRow). awaits a r.block) (sym same) ∙ both.1)))

    agent_ended : (a : ℕ) → v ≢ a → h ≢ a → Framed h v s (end_agent a s).after
    unfolding and_then
    agent_ended a away own =
        let woke = for_each (unblock nonexist) (receivers_of s a) s in
        framed_then h v s woke.after _
        (each_freed h v (unblock nonexist) (λ u now apart. freed h v now _ u apart refl (λ e. e) (λ m e. e)) (receivers_of s a) (receivers_apart a away) s)
        (same_threads h v woke.after (after_agent_end a woke.after) refl (λ e. letter_left a woke.after.letters h own ∙ e) (λ m e. e))

-- the calls that can break a cycle, where they break none
module _ (s : State) (was : Lawful s None) (t h v : ℕ) (other : h ≢ t) (apart : v ≢ t) (waits : next_of s h ≡ Some v) (blocked : is_blocked_in s v ≡ true)
    (x : ThreadRow) (known : thread_of s t ≡ Some x) where
  no_agent_is : (n : ℕ) (row : ThreadRow) → thread_of s n ≡ Some row → (u : ℕ) → is_agent s u ≡ true → n ≢ u
  no_agent_is n row found u agent same = differ (sym agent ∙ ap (is_agent s) (sym same) ∙ no_agent s was n row found)

  destroyed : (u : ℕ) → Calm (destroy_case s t u).others → Framed h v s (destroy_case s t u).after
  destroyed u = by_agent (is_agent s u) refl
    where
      by_own : (b : Bool) → Calm (cond b (silent_case (death u s)) (with_zero (death u s))).others
          → Framed h v s (cond b (silent_case (death u s)) (with_zero (death u s))).after
      by_own true calm = deaths_tell u s calm
      by_own false calm = deaths_tell u s calm

      by_agent : (b : Bool) → is_agent s u ≡ b
          → Calm (cond b (with_zero (end_agent u s)) (cond (eqb t u) (silent_case (death u s)) (with_zero (death u s)))).others
          → Framed h v s (cond b (with_zero (end_agent u s)) (cond (eqb t u) (silent_case (death u s)) (with_zero (death u s)))).after
      by_agent true e calm =
          let its = waiter_row s h v waits in
          let to = blocked_row s v blocked in
          agent_ended t h v other apart s was.nine waits u (no_agent_is v to.row to.known u e) (no_agent_is h its.row its.known u e)
      by_agent false e calm = by_own (eqb t u) calm

  returned : Calm (cond (nat_le 2 (frames (marks_in s t))) (leave_frame s t) (silent_case (death t s))).others
      → Framed h v s (cond (nat_le 2 (frames (marks_in s t))) (leave_frame s t) (silent_case (death t s))).after
  returned = by_frames (nat_le 2 (frames (marks_in s t))) refl
    where
      marks : marks_in s t ≡ x.marks
      marks = rw known refl

      by_frames : (b : Bool) → nat_le 2 (frames (marks_in s t)) ≡ b → Calm (cond b (leave_frame s t) (silent_case (death t s))).others
          → Framed h v s (cond b (leave_frame s t) (silent_case (death t s))).after
      by_frames true e calm = left t h v other apart s was.nine waits x known
          (leb-true 2 (frames x.marks) (sym (ap (λ ms. nat_le 2 (frames ms)) marks) ∙ e)) calm
      by_frames false e calm = deaths_tell t s calm

  breaking_case : (c : Call) → can_break c ≡ true → is_break c ≡ false → Calm (case_of s t c).others → Framed h v s (case_of s t c).after
  breaking_case (call.Destroy u) breaks whole calm = calm_unless h v s _ _ calm (destroyed u)
  breaking_case call.Return breaks whole calm = returned calm
  breaking_case (call.Raise p) breaks whole calm = calm_unless h v s _ _ calm
      (searched t h v other apart s was.nine waits x known p (catch_case s t p) (λ f e fine. caught t h v other apart s was.nine waits x known p f e fine))
  breaking_case (call.ExcNotify p) breaks whole calm = calm_unless h v s _ _ calm (searched t h v other apart s was.nine waits x known p
      (λ f. excnotify_case_by s t p f f.func) (λ f e fine. notified t h v other apart s was.nine waits x known p f e f.func fine))
  breaking_case (call.MonBreak m) breaks whole calm = differ whole
  breaking_case _ breaks whole calm = differ (sym breaks)

  whole_case : (c : Call) → is_break c ≡ false → Calm (case_of s t c).others → Framed h v s (case_of s t c).after
  whole_case c whole calm = by_break (can_break c) refl
    where
      by_break : (b : Bool) → can_break c ≡ b → Framed h v s (case_of s t c).after
      by_break true e = breaking_case c e whole calm
      by_break false e =
          let its = waiter_row s h v waits in
          calm_case s was.nine t h v its.row its.known its.waits other apart c e

whole_framed : (s : State) → Lawful s None → (c : Call) → Calm (step s c).effects → (h v : ℕ) → next_of s h ≡ Some v → is_blocked_in s v ≡ true
    → Framed h v s (step s c).after
unfolding step step_by
whole_framed s was c calm h v waits blocked = by_choice (choice s) refl calm
  where
    by_choice : (o : Option ℕ) → choice s ≡ o → Calm (step_if s c o).effects → Framed h v s (step_if s c o).after
    by_choice None e calm = framed_still h v s
    by_choice (Some t) e calm =
        let made = case_of s t c in
        let run = chosen s was.nine t e in
        let its = waiter_row s h v waits in
        let to = blocked_row s v blocked in
        let parts = or_parts (is_break c) (list_any is_breach (made.others ++ (own_effects t made.own ++ end_effects made.after))) calm in
        framed_end h v s made.after (ends made.after) (whole_case s was t h v
        (not_the_caller s t h run.row its.row run.known run.eligible its.known its.blocked)
        (not_the_caller s t v run.row to.row run.known run.eligible to.known to.waits) waits blocked run.row run.known c parts.0
        (calm_both made.others (own_effects t made.own ++ end_effects made.after) parts.1).0)

pub only_breaches_break : OnlyBreachesBreak
only_breaches_break s was c calm t us is =
    let first = has_next (next_of s) t (length s.threads) t us is in
    let second = next_goes (next_of s) t (length s.threads) t us first is first.to first.is in
    let framed = whole_framed s was c calm t first.to first.is (blocked_by s first.to second.to second.is) in
    round_lasts (next_of s) t (next_of (step s c).after) first (λ u. false)
    (λ h v w calm_here waits goes_on. next_framed h v s (step s c).after (whole_framed s was c calm h v waits (blocked_by s v w goes_on)) waits)
    (length s.threads) (length (step s c).after.threads) framed.more t us is (none_at_all us)
