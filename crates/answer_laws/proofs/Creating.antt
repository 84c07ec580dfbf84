-- A thread that a Create bears, as a step of a session tells of it.
use Rattle.answer_laws.specs.Served.{IsPolledWith, polled_with}
use Rattle.answer_laws.proofs.Others.{deliveries_leave_it}
use Rattle.answer_laws.proofs.Openings.{lawful_called}
use Rattle.answer_laws.proofs.OwnSteps.{alive_seen, event_is}
use Rattle.answer_laws.proofs.Phases.{resting}
use Rattle.answer_laws.proofs.PodSteps.{tame_deliver}
use Rattle.answer_laws.proofs.Events.{rites_same}
use Rattle.answer_laws.proofs.Servings.{alive_then, rests_untimed}
use Rattle.answer_laws.proofs.StoreSteps.{Checked, Checked.Free, Checked.Struck, checked}
use Rattle.answer_laws.proofs.TalkSteps.{attends_seen, either_of, unborn_absent, unsome}
use Rattle.answer_laws.proofs.TalkTexts.{unborn_silent}
use Rattle.answer_laws.proofs.ThreadRows.{settled_with}
use Rattle.answer_laws.specs.Births.{born_in, is_named}
use Rattle.answer_laws.specs.Sights.{IsDelivered, IsLeft, IsWoken, Sight, sight, sight_by}
use Rattle.answer_laws.specs.Stands.{last_heard}
use Rattle.lwp_types.specs.Agents.{deliver, deliver_to, event_agents, is_event_armed}
use Rattle.lwp_types.specs.declared.rows.AgentRow.{AgentRow}
use Rattle.lwp_types.specs.Case.{Case, answer_case, is_at_limit, is_full, is_no_priority, refusal_case}
use Rattle.lwp_types.specs.Choice.{choice}
use Rattle.lwp_types.specs.CountLaws.{count-append}
use Rattle.lwp_types.specs.Lawful.{Lawful}
use Rattle.lwp_types.specs.State.{Outcome, State, ThreadRow, and_then, for_each, is_agent, is_number, is_thread, passes, thread_of}
use Rattle.lwp_types.specs.Step.{case_of, end_effects, ends, own_effects, step, step_by, step_if, step_outcome}
use Rattle.lwp_types.specs.Threads.{after_create, new_thread}
use Rattle.lwp_types.specs.Unblock.{zero_answer}
use Rattle.lwp_types.specs.declared.call.Answer.{Answer}
use Rattle.lwp_types.specs.declared.call.Call.{Call}
use Rattle.lwp_types.specs.declared.call.Effect.{Effect}
use Rattle.lwp_types.specs.declared.call.Flags.{Flags}
use Rattle.lwp_types.specs.declared.call.LwpErr.{LwpErr}
use Rattle.pod_events.proofs.MildCalls.{case_toll, is_tame}
use Rattle.pod_events.specs.Events.{EventState, after_pass_on, after_take_trap, is_trapped, rites_event, take_event}
use Rattle.pod_events.specs.Rites.{after_first_report, as_rites, report_text, reports_after, after_rites}
use Rattle.pod_events.specs.Step.{event_step}
use Rattle.pod_events.specs.Traps.{after_call as traps_made, after_call_as, after_machine_step, after_trap, after_trap_and_call as traps_called}
use Rattle.pod_events.specs.Traps.{agent_event_of, but_call, is_catch, is_given, notice, after_refusal, trap_of, trap_refusal}
use Rattle.pod_laws.proofs.Elements.{find_push_new}
use Rattle.pod_laws.specs.Forgotten.{is_died}
use Rattle.pod_runner.specs.Session.{after_answer as rows_answered, after_settle, after_settle_by, proc_of}
use Rattle.pod_runner.specs.Session.{row_of, rows_of_new, rows_born, thread_in, with_row, without_row}
use Rattle.pod_runner.specs.declared.session.Row.{Row}
use Rattle.session_laws.proofs.Pods.{call_moved}
use Rattle.std.proofs.Common.{Bool, List, None, Option, Some, [], ap, append-nil, arith, cond, count_by, drop, eqb}
use Rattle.std.proofs.Common.{false, inl, inr, refl, subst, sym, true, ℕ, ◌++◌, ◌∙◌, ◌∷◌, ◌≡◌, ◌≤◌, ◌⊎◌}
use Rattle.std.proofs.lemmas.Bool.{eq-eqb, eqb-true}
use Rattle.std.specs.List.{list_all}
use Rattle.std.specs.Prelude.{is_some, map, nat_le, slice_get, option_map}
use Rattle.lwp_types.specs.declared.call.Answer.TheVariants as answer
use Rattle.lwp_types.specs.declared.call.Call.TheVariants as call
use Rattle.lwp_types.specs.declared.call.Effect.TheVariants as effect
use Rattle.lwp_types.specs.declared.call.LwpErr.TheVariants as error
use Rattle.lwp_types.specs.declared.rows.Block.TheVariants as block

-- whether it is a Create
data Creates (c : Call) : Type 0 where
  IsCreate : (number prio : ℕ) (flags : Flags) → c ≡ call.Create number prio flags → Creates c
  IsNone : proc_of c ≡ None → Creates c

creates_of : (c : Call) → Creates c
creates_of (call.Create number prio flags) = IsCreate number prio flags refl
creates_of _ = IsNone refl

-- ---- rows of others

module _ {B : Type 0} (u : ℕ) where
  none_head : (r : Row B) (rs : List (Row B)) → row_of u (r ∷ rs) ≡ None → (eqb r.tid u ≡ false) × (row_of u rs ≡ None)
  none_head r rs none = by_test (eqb r.tid u) refl none
    where
      by_test : (b : Bool) → eqb r.tid u ≡ b → cond b (Some r) (row_of u rs) ≡ None → (b ≡ false) × (row_of u rs ≡ None)
      by_test true e n = absurd (cc)
      by_test false e n = (refl, n)

  none_cons : (r : Row B) (rs : List (Row B)) → eqb r.tid u ≡ false → row_of u rs ≡ None → row_of u (r ∷ rs) ≡ None
  none_cons r rs e none = ap (λ b. cond b (Some r) (row_of u rs)) e ∙ none

  pub none_with : (t : ℕ) (change : Row B → Row B) → ((r : Row B) → (change r).tid ≡ r.tid) → (rows : List (Row B)) → row_of u rows ≡ None
      → row_of u (with_row t change rows) ≡ None
  none_with t change keeps [] none = refl
  none_with t change keeps (r ∷ rs) none = let parts = none_head r rs none in by_test (eqb r.tid t) parts (none_with t change keeps rs parts.1)
    where
      by_test : (b : Bool) → (eqb r.tid u ≡ false) × (row_of u rs ≡ None) → row_of u (with_row t change rs) ≡ None
          → row_of u (cond b (change r ∷ rs) (r ∷ with_row t change rs)) ≡ None
      by_test true parts rest = none_cons (change r) rs (ap (λ n. eqb n u) (keeps r) ∙ parts.0) parts.1
      by_test false parts rest = none_cons r (with_row t change rs) parts.0 rest

  none_without : (t : ℕ) (rows : List (Row B)) → row_of u rows ≡ None → row_of u (without_row t rows) ≡ None
  none_without t [] none = refl
  none_without t (r ∷ rs) none = let parts = none_head r rs none in by_test (eqb r.tid t) parts (none_without t rs parts.1)
    where
      by_test : (b : Bool) → (eqb r.tid u ≡ false) × (row_of u rs ≡ None) → row_of u (without_row t rs) ≡ None
          → row_of u (cond b rs (r ∷ without_row t rs)) ≡ None
      by_test true parts rest = parts.1
      by_test false parts rest = none_cons r (without_row t rs) parts.0 rest

  none_append : (xs ys : List (Row B)) → row_of u xs ≡ None → row_of u (xs ++ ys) ≡ row_of u ys
  none_append [] ys none = refl
  none_append (r ∷ rs) ys none = let parts = none_head r rs none in ap (λ b. cond b (Some r) (row_of u (rs ++ ys))) parts.0 ∙ none_append rs ys parts.1

  pub none_opened : (v number : ℕ) (o : Option B) → eqb v u ≡ false → row_of u (rows_of_new v number o) ≡ None
  none_opened v number None e = refl
  none_opened v number (Some body) e =
      ap (λ b. cond b (Some (record { tid = v; proc = number; body = body; answer = zero_answer; called = false; call = call.Return })) None) e

  none_born : (bodies : List B) (born : Option ℕ) (o : Option ℕ) → passes (λ b. eqb b u) o ≡ false → row_of u (rows_born bodies born o) ≡ None
  none_born bodies None None e = refl
  none_born bodies None (Some v) e = refl
  none_born bodies (Some number) None e = refl
  none_born bodies (Some number) (Some v) e = none_opened v number (slice_get bodies number) e

  -- who isn't named gets no row
  pub none_settled : (bodies : List B) (born : Option ℕ) (es : List Effect) (rows : List (Row B)) → row_of u rows ≡ None
      → is_named u es ≡ false → row_of u (after_settle bodies born es rows) ≡ None
  none_settled bodies born [] rows none unnamed = none
  none_settled bodies born (effect.Answered t a ∷ es) rows none unnamed =
      let parts = either_of (passes (λ b. eqb b u) (thread_in a)) (is_named u es) unnamed in
      let kept = none_with t (λ row. record row { answer = a }) (λ r. refl) rows none in
      none_settled bodies born es (rows_answered t a rows ++ rows_born bodies born (thread_in a))
      (none_append (rows_answered t a rows) (rows_born bodies born (thread_in a)) kept ∙ none_born bodies born (thread_in a) parts.0) parts.1
  none_settled bodies born (effect.Died t ∷ es) rows none unnamed = none_settled bodies born es (without_row t rows) (none_without t rows none) unnamed
  none_settled bodies born (effect.Called t c ∷ es) rows none unnamed = none_settled bodies born es rows none unnamed
  none_settled bodies born (effect.Exited t reg c x ∷ es) rows none unnamed = none_settled bodies born es rows none unnamed
  none_settled bodies born (effect.Delivered a e ∷ es) rows none unnamed = none_settled bodies born es rows none unnamed
  none_settled bodies born (effect.Ticked now ∷ es) rows none unnamed = none_settled bodies born es rows none unnamed
  none_settled bodies born (effect.Ended status ∷ es) rows none unnamed = none_settled bodies born es rows none unnamed
  none_settled bodies born (effect.Trapped t e ∷ es) rows none unnamed = none_settled bodies born es rows none unnamed
  none_settled bodies born (effect.Rites a d ∷ es) rows none unnamed = none_settled bodies born es rows none unnamed

  settled_append : (bodies : List B) (born : Option ℕ) (xs ys : List Effect) (rows : List (Row B))
      → after_settle bodies born (xs ++ ys) rows ≡ after_settle bodies born ys (after_settle bodies born xs rows)
  settled_append bodies born [] ys rows = refl
  settled_append bodies born (x ∷ xs) ys rows = settled_append bodies born xs ys (after_settle_by bodies born x rows)

  row_opens : (rows : List (Row B)) (number : ℕ) (body : B) → row_of u rows ≡ None → (o : Option B) → o ≡ Some body
      → IsPolledWith u (rows ++ rows_of_new u number o) body zero_answer
  row_opens rows number body none None e = absurd (cc)
  row_opens rows number body none (Some other) e = ap (option_map polled_with) (none_append rows (rows_of_new u number (Some other)) none
      ∙ ap (λ b. cond b (Some (record { tid = u; proc = number; body = other; answer = zero_answer; called = false; call = call.Return })) None)
      (eq-eqb u u refl))
      ∙ ap (λ x. Some (x, zero_answer)) (same e)
    where
      same : Some other ≡ Some body → other ≡ body
      same e = cc e

-- ---- a step that bears a thread

-- what a step that bears u in procedure p comes to
pub record Bore {B : Type 0} (bodies : List B) (c : Call) (u p : ℕ) (st after : State) (es : List Effect) : Type 0 where
  pub number : st.births ≡ u
  pub proc : proc_of c ≡ Some p
  pub seen : sight after u ≡ resting
  pub rows : (rows : List (Row B)) → row_of u rows ≡ None → (body : B) → slice_get bodies p ≡ Some body
      → IsPolledWith u (after_settle bodies (proc_of c) es rows) body zero_answer

-- what is tame tells of no birth
tame_bears : (u : ℕ) (xs ys : List Effect) → list_all is_tame xs ≡ true → born_in u ys ≡ None → born_in u (xs ++ ys) ≡ None
tame_bears u [] ys tame none = none
tame_bears u (effect.Called t c ∷ xs) ys tame none = absurd (cc)
tame_bears u (effect.Answered t x ∷ xs) ys tame none = refl
tame_bears u (effect.Exited t reg c x ∷ xs) ys tame none = refl
tame_bears u (effect.Died t ∷ xs) ys tame none = refl
tame_bears u (effect.Delivered b e ∷ xs) ys tame none = refl
tame_bears u (effect.Ticked now ∷ xs) ys tame none = refl
tame_bears u (effect.Ended status ∷ xs) ys tame none = absurd (cc)
tame_bears u (effect.Trapped t e ∷ xs) ys tame none = absurd (cc)
tame_bears u (effect.Rites b d ∷ xs) ys tame none = absurd (cc)

rites_bear : (u dead : ℕ) (xs : List Effect) → list_all is_tame xs ≡ true → born_in u (map (as_rites dead) xs) ≡ None
rites_bear u dead [] tame = refl
rites_bear u dead (effect.Called t c ∷ xs) tame = absurd (cc)
rites_bear u dead (effect.Answered t x ∷ xs) tame = refl
rites_bear u dead (effect.Exited t reg c x ∷ xs) tame = refl
rites_bear u dead (effect.Died t ∷ xs) tame = refl
rites_bear u dead (effect.Delivered b e ∷ xs) tame = refl
rites_bear u dead (effect.Ticked now ∷ xs) tame = refl
rites_bear u dead (effect.Ended status ∷ xs) tame = absurd (cc)
rites_bear u dead (effect.Trapped t e ∷ xs) tame = absurd (cc)
rites_bear u dead (effect.Rites b d ∷ xs) tame = absurd (cc)

pub take_bears : (u : ℕ) (es : EventState) (e : ℕ) (text : List ℕ) → born_in u (take_event es e text).effects ≡ None
unfolding take_event
take_bears u es e text = by_trapped (is_trapped es.trapped e)
  where
    by_trapped : (b : Bool) → born_in u (cond b (after_take_trap es e) (after_pass_on es (deliver es.state e text))).effects ≡ None
    by_trapped true = refl
    by_trapped false = ap (born_in u) (sym (append-nil (deliver es.state e text).effects))
        ∙ tame_bears u (deliver es.state e text).effects [] (tame_deliver es.state e text) refl

-- a report begins with its delivery
abbrev is_rites_head : List Effect → Bool
is_rites_head [] = true
is_rites_head (effect.Rites a d ∷ es) = true
is_rites_head (effect.Called t c ∷ es) = false
is_rites_head (effect.Answered t a ∷ es) = false
is_rites_head (effect.Exited t reg c x ∷ es) = false
is_rites_head (effect.Died t ∷ es) = false
is_rites_head (effect.Delivered a e ∷ es) = false
is_rites_head (effect.Ticked now ∷ es) = false
is_rites_head (effect.Ended status ∷ es) = false
is_rites_head (effect.Trapped t e ∷ es) = false

rites_first : (dead : ℕ) (st : State) → is_rites_head (map (as_rites dead) (deliver st rites_event (report_text dead)).effects) ≡ true
unfolding deliver for_each and_then
rites_first dead st = by_rows (event_agents st.agents rites_event)
  where
    by_rows : (rows : List AgentRow) → is_rites_head (map (as_rites dead) (for_each (deliver_to (report_text dead)) rows st).effects) ≡ true
    by_rows [] = refl
    by_rows (row ∷ rows) = refl

not_some : {X : Type 0} {x : X} {o : Option X} {A : Type 0} → o ≡ Some x → o ≡ None → A
not_some {X} {x} {o} {A} e f = absurd (let bad : Some x ≡ None = sym e ∙ f in cc)

module _ {B : Type 0} (bodies : List B) (u p : ℕ) (st : State) (was : Lawful st None) (t : ℕ) (turn : choice st ≡ Some t) (c : Call) where
  abbrev Bears : State → List Effect → Type 0
  Bears after es = born_in u es ≡ Some p → Bore bodies c u p st after es

  none_bears : (after : State) (es : List Effect) → born_in u es ≡ None → Bears after es
  none_bears after es none bears = not_some bears none

  -- without its call a step tells of none
  but_bears : (d : Call) → born_in u (drop 1 (step st d).effects) ≡ None
  unfolding step step_by
  but_bears d = by_choice (choice st)
    where
      own_none : (v : ℕ) (o : Option Answer) (ys : List Effect) → born_in u ys ≡ None → born_in u (own_effects v o ++ ys) ≡ None
      own_none v None ys none = none
      own_none v (Some x) ys none = refl

      end_none : (after : State) (b : Bool) → born_in u (cond b (effect.Ended after.status ∷ []) []) ≡ None
      end_none after true = refl
      end_none after false = refl

      by_choice : (o : Option ℕ) → born_in u (drop 1 (step_if st d o).effects) ≡ None
      by_choice None = refl
      by_choice (Some v) =
          let made = case_of st v d in
          tame_bears u made.others (own_effects v made.own ++ end_effects made.after) (case_toll st v d).tame
          (own_none v made.own (end_effects made.after) (end_none made.after (ends made.after)))

  step_is : step st c ≡ step_outcome t c (case_of st t c)
  unfolding step step_by
  step_is = ap (step_if st c) turn

  called_none : (v : ℕ) (xs : List Effect) → proc_of c ≡ None → born_in u (effect.Called v c ∷ xs) ≡ None
  called_none v [] none = refl
  called_none v (effect.Answered w a ∷ xs) none = by_test (passes (λ b. eqb b u) (thread_in a))
    where
      by_test : (b : Bool) → cond b (proc_of c) None ≡ None
      by_test true = none
      by_test false = refl
  called_none v (effect.Called w d ∷ xs) none = refl
  called_none v (effect.Exited w reg d x ∷ xs) none = refl
  called_none v (effect.Died w ∷ xs) none = refl
  called_none v (effect.Delivered a e ∷ xs) none = refl
  called_none v (effect.Ticked now ∷ xs) none = refl
  called_none v (effect.Ended status ∷ xs) none = refl
  called_none v (effect.Trapped w e ∷ xs) none = refl
  called_none v (effect.Rites a d ∷ xs) none = refl

  -- a Create that is carried out
  create_bears : (prio : ℕ) (flags : Flags) (number : ℕ) → c ≡ call.Create number prio flags
      → born_in u (step_outcome t c (answer_case (after_create st prio flags) (answer.Thread st.births))).effects ≡ Some p
      → Bore bodies c u p st (step_outcome t c (answer_case (after_create st prio flags) (answer.Thread st.births))).after
      (step_outcome t c (answer_case (after_create st prio flags) (answer.Thread st.births))).effects
  create_bears prio flags number is bears = by_number (eqb st.births u) refl bears
    where
      made : Case
      made = answer_case (after_create st prio flags) (answer.Thread st.births)

      by_number : (b : Bool) → eqb st.births u ≡ b → cond b (proc_of c) None ≡ Some p
          → Bore bodies c u p st (step_outcome t c (answer_case (after_create st prio flags) (answer.Thread st.births))).after
          (step_outcome t c (answer_case (after_create st prio flags) (answer.Thread st.births))).effects
      by_number false e bad = absurd (cc)
      by_number true e proc =
          let same = eqb-true st.births u e in
          let low : st.births ≤ u = omega (arith, same) in
          record {
            number = same;
            proc = proc;
            seen = (λ i. sight_by (found low i) (unborn_silent st was u low i));
            rows = λ rows none body is_body. rows_are same rows none body is_body (proc_of c) proc (ends made.after);
          }
        where
          none_found : (o : Option ThreadRow) → is_some o ≡ false → o ≡ None
          none_found None h = refl
          none_found (Some row) h = absurd (cc)

          found : st.births ≤ u → thread_of (step_outcome t c made).after u ≡ Some (new_thread st.births prio flags)
          found low = find_push_new (is_number u) st.threads (new_thread st.births prio flags) e
              (none_found (thread_of st u) (either_of (is_thread st u) (is_agent st u) (unborn_absent st was u low)).0)

          rows_are : st.births ≡ u → (rows : List (Row B)) → row_of u rows ≡ None → (body : B) → slice_get bodies p ≡ Some body
              → (o : Option ℕ) → o ≡ Some p → (d : Bool)
              → IsPolledWith u
              (after_settle bodies o
              (effect.Called t c ∷ effect.Answered t (answer.Thread st.births) ∷ cond d (effect.Ended made.after.status ∷ []) []) rows)
              body zero_answer
          rows_are same rows none body is_body None bad d = absurd (cc)
          rows_are same rows none body is_body (Some q) so d = by_end d
            where
              opened : IsPolledWith u (rows_answered t (answer.Thread st.births) rows ++ rows_of_new st.births q (slice_get bodies q)) body zero_answer
              opened = subst
                  (λ n. IsPolledWith u (rows_answered t (answer.Thread st.births) rows ++ rows_of_new n q (slice_get bodies q)) body zero_answer) (sym same)
                  (row_opens u (rows_answered t (answer.Thread st.births) rows) q body
                  (none_with u t (λ row. record row { answer = answer.Thread st.births }) (λ r. refl) rows none) (slice_get bodies q)
                  (ap (slice_get bodies) (unsome so) ∙ is_body))

              by_end : (d : Bool)
                  → IsPolledWith u
                  (after_settle bodies (Some q) (cond d (effect.Ended made.after.status ∷ []) [])
                  (rows_answered t (answer.Thread st.births) rows ++ rows_of_new st.births q (slice_get bodies q)))
                  body zero_answer
              by_end true = opened
              by_end false = opened

  step_bears : Bears (step st c).after (step st c).effects
  step_bears = subst (λ (out : Outcome). Bears out.after out.effects) (sym step_is) (by_creates (creates_of c))
    where
      refused_none : (e : LwpErr) → born_in u (step_outcome t c (refusal_case st e)).effects ≡ None
      refused_none e = refl

      by_checks : (number prio : ℕ) (flags : Flags) → c ≡ call.Create number prio flags
          → Checked st
          ((nat_le st.procs number, error.InvalidArg) ∷ is_no_priority st prio ∷ is_full 1024 st.threads ∷ is_at_limit st.births st ∷ [])
          (answer_case (after_create st prio flags) (answer.Thread st.births))
          → Bears (step_outcome t c (case_of st t (call.Create number prio flags))).after
          (step_outcome t c (case_of st t (call.Create number prio flags))).effects
      by_checks number prio flags is (Struck e struck) = subst (λ made. Bears (step_outcome t c made).after (step_outcome t c made).effects)
          (sym struck) (none_bears (step_outcome t c (refusal_case st e)).after (step_outcome t c (refusal_case st e)).effects (refused_none e))
      by_checks number prio flags is (Free passed free) =
          subst (λ made. Bears (step_outcome t c made).after (step_outcome t c made).effects) (sym free) (create_bears prio flags number is)

      by_creates : Creates c → Bears (step_outcome t c (case_of st t c)).after (step_outcome t c (case_of st t c)).effects
      by_creates (IsNone none) = none_bears (step_outcome t c (case_of st t c)).after (step_outcome t c (case_of st t c)).effects
          (called_none t (drop 1 (step_outcome t c (case_of st t c)).effects) none)
      by_creates (IsCreate number prio flags is) =
          subst (λ d. Bears (step_outcome t c (case_of st t d)).after (step_outcome t c (case_of st t d)).effects) (sym is)
          (by_checks number prio flags is (checked st _ _))

  trapped_bears : (e : ℕ) (after : State) (es : List Effect) → Bears after es → Bears after (effect.Trapped t e ∷ es)
  trapped_bears e after es bears so = let b = bears so in record { number = b.number; proc = b.proc; seen = b.seen; rows = b.rows }

  made_bears : (trapped : List Bool) → Bears (traps_made st trapped t c).state (traps_made st trapped t c).effects
  made_bears trapped = by_trap (trap_of c)
    where
      by_refusal : (e : ℕ) (o : Option LwpErr) → Bears (after_trap st trapped t c e o).state (after_trap st trapped t c e o).effects
      by_refusal e None = none_bears st (effect.Called t c ∷ effect.Answered t zero_answer ∷ []) refl
      by_refusal e (Some why) = none_bears st (effect.Called t c ∷ effect.Answered t (answer.Refused why) ∷ []) refl

      by_agent : (b : Bool)
          → Bears (cond b (after_refusal st trapped t c error.InUse) (after_machine_step trapped (step st c))).state
          (cond b (after_refusal st trapped t c error.InUse) (after_machine_step trapped (step st c))).effects
      by_agent true = none_bears st (effect.Called t c ∷ effect.Answered t (answer.Refused error.InUse) ∷ []) refl
      by_agent false = step_bears

      by_trap : (o : Option ℕ) → Bears (after_call_as st trapped t c o).state (after_call_as st trapped t c o).effects
      by_trap None = by_agent (passes (is_trapped trapped) (agent_event_of c))
      by_trap (Some e) = by_refusal e (trap_refusal st trapped e)

  called_bears : (trapped : List Bool) (pending : Option ℕ) → Bears (traps_called st trapped t c pending).state (traps_called st trapped t c pending).effects
  called_bears trapped None = made_bears trapped
  called_bears trapped (Some e) = by_given (passes is_given (notice st t e)) (passes is_catch (notice st t e))
    where
      by_given : (b d : Bool) → Bears
          (cond b (traps_made st trapped t c) (cond d (after_machine_step trapped (but_call (step st (call.ExcNotify e))))
          (after_machine_step trapped (but_call (step st (call.Destroy t)))))).state
          (effect.Trapped t e
          ∷ (cond b (traps_made st trapped t c) (cond d (after_machine_step trapped (but_call (step st (call.ExcNotify e))))
          (after_machine_step trapped (but_call (step st (call.Destroy t)))))).effects)
      by_given true d = trapped_bears e (traps_made st trapped t c).state (traps_made st trapped t c).effects (made_bears trapped)
      by_given false true = none_bears (step st (call.ExcNotify e)).after (effect.Trapped t e ∷ drop 1 (step st (call.ExcNotify e)).effects)
          (but_bears (call.ExcNotify e))
      by_given false false = none_bears (step st (call.Destroy t)).after (effect.Trapped t e ∷ drop 1 (step st (call.Destroy t)).effects)
          (but_bears (call.Destroy t))

  -- ---- and the report after it

  -- what is told after a call is no birth by it
  bears_before : (es ys : List Effect) → is_rites_head ys ≡ true → born_in u (es ++ ys) ≡ Some p → born_in u es ≡ Some p
  bears_before [] [] head so = absurd (cc)
  bears_before [] (effect.Rites a d ∷ ys) head so = absurd (cc)
  bears_before [] (effect.Called v d ∷ ys) head so = absurd (cc)
  bears_before [] (effect.Answered v a ∷ ys) head so = absurd (cc)
  bears_before [] (effect.Exited v reg d x ∷ ys) head so = absurd (cc)
  bears_before [] (effect.Died v ∷ ys) head so = absurd (cc)
  bears_before [] (effect.Delivered a e ∷ ys) head so = absurd (cc)
  bears_before [] (effect.Ticked now ∷ ys) head so = absurd (cc)
  bears_before [] (effect.Ended status ∷ ys) head so = absurd (cc)
  bears_before [] (effect.Trapped v e ∷ ys) head so = absurd (cc)
  bears_before (effect.Called v d ∷ []) [] head so = absurd (cc)
  bears_before (effect.Called v d ∷ []) (effect.Rites a n ∷ ys) head so = absurd (cc)
  bears_before (effect.Called v d ∷ []) (effect.Called w f ∷ ys) head so = absurd (cc)
  bears_before (effect.Called v d ∷ []) (effect.Answered w a ∷ ys) head so = absurd (cc)
  bears_before (effect.Called v d ∷ []) (effect.Exited w reg f x ∷ ys) head so = absurd (cc)
  bears_before (effect.Called v d ∷ []) (effect.Died w ∷ ys) head so = absurd (cc)
  bears_before (effect.Called v d ∷ []) (effect.Delivered a e ∷ ys) head so = absurd (cc)
  bears_before (effect.Called v d ∷ []) (effect.Ticked now ∷ ys) head so = absurd (cc)
  bears_before (effect.Called v d ∷ []) (effect.Ended status ∷ ys) head so = absurd (cc)
  bears_before (effect.Called v d ∷ []) (effect.Trapped w e ∷ ys) head so = absurd (cc)
  bears_before (effect.Called v d ∷ effect.Answered w a ∷ es) ys head so = so
  bears_before (effect.Called v d ∷ effect.Called w f ∷ es) ys head so = absurd (cc)
  bears_before (effect.Called v d ∷ effect.Exited w reg f x ∷ es) ys head so = absurd (cc)
  bears_before (effect.Called v d ∷ effect.Died w ∷ es) ys head so = absurd (cc)
  bears_before (effect.Called v d ∷ effect.Delivered a e ∷ es) ys head so = absurd (cc)
  bears_before (effect.Called v d ∷ effect.Ticked now ∷ es) ys head so = absurd (cc)
  bears_before (effect.Called v d ∷ effect.Ended status ∷ es) ys head so = absurd (cc)
  bears_before (effect.Called v d ∷ effect.Trapped w e ∷ es) ys head so = absurd (cc)
  bears_before (effect.Called v d ∷ effect.Rites a n ∷ es) ys head so = absurd (cc)
  bears_before (effect.Trapped v e ∷ es) ys head so = bears_before es ys head so
  bears_before (effect.Answered v a ∷ es) ys head so = absurd (cc)
  bears_before (effect.Exited v reg d x ∷ es) ys head so = absurd (cc)
  bears_before (effect.Died v ∷ es) ys head so = absurd (cc)
  bears_before (effect.Delivered a e ∷ es) ys head so = absurd (cc)
  bears_before (effect.Ticked now ∷ es) ys head so = absurd (cc)
  bears_before (effect.Ended status ∷ es) ys head so = absurd (cc)
  bears_before (effect.Rites a n ∷ es) ys head so = absurd (cc)

  said_bears : (after : State) (es : List Effect) (reports : List ℕ) → Lawful after None
      → (is_thread (after_rites after es reports).state u ≡ true → count_by (is_died u) (after_rites after es reports).effects ≡ 0)
      → Bears after es → Bears (after_rites after es reports).state (after_rites after es reports).effects
  said_bears after es reports then_lawful = by_armed (is_event_armed after rites_event) reports
    where
      by_armed : (b : Bool) (rs : List ℕ)
          → (is_thread (cond b (after_first_report after es rs) (record { state = after; reports = rs; effects = es })).state u ≡ true
          → count_by (is_died u) (cond b (after_first_report after es rs) (record { state = after; reports = rs; effects = es })).effects ≡ 0)
          → Bears after es
          → Bears (cond b (after_first_report after es rs) (record { state = after; reports = rs; effects = es })).state
          (cond b (after_first_report after es rs) (record { state = after; reports = rs; effects = es })).effects
      by_armed true [] died bears = bears
      by_armed false rs died bears = bears
      by_armed true (dead ∷ later) died bears = λ so.
          reported dead died (bears (bears_before es (map (as_rites dead) (deliver after rites_event (report_text dead)).effects) (rites_first dead after) so))
        where
          reported : (dead : ℕ)
              → (is_thread (deliver after rites_event (report_text dead)).after u ≡ true
              → count_by (is_died u) (es ++ map (as_rites dead) (deliver after rites_event (report_text dead)).effects) ≡ 0)
              → Bore bodies c u p st after es
              → Bore bodies c u p st (deliver after rites_event (report_text dead)).after
              (es ++ map (as_rites dead) (deliver after rites_event (report_text dead)).effects)
          reported dead died b =
              let sent = (deliver after rites_event (report_text dead)).effects in
              let left = still b (deliveries_leave_it after then_lawful u (attends_seen after u block.Not
              (ap (λ (v : Sight). v.waits) b.seen) refl) (rests_untimed after then_lawful u b.seen) rites_event (report_text dead)) in
              let seen = left.same ∙ b.seen in
              let none = died (alive_seen (deliver after rites_event (report_text dead)).after u block.Not (ap (λ (v : Sight). v.waits) seen)) in
              record {
                number = b.number;
                proc = b.proc;
                seen = seen;
                rows = λ rows empty body is_body.
                    ap (λ (rs : List (Row B)). option_map polled_with (row_of u rs)) (settled_append u bodies (proc_of c) es (map (as_rites dead) sent) rows)
                    ∙ settled_with u bodies (proc_of c) (map (as_rites dead) sent) (after_settle bodies (proc_of c) es rows) body
                    zero_answer (b.rows rows empty body is_body) (omega (arith, none, count-append (is_died u) es (map (as_rites dead) sent)))
                    ∙ ap (λ xs. Some (body, last_heard zero_answer xs)) (rites_same u dead sent ∙ left.quiet);
              }
            where
              still : Bore bodies c u p st after es
                  → IsLeft u after (deliver after rites_event (report_text dead))
                  ⊎ IsWoken u (IsDelivered (report_text dead)) after (deliver after rites_event (report_text dead))
                  → IsLeft u after (deliver after rites_event (report_text dead))
              still b (inl left) = left
              still b (inr woken) =
                  absurd (let bad : Some block.Not ≡ Some (block.Receiving woken.from) = ap (λ (v : Sight). v.waits) (sym b.seen) ∙ woken.waited in cc)

-- a call in a pod with its own events that bears a thread
pub call_bears : {B : Type 0} (bodies : List B) (u p : ℕ) (es : EventState) → Lawful es.state None → (t : ℕ) → choice es.state ≡ Some t
    → (c : Call) → born_in u (event_step es c).effects ≡ Some p → Bore bodies c u p es.state (event_step es c).after.state (event_step es c).effects
call_bears {B} bodies u p es was t turn c =
    let out = traps_called es.state es.trapped t c es.pending in
    let reports = reports_after es.state out.state es.reports out.effects in
    let died = subst (λ (o : Outcome). is_thread o.after u ≡ true → count_by (is_died u) o.effects ≡ 0) (event_is es t c turn)
    (alive_then es.state (event_step es c).after.state (event_step es c).effects (call_moved es was c) u) in
    subst (λ (o : Outcome). born_in u o.effects ≡ Some p → Bore bodies c u p es.state o.after o.effects) (sym (event_is es t c turn))
    (said_bears bodies u p es.state was t turn c out.state out.effects reports (lawful_called es.state was es.trapped t c es.pending) died
    (called_bears bodies u p es.state was t turn c es.trapped es.pending))
