-- Who is destroyed or returns from its only frame is gone, and so is who is trapped and has no handler.
use Rattle.lwp_types.specs.Agents.{deliver}
use Rattle.lwp_types.specs.Case.{refusal_case, silent_case, unless, with_zero}
use Rattle.lwp_types.specs.Choice.{choice}
use Rattle.lwp_types.specs.CountLaws.{one}
use Rattle.lwp_types.specs.Death.{death}
use Rattle.lwp_types.specs.Exits.{leave_frame, excnotify_case_by}
use Rattle.lwp_types.specs.Lawful.{Lawful}
use Rattle.lwp_types.specs.Agents.{end_agent, is_event_armed}
use Rattle.lwp_types.specs.Exceptions.{frames, handler_in, with_match}
use Rattle.lwp_types.specs.declared.call.Answer.{Answer}
use Rattle.lwp_types.specs.State.{State, ThreadRow, is_agent, is_number, is_thread, marks_in, numbers, passes}
use Rattle.lwp_types.specs.Step.{case_of, step, step_by, step_if}
use Rattle.lwp_types.specs.declared.call.Call.{Call}
use Rattle.lwp_types.specs.declared.call.Effect.{Effect}
use Rattle.lwp_types.specs.declared.rows.AgentRow.{AgentRow}
use Rattle.lwp_types.specs.declared.rows.Mark.{Mark}
use Rattle.lwp_types.specs.State.{agent_of}
use Rattle.pod_events.proofs.Mild.{mild_deliver}
use Rattle.pod_events.specs.Events.{rites_event}
use Rattle.pod_events.specs.Rites.{after_first_report, report_text, after_rites}
use Rattle.pod_events.specs.Traps.{is_catch, is_given, notice}
use Rattle.pod_laws.proofs.Died.{death_died, finished_died, the_dead_are_forgotten}
use Rattle.pod_laws.proofs.Elements.{differ}
use Rattle.pod_laws.proofs.Fading.{deliver_fades, gone_stays}
use Rattle.pod_laws.proofs.Holding.{no_thread}
use Rattle.pod_laws.specs.Forgotten.{IsGone, is_died}
use Rattle.std.proofs.Common.{Bool, List, None, Option, Some, [], ap, arith, cond, count_by, eqb}
use Rattle.std.proofs.Common.{false, not, refl, subst, sym, true, ℕ, ◌∙◌, ◌∷◌, ◌≡◌, ◌≤◌, ◌||◌}
use Rattle.std.proofs.lemmas.Bool.{eq-eqb, eqb-true}
use Rattle.std.specs.List.{find, list_any}
use Rattle.std.specs.Prelude.{is_some, nat_le, nat_lt}
use Rattle.lwp_types.specs.declared.call.Call.TheVariants as call
use Rattle.lwp_types.specs.declared.call.LwpErr.TheVariants as error
use Rattle.lwp_types.specs.declared.rows.Mark.TheVariants as mark

dies_told : (st : State) (t u : ℕ) → choice st ≡ Some t → (c : Call) → (case_of st t c).others ≡ (death u st).effects
    → 1 ≤ count_by (is_died u) (step st c).effects
unfolding step step_by
dies_told st t u turn c dies = subst (λ o. 1 ≤ count_by (is_died u) (step_if st c o).effects) (sym turn)
    (omega (arith, finished_died u t c (case_of st t c), ap (count_by (is_died u)) dies, death_died u u st, ap one (eq-eqb u u refl)))

-- whose death is all that a call does to others is gone then
gone_by : (st : State) → Lawful st None → (t u : ℕ) → choice st ≡ Some t → (c : Call) → (case_of st t c).others ≡ (death u st).effects
    → IsGone (step st c).after u
gone_by st was t u turn c dies = (the_dead_are_forgotten st was c u (dies_told st t u turn c dies)).gone

-- a thread is no agent
pub no_agent : (st : State) → Lawful st None → (u : ℕ) → is_thread st u ≡ true → is_agent st u ≡ false
no_agent st was u lives = by_row (agent_of st.agents u) refl
  where
    by_row : (o : Option AgentRow) → agent_of st.agents u ≡ o → is_some o ≡ false
    by_row None e = refl
    by_row (Some row) e = differ (sym lives ∙ no_thread st None was.nine u row e)

pub gone_thread : (st : State) (u : ℕ) → IsGone st u → is_thread st u ≡ false
gone_thread st u gone = by_or (is_thread st u) gone.dead
  where
    by_or : (b : Bool) → (b || is_agent st u) ≡ false → b ≡ false
    by_or true e = absurd (cc)
    by_or false e = refl

pub destroyed_is_gone : (st : State) → Lawful st None → (t u : ℕ) → choice st ≡ Some t → is_thread st u ≡ true → IsGone (step st (call.Destroy u)).after u
unfolding unless
destroyed_is_gone st was t u turn lives =
    gone_by st was t u turn (call.Destroy u) (by_tests (is_thread st u) (is_agent st u) (eqb t u) lives (no_agent st was u lives))
  where
    by_tests : (b c d : Bool) → b ≡ true → c ≡ false
        → (cond (not (b || c)) (refusal_case st error.NonExist)
        (cond c (with_zero (end_agent u st)) (cond d (silent_case (death u st)) (with_zero (death u st))))).others
        ≡ (death u st).effects
    by_tests true false true e f = refl
    by_tests true false false e f = refl
    by_tests true true d e f = absurd (cc)
    by_tests false c d e f = absurd (cc)

-- so a thread that is there after a call wasn't destroyed by it
pub not_destroyed : (st : State) → Lawful st None → (t u v : ℕ) → choice st ≡ Some t → is_thread st u ≡ true → (c : Call)
    → c ≡ call.Destroy v → is_thread (step st c).after u ≡ true → eqb v u ≡ false
not_destroyed st was t u v turn lives c e alive = by_test (eqb v u) refl
  where
    by_test : (b : Bool) → eqb v u ≡ b → b ≡ false
    by_test false is = refl
    by_test true is = differ (sym alive ∙ ap (λ c. is_thread (step st c).after u) (e ∙ ap call.Destroy (eqb-true v u is))
        ∙ gone_thread (step st (call.Destroy u)).after u (destroyed_is_gone st was t u turn lives))

pub returned_is_gone : (st : State) → Lawful st None → (t : ℕ) → choice st ≡ Some t → marks_in st t ≡ mark.Frame ∷ [] → IsGone (step st call.Return).after t
returned_is_gone st was t turn marks =
    gone_by st was t t turn call.Return (ap (λ ms. (cond (nat_le 2 (frames ms)) (leave_frame st t) (silent_case (death t st))).others) marks)

-- with no handler a trap is neither answered nor caught
pub no_notice : (st : State) (t e : ℕ) → marks_in st t ≡ mark.Frame ∷ [] → (passes is_given (notice st t e) ≡ false) × (passes is_catch (notice st t e) ≡ false)
unfolding unless
no_notice st t e marks = (
  ap (λ ms. passes is_given (noticed ms)) marks ∙ by_test (eqb e 0 || nat_lt 2147483647 e),
  ap (λ ms. passes is_catch (noticed ms)) marks ∙ by_test2 (eqb e 0 || nat_lt 2147483647 e),
)
  where
    noticed : List Mark → Option Answer
    noticed ms = (cond (eqb e 0 || nat_lt 2147483647 e) (refusal_case st error.InvalidArg)
        (with_match st (λ f. excnotify_case_by st t e f f.func) (handler_in e ms))).own

    by_test : (b : Bool) → passes is_given (cond b (refusal_case st error.InvalidArg) (refusal_case st error.NonExist)).own ≡ false
    by_test true = refl
    by_test false = refl

    by_test2 : (b : Bool) → passes is_catch (cond b (refusal_case st error.InvalidArg) (refusal_case st error.NonExist)).own ≡ false
    by_test2 true = refl
    by_test2 false = refl

-- and it is gone after a report
pub gone_said : (u : ℕ) (after : State) (es : List Effect) (reports : List ℕ) → IsGone after u → IsGone (after_rites after es reports).state u
gone_said u after es reports gone = by_armed (is_event_armed after rites_event) reports
  where
    by_armed : (b : Bool) (rs : List ℕ) → IsGone (cond b (after_first_report after es rs) (record { state = after; reports = rs; effects = es })).state u
    by_armed true [] = gone
    by_armed false rs = gone
    by_armed true (dead ∷ later) =
        gone_stays u after (deliver after rites_event (report_text dead)).after (deliver_fades u after rites_event (report_text dead)) gone

-- a report lets nobody come or go
module _ (u : ℕ) where
  by_numbers : (rows : List ThreadRow) → is_some (find (is_number u) rows) ≡ list_any (λ n. eqb n u) (numbers rows)
  by_numbers [] = refl
  by_numbers (row ∷ rows) = by_test (eqb row.number u) (by_numbers rows)
    where
      by_test : (b : Bool) → is_some (find (is_number u) rows) ≡ list_any (λ n. eqb n u) (numbers rows)
          → is_some (cond b (Some row) (find (is_number u) rows)) ≡ (b || list_any (λ n. eqb n u) (numbers rows))
      by_test true rest = refl
      by_test false rest = rest

  pub thread_delivered : (st : State) (e : ℕ) (text : List ℕ) → is_thread (deliver st e text).after u ≡ is_thread st u
  thread_delivered st e text = by_numbers (deliver st e text).after.threads ∙ ap (list_any (λ n. eqb n u)) (mild_deliver st e text).lives
      ∙ sym (by_numbers st.threads)

  pub thread_said : (after : State) (es : List Effect) (reports : List ℕ) → is_thread (after_rites after es reports).state u ≡ is_thread after u
  thread_said after es reports = by_armed (is_event_armed after rites_event) reports
    where
      by_armed : (b : Bool) (rs : List ℕ)
          → is_thread (cond b (after_first_report after es rs) (record { state = after; reports = rs; effects = es })).state u ≡ is_thread after u
      by_armed true [] = refl
      by_armed false rs = refl
      by_armed true (dead ∷ later) = thread_delivered after rites_event (report_text dead)
