-- What the effects of a step tell of the exit procedure that it sets.
use Rattle.lwp_types.specs.Case.{Case, refusal_case, unless, value_case}
use Rattle.lwp_types.specs.Choice.{choice}
use Rattle.lwp_types.specs.Exceptions.{on_exit}
use Rattle.lwp_types.specs.State.{State, marks_in, with_marks}
use Rattle.lwp_types.specs.Step.{case_of, end_effects, own_effects, step, step_by, step_if}
use Rattle.lwp_types.specs.declared.call.Call.{Call}
use Rattle.lwp_types.specs.declared.call.Effect.{Effect}
use Rattle.lwp_types.specs.declared.call.ExitCall.{ExitCall}
use Rattle.pod_laws.specs.Once.{ExitTest, sets_of_call, sets_of_step}
use Rattle.session_laws.specs.Exits.{exits_set_in, sets_if_answered, sets_by_effects}
use Rattle.std.proofs.Common.{Bool, List, None, Option, Some, [], ap, append_assoc, cond, eq-eqb, eqb}
use Rattle.std.proofs.Common.{false, length, refl, sym, true, ℕ, ◌++◌, ◌+◌, ◌∙◌, ◌∷◌, ◌≡◌, ◌||◌}
use Rattle.std.specs.Prelude.{nat_le}
use Rattle.lwp_types.specs.declared.call.Call.TheVariants as call
use Rattle.lwp_types.specs.declared.call.LwpErr.TheVariants as error
use Rattle.lwp_types.specs.declared.rows.Mark.TheVariants as mark

-- what a call sets: one exit procedure, unless it is refused, or nothing
pub data Sets (c : Call) : Type 0 where
  Exit : (x : ExitCall) → c ≡ call.OnExit x → Sets c
  Nothing : ((p : ExitTest) (s : State) (t : ℕ) → sets_of_call p s t c ≡ 0)
      → ((p : ExitTest) (t : ℕ) (es : List Effect) → sets_by_effects p t c es ≡ 0) → Sets c

pub what_it_sets : (c : Call) → Sets c
what_it_sets (call.OnExit x) = Exit x refl
what_it_sets _ = Nothing (λ p s t. refl) (λ p t es. refl)

module _ (p : ExitTest) where
  -- what a case answers its caller at once
  abbrev answered_in : ℕ → Case → List Effect → List Effect
  answered_in t made rest = made.others ++ (own_effects t made.own ++ rest)

  exit_told : (s : State) (t : ℕ) (x : ExitCall) (rest : List Effect)
      → sets_if_answered p t x (answered_in t (on_exit s t x) rest) ≡ sets_of_call p s t (call.OnExit x)
  unfolding unless
  exit_told s t x rest = by_tests (nat_le 256 (length (marks_in s t))) (nat_le 4294967295 s.next_registration)
    where
      by_self : (b : Bool) (n : ℕ) → b ≡ true → cond b n 0 ≡ n
      by_self true n e = refl
      by_self false n e = absurd (cc)

      refusal : (b : Bool) → ◌≡◌ {A = ℕ} (cond b 0 0) 0
      refusal true = refl
      refusal false = refl

      by_tests : (a b : Bool)
          → sets_if_answered p t x (answered_in t
          (cond a (refusal_case s error.NoRoom) (cond b (refusal_case s error.NoRoom) (value_case (record s {
            threads = with_marks t (marks_in s t ++ mark.Exit s.next_registration x ∷ []) s.threads;
            next_registration = s.next_registration + 1;
          }) s.next_registration)))
          rest)
          ≡ cond (a || b) 0 (cond (p t s.next_registration x) 1 0)
      by_tests true b = refusal (eqb t t)
      by_tests false true = refusal (eqb t t)
      by_tests false false = by_self (eqb t t) (cond (p t s.next_registration x) 1 0) (eq-eqb t t refl)

  case_told : (s : State) (t : ℕ) (c : Call) (rest : List Effect) → Sets c → sets_by_effects p t c (answered_in t (case_of s t c) rest) ≡ sets_of_call p s t c
  case_told s t c rest (Exit x e) = rw e (exit_told s t x rest)
  case_told s t c rest (Nothing none untold) = untold p t (answered_in t (case_of s t c) rest) ∙ sym (none p s t)

  pub step_told : (s : State) (c : Call) → exits_set_in p (step s c).effects ≡ sets_of_step p s (choice s) c
  unfolding step step_by
  step_told s c = by_choice (choice s)
    where
      by_choice : (o : Option ℕ) → exits_set_in p (step_if s c o).effects ≡ sets_of_step p s o c
      by_choice None = refl
      by_choice (Some t) = case_told s t c (end_effects (case_of s t c).after) (what_it_sets c)

  -- whatever is told after the step
  pub step_told_before : (s : State) (t : ℕ) (c : Call) (rest : List Effect) → choice s ≡ Some t
      → exits_set_in p ((step s c).effects ++ rest) ≡ sets_of_step p s (choice s) c
  unfolding step step_by
  step_told_before s t c rest turn = by_choice (choice s) turn
    where
      by_choice : (o : Option ℕ) → o ≡ Some t → exits_set_in p ((step_if s c o).effects ++ rest) ≡ sets_of_step p s o c
      by_choice None e = absurd (cc)
      by_choice (Some u) e =
          let made = case_of s u c in
          ap (sets_by_effects p u c) (append_assoc made.others (own_effects u made.own ++ end_effects made.after) rest
          ∙ ap (λ es. made.others ++ es) (append_assoc (own_effects u made.own) (end_effects made.after) rest))
          ∙ case_told s u c (end_effects made.after ++ rest) (what_it_sets c)
