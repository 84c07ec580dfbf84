-- A step in which a thread dies leaves the threads as its death does.
use Rattle.lwp_types.specs.Case.{Case, Check, refusal_case, silent_case, unless, with_zero}
use Rattle.lwp_types.specs.CountLaws.{count-cons, one}
use Rattle.lwp_types.specs.Death.{death, destroy, return_from}
use Rattle.lwp_types.specs.Agents.{end_agent}
use Rattle.lwp_types.specs.Exceptions.{first_frames, frames, later_frames}
use Rattle.lwp_types.specs.Exits.{leave_frame}
use Rattle.lwp_types.specs.State.{State, is_agent, marks_in}
use Rattle.lwp_types.specs.Step.{case_of}
use Rattle.lwp_types.specs.declared.call.Call.{Call}
use Rattle.lwp_types.specs.declared.call.Effect.{Effect}
use Rattle.lwp_types.specs.declared.call.Call.TheVariants as call
use Rattle.lwp_types.specs.declared.call.Effect.TheVariants as effect
use Rattle.pod_events.proofs.MildCalls.{case_toll}
use Rattle.pod_events.specs.Fates.{victim}
use Rattle.pod_events.specs.Rites.{deaths}
use Rattle.pod_laws.proofs.Deathless.{deathless_end_agent, deathless_unwind}
use Rattle.pod_laws.proofs.Died.{death_died}
use Rattle.pod_laws.specs.Forgotten.{is_died}
use Rattle.std.proofs.Common.{Bool, List, None, Some, [], ap, arith, cond, count_by, eqb, false, inl, inr, refl, true, ℕ, ◌-◌, ◌∷◌, ◌≡◌, ◌≤◌, ◌⊎◌}
use Rattle.std.proofs.lemmas.Bool.{eqb-true}
use Rattle.std.specs.Prelude.{nat_le}

-- effects that tell of no death
no_deaths : (n : ℕ) (es : List Effect) → deaths es ≡ [] → count_by (is_died n) es ≡ 0
no_deaths n [] none = refl
no_deaths n (x ∷ xs) none = by_effect x none (no_deaths n xs)
  where
    by_effect : (x : Effect) → deaths (x ∷ xs) ≡ [] → (deaths xs ≡ [] → count_by (is_died n) xs ≡ 0) → count_by (is_died n) (x ∷ xs) ≡ 0
    by_effect (effect.Called t c) e rest = omega (arith, count-cons (is_died n) (effect.Called t c) xs, rest e)
    by_effect (effect.Answered t a) e rest = omega (arith, count-cons (is_died n) (effect.Answered t a) xs, rest e)
    by_effect (effect.Exited t reg c a) e rest = omega (arith, count-cons (is_died n) (effect.Exited t reg c a) xs, rest e)
    by_effect (effect.Died t) e rest = absurd (cc)
    by_effect (effect.Delivered a f) e rest = omega (arith, count-cons (is_died n) (effect.Delivered a f) xs, rest e)
    by_effect (effect.Ticked now) e rest = omega (arith, count-cons (is_died n) (effect.Ticked now) xs, rest e)
    by_effect (effect.Ended status) e rest = omega (arith, count-cons (is_died n) (effect.Ended status) xs, rest e)
    by_effect (effect.Trapped t f) e rest = omega (arith, count-cons (is_died n) (effect.Trapped t f) xs, rest e)
    by_effect (effect.Rites a d) e rest = omega (arith, count-cons (is_died n) (effect.Rites a d) xs, rest e)

-- by which call somebody may die
data Kills (t : ℕ) (c : Call) : Type 0 where
  ByDestroy : (u : ℕ) → c ≡ call.Destroy u → Kills t c
  ByReturn : c ≡ call.Return → Kills t c
  Nobody : victim t c ≡ None → Kills t c

kills : (t : ℕ) (c : Call) → Kills t c
kills t (call.Destroy u) = ByDestroy u refl
kills t call.Return = ByReturn refl
kills t _ = Nobody refl

module _ (s : State) (n : ℕ) where
  -- where n dies in the case, all is as its death leaves it
  abbrev Leaves : Case → Type 0
  Leaves made = 1 ≤ count_by (is_died n) made.others → made.after ≡ (death n s).after

  unless_leaves : (checks : List Check) (otherwise : Case) → Leaves otherwise → Leaves (unless s checks otherwise)
  unfolding unless
  unless_leaves [] otherwise fine = fine
  unless_leaves (check ∷ checks) otherwise fine = by_test check.0 (unless_leaves checks otherwise fine)
    where
      by_test : (b : Bool) → Leaves (unless s checks otherwise) → Leaves (cond b (refusal_case s check.1) (unless s checks otherwise))
      by_test true rest = λ some. absurd (omega (arith, some))
      by_test false rest = rest

  -- who dies in the death of u is u
  death_leaves : (u : ℕ) → 1 ≤ count_by (is_died n) (death u s).effects → (death u s).after ≡ (death n s).after
  death_leaves u some = by_same (eqb u n) refl
    where
      by_same : (b : Bool) → eqb u n ≡ b → (death u s).after ≡ (death n s).after
      by_same true e = ap (λ v. (death v s).after) (eqb-true u n e)
      by_same false e = absurd (omega (arith, some, death_died n u s, ap one e))

  destroy_leaves : (t u : ℕ) → Leaves (destroy s t u)
  destroy_leaves t u = unless_leaves _ _ (by_agent (is_agent s u))
    where
      by_self : (b : Bool) → Leaves (cond b (silent_case (death u s)) (with_zero (death u s)))
      by_self true = death_leaves u
      by_self false = death_leaves u

      by_agent : (b : Bool) → Leaves (cond b (with_zero (end_agent u s)) (cond (eqb t u) (silent_case (death u s)) (with_zero (death u s))))
      by_agent true = λ some. absurd (omega (arith, some, (deathless_end_agent n u s).none))
      by_agent false = by_self (eqb t u)

  return_leaves : (t : ℕ) → Leaves (return_from s t)
  return_leaves t = by_frames (nat_le 2 (frames (marks_in s t)))
    where
      by_frames : (b : Bool) → Leaves (cond b (leave_frame s t) (silent_case (death t s)))
      by_frames true = λ some. absurd (omega (
        arith,
        some,
        (deathless_unwind n t (first_frames (frames (marks_in s t) - 1) (marks_in s t))
            (later_frames (frames (marks_in s t) - 1) (marks_in s t)) s).none,
      ))
      by_frames false = death_leaves t

  nobody_leaves : (t : ℕ) (c : Call) → victim t c ≡ None → Leaves (case_of s t c)
  nobody_leaves t c none some = absurd (omega (arith, some, no_deaths n (case_of s t c).others (silent (case_toll s t c).dead)))
    where
      silent : (deaths (case_of s t c).others ≡ []) ⊎ ((d : ℕ) × (victim t c ≡ Some d) × (deaths (case_of s t c).others ≡ d ∷ []))
          → deaths (case_of s t c).others ≡ []
      silent (inl same) = same
      silent (inr died) = absurd (cc (none, died.1))

  pub case_leaves : (t : ℕ) (c : Call) → Leaves (case_of s t c)
  case_leaves t c = by_kind (kills t c)
    where
      by_kind : Kills t c → Leaves (case_of s t c)
      by_kind (ByDestroy u e) = rw e (destroy_leaves t u)
      by_kind (ByReturn e) = rw e (return_leaves t)
      by_kind (Nobody e) = nobody_leaves t c e
