-- Who is destroyed: an agent, or a thread.
use Rattle.lwp_types.specs.Agents.{end_agent}
use Rattle.lwp_types.specs.Case.{refusal_case, silent_case, unless, with_zero}
use Rattle.lwp_types.specs.Death.{death, destroy}
use Rattle.lwp_types.specs.Lawful.{NineParts}
use Rattle.lwp_types.specs.Messages.{awaits, receivers_of}
use Rattle.lwp_types.specs.State.{State, ThreadRow, and_then, for_each, is_agent, is_thread, numbers}
use Rattle.lwp_types.specs.Unblock.{nonexist, unblock}
use Rattle.lwp_types.specs.declared.call.Answer.{Answer}
use Rattle.lwp_types.specs.declared.call.Effect.{Effect}
use Rattle.lwp_types.specs.declared.call.LwpErr.TheVariants as error
use Rattle.std.proofs.Common.{Bool, List, None, [], arith, cond, eqb, false, length, length-append, refl, suc, true, ℕ, ◌∷◌, ◌≡◌, ◌≤◌, ◌||◌}
use Rattle.std.specs.List.{filter}

or_true : (b : Bool) → (b || true) ≡ true
or_true true = refl
or_true false = refl

module _ (s : State) (t u : ℕ) where
  pub destroy-agent : is_agent s u ≡ true → destroy s t u ≡ with_zero (end_agent u s)
  unfolding unless
  destroy-agent agent = rw (agent, or_true (is_thread s u)) refl

  pub destroy-nobody : is_agent s u ≡ false → is_thread s u ≡ false → destroy s t u ≡ refusal_case s error.NonExist
  unfolding unless
  destroy-nobody agent thread = rw (agent, thread) refl

  pub destroy-self : is_agent s u ≡ false → is_thread s u ≡ true → eqb t u ≡ true → destroy s t u ≡ silent_case (death u s)
  unfolding unless
  destroy-self agent thread same = rw (agent, thread, same) refl

  pub destroy-other : is_agent s u ≡ false → is_thread s u ≡ true → eqb t u ≡ false → destroy s t u ≡ with_zero (death u s)
  unfolding unless
  destroy-other agent thread other = rw (agent, thread, other) refl

-- one is told for each
told_each : (a : Answer) (us : List ℕ) (s : State) → length (for_each (unblock a) us s).effects ≡ length us
unfolding for_each and_then
told_each a [] s = refl
told_each a (u ∷ us) s = omega
    (arith, told_each a us (unblock a u s).after, length-append {A = Effect} (unblock a u s).effects (for_each (unblock a) us (unblock a u s).after).effects)

fewer : (p : ThreadRow → Bool) (rows : List ThreadRow) → length (numbers (filter p rows)) ≤ length rows
fewer p [] = omega arith
fewer p (row ∷ rows) = by_test (p row) (fewer p rows)
  where
    by_test : (b : Bool) → length (numbers (filter p rows)) ≤ length rows → length (numbers (cond b (row ∷ filter p rows) (filter p rows))) ≤ suc (length rows)
    by_test true rest = omega (arith, rest)
    by_test false rest = omega (arith, rest)

-- an agent's end tells as many as live at most
pub few_told : (s : State) → NineParts s None → (a : ℕ) → length (end_agent a s).effects ≤ 1024
unfolding and_then
few_told s was a = omega (
  arith,
  length-append (for_each (unblock nonexist) (receivers_of s a) s).effects [],
  told_each nonexist (receivers_of s a) s,
  fewer (λ row. awaits a row.block) s.threads,
  was.numbers.3.0,
)
