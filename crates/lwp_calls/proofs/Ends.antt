-- Whether a pod ends, by what is asked in turn.
use Rattle.lwp_types.specs.Choice.{is_over}
use Rattle.lwp_types.specs.First.{FindsBest}
use Rattle.lwp_types.specs.State.{State, is_empty}
use Rattle.lwp_types.specs.Step.{ends}
use Rattle.std.proofs.Common.{List, None, Option, Some, [], false, refl, true, ℕ, ◌&&◌, ◌++◌, ◌∷◌, ◌≡◌}
use Rattle.std.specs.List.{list_all}
use Rattle.std.specs.Prelude.{is_some}

-- an empty list has no place for anybody
no_place : (t : ℕ) (after before : List ℕ) → [] ≡ before ++ t ∷ after → ⊥
no_place t after [] splits = cc
no_place t after (x ∷ before) splits = cc

-- it was told to end
pub ends-told : (s : State) → s.ended ≡ true → ends s ≡ true
ends-told s told = rw told refl

module _ (s : State) (weight : ℕ → ℕ) (found : Option ℕ) (best : FindsBest weight s.order found) (goes_on : s.ended ≡ false) where
  -- with nobody left to run, it ends where all serve
  pub ends-alone : is_some found ≡ false → ends s ≡ list_all (λ row. row.flags.server) s.threads
  ends-alone none = rw goes_on (by_found found best none)
    where
      by_found : (o : Option ℕ) → FindsBest weight s.order o → is_some o ≡ false → is_over s ≡ list_all (λ row. row.flags.server) s.threads
      by_found None empty h = rw empty refl
      by_found (Some t) first h = absurd (cc)

  -- it goes on while somebody may run
  pub ends-not : is_some found ≡ true → ends s ≡ false
  ends-not some = rw goes_on (by_found found s.order best some)
    where
      by_found : (o : Option ℕ) (order : List ℕ) → FindsBest weight order o → is_some o ≡ true
          → (is_empty order && list_all (λ row. row.flags.server) s.threads) ≡ false
      by_found None order empty h = absurd (cc)
      by_found (Some t) [] first h = absurd (no_place t first.after first.before first.splits)
      by_found (Some t) (x ∷ xs) first h = refl
