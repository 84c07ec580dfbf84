-- Who waits for somebody is blocked, and so is everybody in a cycle.
use Rattle.lwp_types.specs.State.{State, ThreadRow, is_blocked_in, is_not_blocked, passes, thread_of}
use Rattle.lwp_types.specs.declared.rows.Block.{Block}
use Rattle.state_text.specs.Waiting.{awaited, awaited_by, next_of, round, round_by}
use Rattle.std.proofs.Common.{Bool, List, None, Option, Some, [], ap, cond, eqb, false, ltb, not, refl, subst, suc, sym, true, zero, ℕ, ◌∙◌, ◌∷◌, ◌≡◌}
use Rattle.std.proofs.lemmas.Option.{none-some}
use Rattle.std.specs.List.{AllByRecursion}
use Rattle.std.specs.Prelude.{option_and_then, option_map}
use Rattle.lwp_types.specs.declared.rows.Block.TheVariants as block

blocked_so : (s : State) (t u : ℕ) (b : Block) → awaited_by s t b ≡ Some u → not (is_not_blocked b) ≡ true
blocked_so s t u block.Not is = absurd (none-some u is)
blocked_so s t u (block.Joining v) is = refl
blocked_so s t u block.Sending is = refl
blocked_so s t u (block.Receiving from) is = refl
blocked_so s t u (block.Entering m) is = refl
blocked_so s t u (block.Waiting c) is = refl
blocked_so s t u block.Sleeping is = refl

blocked_in : (s : State) (u : ℕ) (row : Option ThreadRow) → option_and_then (awaited s) row ≡ Some u → passes (λ r. not (is_not_blocked r.block)) row ≡ true
blocked_in s u None is = absurd (none-some u is)
blocked_in s u (Some row) is = blocked_so s row.number u row.block is

-- the threads of a round, if there is one
abbrev list_in : Option (List ℕ) → List ℕ
list_in None = []
list_in (Some us) = us

module _ (s : State) (t : ℕ) where
  abbrev AllBlocked : List ℕ → Type 0
  AllBlocked c = AllByRecursion (λ u. is_blocked_in s u ≡ true) c

  joined : (here : ℕ) → is_blocked_in s here ≡ true → (o : Option (List ℕ)) → ((us : List ℕ) → o ≡ Some us → AllBlocked us) → (c : List ℕ)
      → option_map (λ us. here ∷ us) o ≡ Some c → AllBlocked c
  joined here blocked None rest c is = absurd (none-some c is)
  joined here blocked (Some us) rest c is = subst AllBlocked (ap list_in is) (blocked, rest us refl)

  pub all_blocked : (n here : ℕ) (c : List ℕ) → round (next_of s) t n here ≡ Some c → AllBlocked c
  all_blocked zero here c is = absurd (none-some c is)
  all_blocked (suc n) here c is = by_less (ltb here t) (λ u us same. all_blocked n u us same) is
    where
      by_same : (b : Bool) → ((u : ℕ) (us : List ℕ) → round (next_of s) t n u ≡ Some us → AllBlocked us) → is_blocked_in s here ≡ true
          → (u : ℕ) → cond b (Some (here ∷ [])) (option_map (λ us. here ∷ us) (round (next_of s) t n u)) ≡ Some c → AllBlocked c
      by_same true later blocked u e = joined here blocked (Some []) (λ us same. subst AllBlocked (ap list_in same) tt) c e
      by_same false later blocked u e = joined here blocked (round (next_of s) t n u) (λ us same. later u us same) c e

      by_next : (o : Option ℕ) → ((u : ℕ) (us : List ℕ) → round (next_of s) t n u ≡ Some us → AllBlocked us) → next_of s here ≡ o
          → round_by (round (next_of s) t n) t here o ≡ Some c → AllBlocked c
      by_next None later is_next e = absurd (none-some c e)
      by_next (Some u) later is_next e = by_same (eqb u t) later (blocked_in s u (thread_of s here) is_next) u e

      by_less : (b : Bool) → ((u : ℕ) (us : List ℕ) → round (next_of s) t n u ≡ Some us → AllBlocked us)
          → cond b None (round_by (round (next_of s) t n) t here (next_of s here)) ≡ Some c → AllBlocked c
      by_less true later e = absurd (none-some c e)
      by_less false later e = by_next (next_of s here) later refl e
