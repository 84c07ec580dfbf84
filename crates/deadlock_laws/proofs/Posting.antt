-- One goes on, or has a letter: those that can't be that one wait as they did.
use Rattle.deadlock_laws.proofs.Frames.{Framed, framed_still, framed_then, letter_pushed, mapped, other_block, same_threads}
use Rattle.deadlock_laws.specs.Deadlocks.{block_in}
use Rattle.lwp_types.specs.Messages.{as_answer, as_received, post, takes_from}
use Rattle.lwp_types.specs.State.{Outcome, State, ThreadRow, and_then, for_each, passes, row_with_block, still, thread_of, with_block}
use Rattle.lwp_types.specs.Unblock.{unblock}
use Rattle.lwp_types.specs.declared.rows.Block.{Block}
use Rattle.lwp_types.specs.declared.rows.Letter.{Letter}
use Rattle.pod_laws.proofs.Elements.{false_of}
use Rattle.state_text.specs.Waiting.{awaited_by, owner_of, receiver_of}
use Rattle.std.proofs.Common.{Bool, List, None, Option, Some, [], ap, cond, eqb, false, not, refl, sym, true, ℕ, ◌++◌, ◌∙◌, ◌∷◌, ◌≡◌, ◌≢◌}
use Rattle.std.proofs.lemmas.Bool.{and_parts, eqb-false, eqb-true}
use Rattle.std.proofs.lemmas.Option.{none-some}
use Rattle.std.specs.List.{list_all}
use Rattle.std.specs.Prelude.{is_some, option_map}
use Rattle.lwp_types.specs.declared.rows.Block.TheVariants as block

-- who would take a letter of n waits for n, if for anybody
pub taker : (s : State) (h v n : ℕ) (b : Block) → awaited_by s h b ≡ Some v → takes_from n b ≡ true → v ≡ n
taker s h v n block.Not e takes = absurd (cc)
taker s h v n (block.Joining u) e takes = absurd (cc)
taker s h v n block.Sending e takes = absurd (cc)
taker s h v n (block.Receiving None) e takes = absurd (none-some v e)
taker s h v n (block.Receiving (Some y)) e takes = by_thread (is_some (thread_of s y)) e
  where
    by_thread : (b : Bool) → cond b (Some y) None ≡ Some v → v ≡ n
    by_thread true e =
        let same : y ≡ v = cc in
        sym same ∙ eqb-true y n takes
    by_thread false e = absurd (none-some v e)
taker s h v n (block.Entering m) e takes = absurd (cc)
taker s h v n (block.Waiting c) e takes = absurd (cc)
taker s h v n block.Sleeping e takes = absurd (cc)

-- who would not isn't the one that does
pub not_taker : (now : State) (h n : ℕ) (b : Block) → block_in now h ≡ Some b → (takes_from n b ≡ true → ⊥)
    → (u : ℕ) → passes (λ (r : ThreadRow). takes_from n r.block) (thread_of now u) ≡ true → h ≢ u
not_taker now h n b is never u takes same =
    by_row (thread_of now h) is (ap (λ k. passes (λ (r : ThreadRow). takes_from n r.block) (thread_of now k)) same ∙ takes)
  where
    by_row : (o : Option ThreadRow) → option_map (λ (r : ThreadRow). r.block) o ≡ Some b → passes (λ (r : ThreadRow). takes_from n r.block) o ≡ true → ⊥
    by_row None e takes = none-some b e
    by_row (Some r) e takes =
        let its : r.block ≡ b = cc in
        never (ap (takes_from n) (sym its) ∙ takes)

module _ (h v : ℕ) where
  -- another than h goes on
  pub freed : (now after : State) (u : ℕ) → h ≢ u → after.threads ≡ with_block u block.Not now.threads
      → (receiver_of now.letters h ≡ Some v → receiver_of after.letters h ≡ Some v)
      → ((m : ℕ) → owner_of now.locks m ≡ Some v → owner_of after.locks m ≡ Some v) → Framed h v now after
  freed now after u away same letter owner = mapped h v now after (row_with_block u block.Not) (λ r. refl) (other_block h v u away block.Not) same letter owner

  -- one after the other, and none of them is h
  pub each_freed : (change : ℕ → State → Outcome) → ((u : ℕ) (now : State) → h ≢ u → Framed h v now (change u now).after)
      → (us : List ℕ) → list_all (λ u. not (eqb u h)) us ≡ true → (now : State) → Framed h v now (for_each change us now).after
  unfolding for_each and_then
  each_freed change one [] away now = framed_still h v now
  each_freed change one (u ∷ us) away now =
      let parts = and_parts _ _ away in
      framed_then h v now (change u now).after _ (one u now (λ same. eqb-false u h (false_of _ parts.0) (sym same)))
      (each_freed change one us parts.1 (change u now).after)

  -- a letter is posted, and h isn't the one that takes it
  pub post_framed : (letter : Letter) (now : State)
      → (passes (λ (r : ThreadRow). takes_from letter.from r.block) (thread_of now letter.to) ≡ true → h ≢ letter.to)
      → Framed h v now (post letter now).after
  post_framed letter now away = by_test (passes (λ (r : ThreadRow). takes_from letter.from r.block) (thread_of now letter.to)) refl
    where
      by_test : (b : Bool) → passes (λ (r : ThreadRow). takes_from letter.from r.block) (thread_of now letter.to) ≡ b
          → Framed h v now (cond b (unblock (as_answer letter) letter.to (record now { letters = now.letters ++ as_received letter ∷ [] }))
          (still (record now { letters = now.letters ++ letter ∷ [] }))).after
      by_test true takes = freed now _ letter.to (away takes) refl (letter_pushed now.letters h v (as_received letter)) (λ m e. e)
      by_test false takes = same_threads h v now _ refl (letter_pushed now.letters h v letter) (λ m e. e)
