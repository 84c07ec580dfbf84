-- A thread that was told of a death waits no more, and a report after it tells it nothing.
use Rattle.lwp_types.specs.Agents.{deliver, deliver_to, event_agents, message}
use Rattle.lwp_types.specs.Choice.{choice}
use Rattle.lwp_types.specs.CountLaws.{count-append, count-cons, count-map, count_and-le, count_found_by, count_not_found, one}
use Rattle.lwp_types.specs.Death.{death}
use Rattle.lwp_types.specs.Lawful.{Lawful, NineParts}
use Rattle.lwp_types.specs.Messages.{as_answer, as_received, post, takes_from, with_holding}
use Rattle.lwp_types.specs.State.{State, ThreadRow, and_then, for_each, is_agent, is_number, is_thread, passes, row_with_block, still, thread_of}
use Rattle.lwp_types.specs.Step.{case_of, step, step_by, step_if}
use Rattle.lwp_types.specs.Unblock.{unblock}
use Rattle.lwp_types.specs.declared.call.Answer.{Answer}
use Rattle.lwp_types.specs.declared.call.Call.{Call}
use Rattle.lwp_types.specs.declared.call.Effect.{Effect}
use Rattle.lwp_types.specs.declared.rows.AgentRow.{AgentRow}
use Rattle.lwp_types.specs.declared.rows.Block.{Block}
use Rattle.lwp_types.specs.declared.rows.Letter.{Letter}
use Rattle.lwp_types.specs.declared.call.Effect.TheVariants as effect
use Rattle.lwp_types.specs.declared.rows.Block.TheVariants as block
use Rattle.pod_events.specs.Events.{rites_event}
use Rattle.pod_events.specs.Rites.{as_rites}
use Rattle.pod_laws.proofs.Balances.{count_le}
use Rattle.pod_laws.proofs.Chosen.{living}
use Rattle.pod_laws.proofs.DeathStates.{dead}
use Rattle.pod_laws.proofs.Died.{finished_died}
use Rattle.pod_laws.proofs.Elements.{find_passes}
use Rattle.pod_laws.proofs.Paid.{Fits}
use Rattle.pod_laws.proofs.PaidDeaths.{death_pays}
use Rattle.pod_laws.proofs.Rowed.{once_threads}
use Rattle.pod_laws.proofs.Waiters.{is_blocked}
use Rattle.pod_laws.specs.Forgotten.{is_died}
use Rattle.pod_laws.specs.Waiters.{is_told}
use Rattle.promise_laws.proofs.Leaving.{case_leaves}
use Rattle.session_laws.proofs.Pods.{dies_in_step}
use Rattle.std.proofs.Common.{Bool, List, None, Option, Some, [], ap, arith, cond, count_by, eqb, false}
use Rattle.std.proofs.Common.{map, refl, sym, true, ℕ, ◌&&◌, ◌++◌, ◌∙◌, ◌∷◌, ◌≡◌, ◌≤◌}
use Rattle.std.proofs.lemmas.Bool.{and_from, eqb-false, eqb-true, or_parts}
use Rattle.std.specs.List.{find}
use Rattle.std.specs.Prelude.{is_some}

module _ (u : ℕ) where
  -- whether u waits for anything
  abbrev pub waits : State → ℕ
  waits s = count_by (λ row. is_number u row && is_blocked row.block) s.threads

  -- ---- a death

  gone_counts : (n : ℕ) (rows : List ThreadRow) → is_some (find (is_number n) rows) ≡ false → count_by (is_number n) rows ≡ 0
  gone_counts n rows gone = by_row (find (is_number n) rows) refl gone
    where
      by_row : (o : Option ThreadRow) → find (is_number n) rows ≡ o → is_some o ≡ false → count_by (is_number n) rows ≡ 0
      by_row None e h = count_not_found (is_number n) rows e
      by_row (Some row) e h = absurd (cc)

  told_waits : (a : Answer) (b : Block) → Fits a b → true ≡ true → is_blocked b ≡ true
  told_waits a block.Not fits e = absurd fits
  told_waits a (block.Joining v) fits e = refl
  told_waits a block.Sending fits e = refl
  told_waits a (block.Receiving from) fits e = refl
  told_waits a (block.Entering m) fits e = refl
  told_waits a (block.Waiting c) fits e = refl
  told_waits a block.Sleeping fits e = refl

  death_rests : (s : State) → NineParts s None → (n : ℕ) (x : ThreadRow) → thread_of s n ≡ Some x
      → count_by (is_told u (λ a. true)) (death n s).effects ≡ 1 → waits (death n s).after ≡ 0
  death_rests s was n x dies told = by_same (eqb n u) refl
    where
      by_same : (b : Bool) → eqb n u ≡ b → waits (death n s).after ≡ 0
      by_same true e = omega (
        arith,
        count_and-le (is_number u) (λ row. is_blocked row.block) (death n s).after.threads,
        ap (λ v. count_by (is_number v) (death n s).after.threads) (eqb-true n u e),
        gone_counts n (death n s).after.threads (or_parts (is_thread (death n s).after n) (is_agent (death n s).after n) (dead s was n x dies)).0,
      )
      by_same false e = omega (
        arith,
        told,
        (death_pays u is_blocked refl (λ c m. refl) (λ a. true) s was n x dies (eqb-false n u e)).most told_waits,
        count_and-le (is_number u) (λ row. is_blocked row.block) s.threads,
        once_threads s None was u,
      )

  pub step_rests : (s : State) → Lawful s None → (c : Call) (n : ℕ) → 1 ≤ count_by (is_died n) (step s c).effects
      → count_by (is_told u (λ a. true)) (death n s).effects ≡ 1 → waits (step s c).after ≡ 0
  unfolding step step_by
  step_rests s was c n some told = by_choice (choice s) some
    where
      died_rests : waits (death n s).after ≡ 0
      died_rests =
          let who = living s n ((dies_in_step s was c n).lived some) in
          death_rests s was.nine n who.row who.known told

      by_choice : (o : Option ℕ) → 1 ≤ count_by (is_died n) (step_if s c o).effects → waits (step_if s c o).after ≡ 0
      by_choice None h = absurd (omega (arith, h))
      by_choice (Some t) h = ap waits (case_leaves s n t c (omega (arith, h, finished_died n t c (case_of s t c)))) ∙ died_rests

  -- ---- a delivery

  -- it waits no more where another goes on
  freed_rests : (v : ℕ) (rows : List ThreadRow) → count_by (λ row. is_number u row && is_blocked row.block) rows ≡ 0
      → count_by (λ row. is_number u row && is_blocked row.block) (map (row_with_block v block.Not) rows) ≡ 0
  freed_rests v rows none = omega (
    arith,
    none,
    count-map (λ row. is_number u row && is_blocked row.block) (row_with_block v block.Not) rows,
    count_le (λ row. is_number u row && is_blocked (cond (is_number v row) block.Not row.block)) (λ row. is_number u row && is_blocked row.block)
        (λ row h. less (is_number u row) (is_number v row) row.block h) rows,
  )
    where
      less : (a b : Bool) (c : Block) → (a && is_blocked (cond b block.Not c)) ≡ true → (a && is_blocked c) ≡ true
      less true true c h = absurd (cc)
      less true false c h = h
      less false b c h = h

  taker_waits : (n : ℕ) (b : Block) → takes_from n b ≡ true → is_blocked b ≡ true
  taker_waits n block.Not e = absurd (cc)
  taker_waits n (block.Joining v) e = refl
  taker_waits n block.Sending e = refl
  taker_waits n (block.Receiving from) e = refl
  taker_waits n (block.Entering m) e = refl
  taker_waits n (block.Waiting c) e = refl
  taker_waits n block.Sleeping e = refl

  -- by such effects it waits no more still, and is told nothing
  record Rests (s after : State) (es : List Effect) : Type 0 where
    calm : waits s ≡ 0 → waits after ≡ 0
    untold : waits s ≡ 0 → (g : Answer → Bool) → count_by (is_told u g) es ≡ 0

  post_rests : (letter : Letter) (s : State) → Rests s (post letter s).after (post letter s).effects
  post_rests letter s = by_taken (passes (λ row. takes_from letter.from row.block) (thread_of s letter.to)) refl
    where
      other : passes (λ row. takes_from letter.from row.block) (thread_of s letter.to) ≡ true → waits s ≡ 0 → eqb letter.to u ≡ false
      other takes none = by_same (eqb letter.to u) refl
        where
          by_row : (o : Option ThreadRow) → thread_of s u ≡ o → passes (λ row. takes_from letter.from row.block) o ≡ true → eqb letter.to u ≡ false
          by_row None found h = absurd (cc)
          by_row (Some row) found h = absurd (omega (
            arith,
            none,
            count_found_by (is_number u) (λ row. is_number u row && is_blocked row.block) s.threads row found
                (and_from (is_number u row) (is_blocked row.block) (find_passes (is_number u) s.threads row found) (taker_waits letter.from row.block h)),
          ))

          by_same : (b : Bool) → eqb letter.to u ≡ b → eqb letter.to u ≡ false
          by_same true e = by_row (thread_of s u) refl
              (ap (λ v. passes (λ row. takes_from letter.from row.block) (thread_of s v)) (sym (eqb-true letter.to u e)) ∙ takes)
          by_same false e = e

      alone : (a : Answer) (g : Answer → Bool) → eqb letter.to u ≡ false → count_by (is_told u g) (effect.Answered letter.to a ∷ []) ≡ 0
      alone a g away = omega (arith, count-cons (is_told u g) (effect.Answered letter.to a) [], by_test (eqb letter.to u) away (g a))
        where
          by_test : (b : Bool) → b ≡ false → (c : Bool) → one (b && c) ≡ 0
          by_test true e c = absurd (cc)
          by_test false e c = refl

      by_taken : (b : Bool) → passes (λ row. takes_from letter.from row.block) (thread_of s letter.to) ≡ b
          → Rests s
          (cond b (unblock (as_answer letter) letter.to (record s { letters = s.letters ++ as_received letter ∷ [] }))
          (still (record s { letters = s.letters ++ letter ∷ [] }))).after
          (cond b (unblock (as_answer letter) letter.to (record s { letters = s.letters ++ as_received letter ∷ [] }))
          (still (record s { letters = s.letters ++ letter ∷ [] }))).effects
      by_taken true takes = record { calm = freed_rests letter.to s.threads; untold = λ none g. alone (as_answer letter) g (other takes none) }
      by_taken false takes = record { calm = λ none. none; untold = λ none g. refl }

  deliver_to_rests : (text : List ℕ) (row : AgentRow) (s : State) → Rests s (deliver_to text row s).after (deliver_to text row s).effects
  unfolding and_then
  deliver_to_rests text row s =
      let posts = post_rests (message text row) (record s { agents = with_holding row.number true s.agents }) in
      let es = (post (message text row) (record s { agents = with_holding row.number true s.agents })).effects in
      record {
        calm = posts.calm;
        untold = λ none g. omega (arith, count-cons (is_told u g) (effect.Delivered row.number row.event) es, posts.untold none g);
      }

  each_rests : (text : List ℕ) (rows : List AgentRow) (s : State)
      → Rests s (for_each (deliver_to text) rows s).after (for_each (deliver_to text) rows s).effects
  unfolding and_then for_each
  each_rests text [] s = record { calm = λ none. none; untold = λ none g. refl }
  each_rests text (row ∷ rows) s =
      let first = deliver_to_rests text row s in
      let rest = each_rests text rows (deliver_to text row s).after in
      record {
        calm = λ none. rest.calm (first.calm none);
        untold = λ none g. omega (
          arith,
          count-append (is_told u g) (deliver_to text row s).effects (for_each (deliver_to text) rows (deliver_to text row s).after).effects,
          first.untold none g,
          rest.untold (first.calm none) g,
        );
      }

  pub report_untold : (s : State) (text : List ℕ) → waits s ≡ 0 → (g : Answer → Bool) → count_by (is_told u g) (deliver s rites_event text).effects ≡ 0
  unfolding deliver
  report_untold s text none g = (each_rests text (event_agents s.agents rites_event) s).untold none g

-- as a report the effects of a delivery tell of the same, if the test asks for no delivery
pub rites_same : (q : Effect → Bool) → ((a f d : ℕ) → q (effect.Rites a d) ≡ q (effect.Delivered a f)) → (dead : ℕ) (es : List Effect)
    → count_by q (map (as_rites dead) es) ≡ count_by q es
rites_same q asks dead [] = refl
rites_same q asks dead (x ∷ xs) =
    omega (arith, count-cons q (as_rites dead x) (map (as_rites dead) xs), count-cons q x xs, ap one (same x), rites_same q asks dead xs)
  where
    same : (x : Effect) → q (as_rites dead x) ≡ q x
    same (effect.Called t c) = refl
    same (effect.Answered t a) = refl
    same (effect.Exited t reg c a) = refl
    same (effect.Died t) = refl
    same (effect.Delivered a f) = asks a f dead
    same (effect.Ticked now) = refl
    same (effect.Ended status) = refl
    same (effect.Trapped t e) = refl
    same (effect.Rites a d) = refl
