-- The calls on messages keep the nine parts.
use Rattle.lwp_types.specs.Case.{refusal_case, silent_case, value_case}
use Rattle.lwp_types.specs.Choice.{is_eligible}
use Rattle.lwp_types.specs.CountLaws.{count_found_by, one}
use Rattle.lwp_types.specs.Counts.{has_its_block, is_sending}
use Rattle.lwp_types.specs.Lawful.{NineParts}
use Rattle.lwp_types.specs.Messages.{as_answer, as_received, is_from, letters_of, with_holding, is_letter_of, is_to, with_reception, post, receive}
use Rattle.lwp_types.specs.Messages.{receive_by, received_letter, after_reply, reply, send, takes_from, next_letter, without_letter}
use Rattle.lwp_types.specs.State.{State, ThreadRow, agent_of, row_with_block, still, is_agent, is_id, is_not_blocked, is_number, is_thread, passes, thread_of}
use Rattle.lwp_types.specs.Threads.{join, sleep}
use Rattle.lwp_types.specs.Unblock.{after_block, after_block_for, after_unblock, unblock}
use Rattle.lwp_types.specs.declared.call.Mode.{Mode}
use Rattle.lwp_types.specs.declared.rows.Block.{Block}
use Rattle.lwp_types.specs.declared.rows.Letter.{Letter}
use Rattle.lwp_types.specs.declared.rows.AgentRow.{AgentRow}
use Rattle.lwp_types.specs.declared.call.Answer.TheVariants as answer
use Rattle.lwp_types.specs.declared.call.LwpErr.TheVariants as error
use Rattle.lwp_types.specs.declared.call.Mode.TheVariants as mode
use Rattle.lwp_types.specs.declared.rows.Block.TheVariants as block
use Rattle.lwp_types.specs.FirstLaws.{find-filter}
use Rattle.pod_laws.proofs.Checks.{unless_keeps}
use Rattle.pod_laws.proofs.Chosen.{living}
use Rattle.pod_laws.proofs.Elements.{all_weaker, and_false_right, find_passes, not_of, true_of}
use Rattle.pod_laws.proofs.Holding.{NineParts-idle}
use Rattle.pod_laws.proofs.LetterLists.{letters_received, none_received, senders_received, takeable}
use Rattle.pod_laws.proofs.LetterMoves.{NineParts-answered, NineParts-posted, NineParts-waiting, NineParts-waiting_for, NineParts-woken, is_alone}
use Rattle.pod_laws.proofs.LetterMoves.{letters_counted}
use Rattle.pod_laws.proofs.Rows.{find_rowed, number_known}
use Rattle.pod_laws.proofs.ThreadCalls.{not_some}
use Rattle.pod_laws.proofs.Views.{block_weaker}
use Rattle.std.proofs.Common.{Bool, List, None, Option, Some, [], ap, arith, cond, eqb, false, inl, inr, not, refl, sym, true, ℕ, ◌&&◌, ◌++◌, ◌||◌}
use Rattle.std.proofs.Common.{◌∙◌, ◌∷◌, ◌≡◌, ◌≢◌, ◌≤◌}
use Rattle.std.proofs.lemmas.Bool.{and_from, and_parts, cases_eq, eqb-false, eqb-true, ne_eqb, or_from}
use Rattle.std.specs.Prelude.{is_none, is_some, option_map}

-- a block that takes a letter waits for one
takes_alone : (x : ℕ) (b : Block) → takes_from x b ≡ true → is_alone b ≡ true
takes_alone x block.Not e = absurd (cc)
takes_alone x (block.Joining u) e = absurd (cc)
takes_alone x block.Sending e = absurd (cc)
takes_alone x (block.Receiving from) e = refl
takes_alone x (block.Entering m) e = absurd (cc)
takes_alone x (block.Waiting c) e = absurd (cc)
takes_alone x block.Sleeping e = absurd (cc)

not_from : (letter : Letter) (from : Option ℕ) → takes_from letter.from (block.Receiving from) ≡ false → is_from from letter ≡ false
not_from letter None e = absurd (cc)
not_from letter (Some x) e = ne_eqb letter.from x (λ same. eqb-false x letter.from e (sym same))

-- a thread that doesn't take a letter of this sender doesn't take this one
pub untaken : (s : State) (letter : Letter) → passes (λ row. takes_from letter.from row.block) (thread_of s letter.to) ≡ false
    → (t : ℕ) (row : ThreadRow) (from : Option ℕ) → thread_of s t ≡ Some row → row.block ≡ block.Receiving from → takeable t from letter ≡ false
untaken s letter refuses t row from found e = elim (cases_eq letter.to t) [
  | inl same ↦ and_false_right (is_to t letter) _ (and_false_right (not letter.received) (is_from from letter) (not_from letter from (
      ap (takes_from letter.from) (sym e) ∙ ap (passes (λ row. takes_from letter.from row.block)) (sym found)
      ∙ ap (λ n. passes (λ row. takes_from letter.from row.block) (thread_of s n)) (sym same) ∙ refuses)))
  | inr away ↦ ap (λ b. b && (not letter.received && is_from from letter)) (ne_eqb letter.to t away)
]

-- what was received is taken by nobody
pub received_untaken : (letter : Letter) (t : ℕ) (from : Option ℕ) → letter.received ≡ true → takeable t from letter ≡ false
received_untaken letter t from e = and_false_right (is_to t letter) _ (ap (λ b. not b && is_from from letter) e)

-- a letter is posted: unread, or at once to the thread that waits for it
pub post_keeps : (s : State) (d : Option ℕ) (letter : Letter) → NineParts (record s { letters = s.letters ++ as_received letter ∷ [] }) d
    → (passes (λ row. takes_from letter.from row.block) (thread_of s letter.to) ≡ false → NineParts (record s { letters = s.letters ++ letter ∷ [] }) d)
    → NineParts (post letter s).after d
post_keeps s d letter taken unread = by_test (passes (λ row. takes_from letter.from row.block) (thread_of s letter.to)) refl
  where
    by_test : (b : Bool) → passes (λ row. takes_from letter.from row.block) (thread_of s letter.to) ≡ b
        → NineParts (cond b (unblock (as_answer letter) letter.to (record s { letters = s.letters ++ as_received letter ∷ [] }))
        (still (record s { letters = s.letters ++ letter ∷ [] }))).after
        d
    by_test true e = by_row (thread_of s letter.to) refl e
      where
        by_row : (o : Option ThreadRow) → thread_of s letter.to ≡ o → passes (λ row. takes_from letter.from row.block) o ≡ true
            → NineParts (after_unblock (record s { letters = s.letters ++ as_received letter ∷ [] }) letter.to) d
        by_row None found h = absurd (cc)
        by_row (Some row) found h =
            NineParts-woken (record s { letters = s.letters ++ as_received letter ∷ [] }) d taken letter.to row found (takes_alone letter.from row.block h)
    by_test false e = unread e

-- a letter is received
pub NineParts-received : (s : State) (d : Option ℕ) → NineParts s d → (u : ℕ) → NineParts (record s { letters = with_reception u s.letters }) d
NineParts-received s d was u = record {
  numbers = was.numbers;
  levels = was.levels;
  order = was.order;
  blocks = (
    all_weaker (has_its_block s) (has_its_block (record s { letters = with_reception u s.letters }))
        (λ row h. block_weaker s (record s { letters = with_reception u s.letters }) row.number row.block (λ n e. e) (λ n e. e)
        (λ from e none. none_received u s.letters row.number from none) h)
        s.threads was.blocks.0,
    λ n. senders_received u s.letters n ∙ was.blocks.1 n,
    was.blocks.2,
    was.blocks.3,
    was.blocks.4,
  );
  letters = letters_received (is_thread s) s.agents u s.letters was.letters;
  locks = was.locks;
  owners = was.owners;
  marks = was.marks;
  registrations = was.registrations;
  dies = was.dies;
}

module _ (s : State) (was : NineParts s None) (t : ℕ) (x : ThreadRow) (known : thread_of s t ≡ Some x) (eligible : is_eligible x ≡ true) where
  free : is_not_blocked x.block ≡ true
  free = (and_parts (not x.suspended) (is_not_blocked x.block) eligible).1

  positive : (n : ℕ) → eqb n 0 ≡ false → 1 ≤ n
  positive n some = least n (eqb-false n 0 some)
    where
      least : (n : ℕ) → n ≢ 0 → 1 ≤ n
      least n some = omega arith

  pub sleep_keeps : (ticks : ℕ) → NineParts (sleep s t ticks).after None
  sleep_keeps ticks = by_ticks (eqb ticks 0) refl
    where
      by_ticks : (b : Bool) → eqb ticks 0 ≡ b → NineParts (cond b (value_case s 0) (silent_case (still (after_block_for s t block.Sleeping ticks)))).after None
      by_ticks true none = was
      by_ticks false some = NineParts-waiting_for s None was t x known (λ e. not_some t e) free block.Sleeping refl refl refl ticks (positive ticks some)

  pub join_keeps : (u : ℕ) → NineParts (join s t u).after None
  join_keeps u = unless_keeps (λ s. NineParts s None) s _ _ was (λ passed.
      NineParts-waiting s None was t x known (λ e. not_some t e) free (block.Joining u) refl refl
      (and_from _ _ (true_of _ passed.0) (not_of _ (ne_eqb u t (λ e. eqb-false t u passed.1.0 (sym e))))))

  pub send_keeps : (u room : ℕ) (text : List ℕ) → NineParts (send s t u room text).after None
  send_keeps u room text = unless_keeps (λ s. NineParts s None) s _ _ was (λ passed. sent (true_of _ passed.0) (λ e. eqb-false t u passed.1.0 (sym e)))
    where
      letter : Letter
      letter = record { from = t; to = u; text = text; room = room; received = false }

      sent : is_thread s u ≡ true → u ≢ t → NineParts (post letter (after_block s t block.Sending)).after None
      sent lives differs = post_keeps (after_block s t block.Sending) None letter
          (NineParts-posted s None was t x known (λ e. not_some t e) free (as_received letter) refl lives differs
          (λ v row from found e. received_untaken (as_received letter) v from refl))
          (λ refuses. NineParts-posted s None was t x known (λ e. not_some t e) free letter refl lives differs
          (λ v row from found e. untaken (after_block s t block.Sending) letter refuses v row from (still_there v row from found e) e))
        where
          -- a thread that waits for a letter isn't the sender
          still_there : (v : ℕ) (row : ThreadRow) (from : Option ℕ) → thread_of s v ≡ Some row → row.block ≡ block.Receiving from
              → thread_of (after_block s t block.Sending) v ≡ Some row
          still_there v row from found e = find_rowed (row_with_block t block.Sending) (λ row. refl) s.threads v
              ∙ ap (option_map (row_with_block t block.Sending)) found ∙ ap Some (unchanged (is_number t row) refl)
            where
              unchanged : (b : Bool) → is_number t row ≡ b → row_with_block t block.Sending row ≡ row
              unchanged false away = rw away refl
              unchanged true here =
                  let same : Some row ≡ Some x = sym found ∙ ap (thread_of s) (sym (number_known s.threads v row found) ∙ eqb-true row.number t here) ∙ known in
                  let its : row ≡ x = cc in
                  let bad : is_not_blocked (block.Receiving from)
                  ≡ true = ap is_not_blocked (sym e) ∙ ap (λ (r : ThreadRow). is_not_blocked r.block) its ∙ free in
                  absurd (cc)

  pub receive_keeps : (from : Option ℕ) (how : Mode) → NineParts (receive s t from how).after None
  receive_keeps from how = unless_keeps (λ s. NineParts s None) s _ _ was (λ passed. by_found how (next_letter s.letters t from) refl passed.0 passed.1.0)
    where
      named : (from : Option ℕ) → passes (λ x. not (is_id s x)) from ≡ false → passes (λ x. eqb x t) from ≡ false
          → not (passes (λ x. not (is_id s x) || eqb x t) from) ≡ true
      named None lives differs = refl
      named (Some v) lives differs = not_of _ (or_from _ _ lives differs)

      by_found : (how : Mode) (o : Option Letter) → next_letter s.letters t from ≡ o → passes (λ x. not (is_id s x)) from ≡ false
          → passes (λ x. eqb x t) from ≡ false → NineParts (receive_by s t from how o).after None
      by_found mode.Poll None e lives differs = was
      by_found mode.Poll (Some letter) e lives differs = NineParts-received s None was letter.from
      by_found mode.Block None e lives differs = NineParts-waiting s None was t x known (λ e. not_some t e) free (block.Receiving from) refl
          refl (and_from _ _ (named from lives differs) (ap is_none e))
      by_found mode.Block (Some letter) e lives differs = NineParts-received s None was letter.from
      by_found (mode.Until ticks) None e lives differs = by_ticks (eqb ticks 0) refl
        where
          by_ticks : (b : Bool) → eqb ticks 0 ≡ b
              → NineParts (cond b (refusal_case s error.Timeout) (silent_case (still (after_block_for s t (block.Receiving from) ticks)))).after None
          by_ticks true none = was
          by_ticks false some = NineParts-waiting_for s None was t x known (λ e. not_some t e) free (block.Receiving from) refl refl
              (and_from _ _ (named from lives differs) (ap is_none e)) ticks (positive ticks some)
      by_found (mode.Until ticks) (Some letter) e lives differs = NineParts-received s None was letter.from

sending_is : (b : Block) → 1 ≤ one (is_sending b) → b ≡ block.Sending
sending_is block.Not e = absurd (omega arith)
sending_is (block.Joining u) e = absurd (omega arith)
sending_is block.Sending e = refl
sending_is (block.Receiving from) e = absurd (omega arith)
sending_is (block.Entering m) e = absurd (omega arith)
sending_is (block.Waiting c) e = absurd (omega arith)
sending_is block.Sleeping e = absurd (omega arith)

-- a thread that can be replied to has sent a letter
pub reply_sends : (s : State) (t u : ℕ) → is_none (received_letter s.letters t u) ≡ false → 1 ≤ letters_of s.letters u
reply_sends s t u some = by_found (received_letter s.letters t u) refl some
  where
    by_found : (o : Option Letter) → received_letter s.letters t u ≡ o → is_none o ≡ false → 1 ≤ letters_of s.letters u
    by_found None e h = absurd (cc)
    by_found (Some letter) e h =
        let inner = sym (find-filter (λ letter. letter.received && is_letter_of u letter) (is_to t) s.letters) ∙ e in
        let passed = find_passes (λ letter. is_to t letter && (letter.received && is_letter_of u letter)) s.letters letter inner in
        count_found_by (λ letter. is_to t letter && (letter.received && is_letter_of u letter)) (is_letter_of u) s.letters letter inner
        (and_parts _ _ (and_parts _ _ passed).1).1

-- a reply, also of an exit procedure
module _ (s : State) (d : Option ℕ) (was : NineParts s d) where
  -- one that has a letter and is no agent waits for the reply
  pub sender_row : (u : ℕ) (x : ThreadRow) → thread_of s u ≡ Some x → 1 ≤ letters_of s.letters u → x.block ≡ block.Sending
  sender_row u x known some = sending_is x.block (omega (arith, some, letters_counted s d was u x known))

  pub replied_keeps : (u : ℕ) (text : List ℕ) → is_id s u ≡ true → 1 ≤ letters_of s.letters u → NineParts (after_reply u text s).after d
  replied_keeps u text lives some = by_test (is_agent s u) refl lives
    where
      by_test : (b : Bool) → is_agent s u ≡ b → (is_thread s u || b) ≡ true
          → NineParts (cond b (still (record s { letters = without_letter u s.letters; agents = with_holding u false s.agents }))
          (unblock (answer.Reply text) u (record s { letters = without_letter u s.letters }))).after
          d
      by_test true e h = by_row (agent_of s.agents u) refl e
        where
          by_row : (o : Option AgentRow) → agent_of s.agents u ≡ o → is_some o ≡ true
              → NineParts (record s { letters = without_letter u s.letters; agents = with_holding u false s.agents }) d
          by_row None found h = absurd (cc)
          by_row (Some row) found h = NineParts-idle s d was u row found
      by_test false e h =
          let row = living s u (by_or (is_thread s u) h) in
          NineParts-answered s d was u row.row row.known (sender_row u row.row row.known some)
        where
          by_or : (a : Bool) → (a || false) ≡ true → a ≡ true
          by_or true e = refl
          by_or false e = e

  pub reply_keeps : (t u : ℕ) (text : List ℕ) → NineParts (reply s t u text).after d
  reply_keeps t u text = unless_keeps (λ s. NineParts s d) s _ _ was (λ passed. replied_keeps u text (true_of _ passed.0) (reply_sends s t u passed.1.0))
