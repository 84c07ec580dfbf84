-- What the owner of an agent is answered, and who sends a letter.
use Rattle.answer_laws.proofs.AgentSights.{other_of, seen_by}
use Rattle.answer_laws.proofs.AgentTexts.{filter_push_in}
use Rattle.answer_laws.proofs.Replies.{Never, filter_mapped, filter_none, unless_passed}
use Rattle.answer_laws.proofs.Sights.{answers_append, pushed_own, received_own, without_own}
use Rattle.answer_laws.specs.Agents.{agent_sight}
use Rattle.answer_laws.specs.Owners.{IsRefused, IsSentTo, IsTold, OwnerReceives, OwnersOfNoneAreRefused, OwnersReceive}
use Rattle.answer_laws.specs.Owners.{OwnersReply, Sends, SendsAreLetters, new_letter, sending}
use Rattle.answer_laws.specs.Sights.{answers_to, going_on, sight, sight_by}
use Rattle.lwp_types.specs.Case.{Case, answer_case, refusal_case, silent_case, with_zero}
use Rattle.lwp_types.specs.Counts.{goes_well, has_owner_and_event, is_owners}
use Rattle.lwp_types.specs.FirstLaws.{find-filter}
use Rattle.lwp_types.specs.Lawful.{Lawful}
use Rattle.lwp_types.specs.Messages.{after_reply, as_answer, as_received, agent_with_holding, is_letter_of, is_to, with_reception, post}
use Rattle.lwp_types.specs.Messages.{receive_by, received_letter, letter_with_reception, takes_from, with_holding, without_letter}
use Rattle.lwp_types.specs.State.{State, ThreadRow, row_with_block, is_agent, is_agent_row, is_id, is_number, is_thread, passes, still, thread_of, with_block}
use Rattle.lwp_types.specs.Step.{case_of, end_effects, ends, own_effects, step, step_by, step_if, step_outcome}
use Rattle.lwp_types.specs.Unblock.{after_block, unblock, zero_answer}
use Rattle.lwp_types.specs.declared.call.Answer.{Answer}
use Rattle.lwp_types.specs.declared.call.Call.{Call}
use Rattle.lwp_types.specs.declared.rows.AgentRow.{AgentRow}
use Rattle.lwp_types.specs.declared.rows.Block.{Block}
use Rattle.lwp_types.specs.declared.rows.Letter.{Letter}
use Rattle.pod_laws.specs.Forgotten.{asks_for}
use Rattle.pod_laws.proofs.Absent.{the_absent_are_refused}
use Rattle.pod_laws.proofs.Chosen.{chosen, living}
use Rattle.pod_laws.proofs.Elements.{all_found, find_map, find_passes}
use Rattle.pod_laws.proofs.Holding.{no_thread}
use Rattle.pod_laws.proofs.Rows.{find_rowed, number_known}
use Rattle.std.proofs.Common.{Bool, List, None, Option, Some, [], ap, append-nil, cond, eqb, false, length}
use Rattle.std.proofs.Common.{not, refl, subst, sym, true, ℕ, ◌&&◌, ◌++◌, ◌||◌, ◌∙◌, ◌∷◌, ◌≡◌, ◌≢◌, ◌≤◌}
use Rattle.std.proofs.lemmas.Bool.{and_from, and_parts, eq-eqb, eqb-true, le-ltb, ne_eqb}
use Rattle.std.specs.List.{filter, filter_map, find, list_all}
use Rattle.std.specs.Option.{option_to_list}
use Rattle.std.specs.Prelude.{is_none, is_some, map, nat_lt, option_map}
use Rattle.lwp_types.specs.declared.call.Answer.TheVariants as answer
use Rattle.lwp_types.specs.declared.call.Call.TheVariants as call
use Rattle.lwp_types.specs.declared.call.Effect.TheVariants as effect
use Rattle.lwp_types.specs.declared.call.LwpErr.TheVariants as error
use Rattle.lwp_types.specs.declared.call.Mode.TheVariants as mode
use Rattle.lwp_types.specs.declared.rows.Block.TheVariants as block

-- ---- the caller

-- what the caller is told: what is told on the way, and its own answer
pub told_itself : (t : ℕ) (c : Call) (made : Case) → answers_to t (step_outcome t c made).effects ≡ answers_to t made.others ++ option_to_list made.own
told_itself t c made = answers_append t made.others (own_effects t made.own ++ end_effects made.after) ∙ ap (λ x. answers_to t made.others ++ x) rest
  where
    own : (o : Option Answer) → answers_to t (own_effects t o) ≡ option_to_list o
    own None = refl
    own (Some a) = rw (eq-eqb t t refl) refl

    no_end : (b : Bool) → answers_to t (cond b (effect.Ended made.after.status ∷ []) []) ≡ []
    no_end true = refl
    no_end false = refl

    rest : answers_to t (own_effects t made.own ++ end_effects made.after) ≡ option_to_list made.own
    rest = answers_append t (own_effects t made.own) (end_effects made.after) ∙ (λ i. own made.own i ++ no_end (ends made.after) i)
        ∙ append-nil (option_to_list made.own)

-- what another is told: what is told on the way
pub told_other : (u t : ℕ) → t ≢ u → (c : Call) (made : Case) → answers_to u (step_outcome t c made).effects ≡ answers_to u made.others
told_other u t other c made = answers_append u made.others (own_effects t made.own ++ end_effects made.after)
    ∙ ap (λ x. answers_to u made.others ++ x) rest ∙ append-nil (answers_to u made.others)
  where
    own : (o : Option Answer) → answers_to u (own_effects t o) ≡ []
    own None = refl
    own (Some a) = rw (ne_eqb t u other) refl

    no_end : (b : Bool) → answers_to u (cond b (effect.Ended made.after.status ∷ []) []) ≡ []
    no_end true = refl
    no_end false = refl

    rest : answers_to u (own_effects t made.own ++ end_effects made.after) ≡ []
    rest = answers_append u (own_effects t made.own) (end_effects made.after) ∙ (λ i. own made.own i ++ no_end (ends made.after) i)

-- who is blocked waits so, and nothing else of it changes
pub blocked_row : (t : ℕ) (b : Block) (rows : List ThreadRow) (x : ThreadRow) → find (is_number t) rows ≡ Some x
    → find (is_number t) (with_block t b rows) ≡ Some (record x { block = b })
blocked_row t b rows x known = find_rowed (row_with_block t b) (λ row. refl) rows t ∙ ap (option_map (row_with_block t b)) known
    ∙ ap Some (rw (eq-eqb x.number t (number_known rows t x known)) refl)

pub other_row : (t u : ℕ) (b : Block) (rows : List ThreadRow) → t ≢ u → find (is_number u) (with_block t b rows) ≡ find (is_number u) rows
other_row t u b rows other = find_rowed (row_with_block t b) (λ row. refl) rows u ∙ unmoved (find (is_number u) rows) refl
  where
    unmoved : (o : Option ThreadRow) → find (is_number u) rows ≡ o → option_map (row_with_block t b) o ≡ o
    unmoved None e = refl
    unmoved (Some row) e = ap Some (rw (ne_eqb row.number t (λ is. other (sym is ∙ number_known rows u row e))) refl)

-- ---- an agent's letter, as its owner finds it

module _ (s : State) (was : Lawful s None) (t a : ℕ) (row : AgentRow) (there : find (is_agent_row a) s.agents ≡ Some row) (owns : row.owner ≡ t) where
  lives : is_thread s t ≡ true
  lives = ap (is_thread s) (sym owns)
      ∙ (and_parts (is_thread s row.owner) _ (all_found (is_agent_row a) (has_owner_and_event s) s.agents row was.nine.owners.2 there)).0

  away : a ≢ t
  away e = let bad : true ≡ false = sym lives ∙ ap (is_thread s) (sym e) ∙ no_thread s None was.nine a row there in cc

  is_there : is_id s a ≡ true
  is_there = either (is_thread s a) (is_agent s a) (ap is_some there)
    where
      either : (x y : Bool) → y ≡ true → (x || y) ≡ true
      either true y h = refl
      either false y h = h

  swapped : (a b c : Bool) → (a && (b && c)) ≡ (c && (b && a))
  swapped true true true = refl
  swapped true true false = refl
  swapped true false true = refl
  swapped true false false = refl
  swapped false true true = refl
  swapped false true false = refl
  swapped false false true = refl
  swapped false false false = refl

  -- of the letters to t those of a, and of those of a the ones to t
  find_swapped : (q : Letter → Bool)
      → find (λ x. q x && is_letter_of a x) (filter (is_to t) s.letters) ≡ find (λ x. q x && is_to t x) (filter (is_letter_of a) s.letters)
  find_swapped q = find-filter (λ x. q x && is_letter_of a x) (is_to t) s.letters
      ∙ (λ i. find (λ x. swapped (is_to t x) (q x) (is_letter_of a x) i) s.letters)
      ∙ sym (find-filter (λ x. q x && is_to t x) (is_letter_of a) s.letters)

  module _ (l : Letter) (its : filter (is_letter_of a) s.letters ≡ l ∷ []) where
    first : find (is_letter_of a) s.letters ≡ Some l
    first = find-first s.letters its
      where
        find-first : (xs : List Letter) → filter (is_letter_of a) xs ≡ l ∷ [] → find (is_letter_of a) xs ≡ Some l
        find-first [] e = absurd (cc)
        find-first (x ∷ xs) e = by_test (is_letter_of a x) e (find-first xs)
          where
            by_test : (b : Bool) → cond b (x ∷ filter (is_letter_of a) xs) (filter (is_letter_of a) xs) ≡ l ∷ []
                → (filter (is_letter_of a) xs ≡ l ∷ [] → find (is_letter_of a) xs ≡ Some l) → cond b (Some x) (find (is_letter_of a) xs) ≡ Some l
            by_test true h rest = cc h
            by_test false h rest = rest h

    from : l.from ≡ a
    from = eqb-true l.from a (find_passes (is_letter_of a) s.letters l first)

    to : is_to t l ≡ true
    to = by_same (eqb row.number l.from) (eq-eqb row.number l.from (eqb-true row.number a (find_passes (is_agent_row a) s.agents row there) ∙ sym from))
        (all_found (is_agent_row a) (is_owners l) s.agents row
        (and_parts (not (eqb l.from l.to)) _
        (and_parts (is_thread s l.to) _ (all_found (is_letter_of a) (goes_well s) s.letters l was.nine.letters first)).1).1
        there)
      where
        by_same : (b : Bool) → b ≡ true → (not b || eqb row.owner l.to) ≡ true → is_to t l ≡ true
        by_same true e h = eq-eqb l.to t (sym (eqb-true row.owner l.to h) ∙ owns)
        by_same false e h = absurd (cc)

    found : (q : Letter → Bool) → q l ≡ true → find (λ x. q x && is_letter_of a x) (filter (is_to t) s.letters) ≡ Some l
    found q h = find_swapped q ∙ ap (find (λ x. q x && is_to t x)) its ∙ by_test (q l && is_to t l) (and_from _ _ h to)
      where
        by_test : (b : Bool) → b ≡ true → cond b (Some l) None ≡ Some l
        by_test true e = refl
        by_test false e = absurd (cc)

    marked : filter (is_letter_of a) (with_reception l.from s.letters) ≡ as_received l ∷ []
    marked = filter_mapped (is_letter_of a) (letter_with_reception l.from) (λ x. refl) s.letters
        ∙ ap (map (letter_with_reception l.from)) its ∙ by_test (eqb l.from l.from) (eq-eqb l.from l.from refl)
      where
        by_test : (b : Bool) → b ≡ true → record l { received = b || l.received } ∷ [] ≡ as_received l ∷ []
        by_test true e = refl
        by_test false e = absurd (cc)

    -- it receives the letter
    receives : l.received ≡ false
        → IsTold t a (answer.Letter a l.text l.room ∷ []) (sight s t) (record { row = Some row; letters = as_received l ∷ [] })
        (step_outcome t (call.Recv (Some a) mode.Block) (case_of s t (call.Recv (Some a) mode.Block)))
    receives fresh =
        subst (λ made. IsTold t a (answer.Letter a l.text l.room ∷ []) (sight s t) (record { row = Some row; letters = as_received l ∷ [] })
        (step_outcome t (call.Recv (Some a) mode.Block) made))
        (sym made_so) (record {
          told = told_itself t (call.Recv (Some a) mode.Block) (answer_case (record s { letters = with_reception l.from s.letters }) (as_answer l))
              ∙ ap (λ n. answer.Letter n l.text l.room ∷ []) from;
          itself_then = λ i. sight_by (thread_of s t) (received_own t Never l.from (λ e. away (sym from ∙ e)) s.letters i);
          agent_then = λ i. seen_by (there i) (marked i);
        })
      where
        made_so : case_of s t (call.Recv (Some a) mode.Block) ≡ answer_case (record s { letters = with_reception l.from s.letters }) (as_answer l)
        made_so = unless_passed s _ _ (ap not is_there, (ne_eqb a t away, tt))
            ∙ ap (receive_by s t (Some a) mode.Block) (found (λ x. not x.received) (ap not fresh))

    -- it replies to the letter
    replies : l.received ≡ true → (text : List ℕ) → length text ≤ l.room
        → IsTold t a (zero_answer ∷ []) (sight s t) (record { row = Some (record row { holding = false }); letters = [] })
        (step_outcome t (call.Reply a text) (case_of s t (call.Reply a text)))
    replies received text fits =
        subst (λ made. IsTold t a (zero_answer ∷ []) (sight s t) (record { row = Some (record row { holding = false }); letters = [] })
        (step_outcome t (call.Reply a text) made))
        (sym made_so) (record {
          told = told_itself t (call.Reply a text)
              (with_zero (still (record s { letters = without_letter a s.letters; agents = with_holding a false s.agents })));
          itself_then = λ i. sight_by (thread_of s t) (without_own t Never a away s.letters i);
          agent_then = λ i. seen_by (rows i) (filter_none (is_letter_of a) s.letters i);
        })
      where
        rows : find (is_agent_row a) (with_holding a false s.agents) ≡ Some (record row { holding = false })
        rows = find_map (is_agent_row a) (is_agent_row a) (agent_with_holding a false) (λ row. refl) s.agents
            ∙ ap (option_map (agent_with_holding a false)) there ∙ ap Some (rw (find_passes (is_agent_row a) s.agents row there) refl)

        found_it : received_letter s.letters t a ≡ Some l
        found_it = found (λ x. x.received) received

        idle : after_reply a text s ≡ still (record s { letters = without_letter a s.letters; agents = with_holding a false s.agents })
        idle = by_agent (is_agent s a) (ap is_some there)
          where
            by_agent : (b : Bool) → b ≡ true
                → cond b (still (record s { letters = without_letter a s.letters; agents = with_holding a false s.agents }))
                (unblock (answer.Reply text) a (record s { letters = without_letter a s.letters }))
                ≡ still (record s { letters = without_letter a s.letters; agents = with_holding a false s.agents })
            by_agent true e = refl
            by_agent false e = absurd (cc)

        made_so : case_of s t (call.Reply a text)
            ≡ with_zero (still (record s { letters = without_letter a s.letters; agents = with_holding a false s.agents }))
        made_so = unless_passed s _ _ (
          ap not is_there,
          (ap is_none found_it, (ap (passes (λ (letter : Letter). nat_lt letter.room (length text))) found_it ∙ le-ltb l.room (length text) fits, tt)),
        )
            ∙ ap with_zero idle

  -- none is there that it hasn't received
  none_open : (ls : List Letter) → list_all (λ (letter : Letter). letter.received) ls ≡ true → find (λ x. not x.received && is_to t x) ls ≡ None
  none_open [] all = refl
  none_open (l ∷ ls) all =
      let parts = and_parts l.received (list_all (λ (letter : Letter). letter.received) ls) all in
      by_test l.received parts.0 (none_open ls parts.1)
    where
      by_test : (b : Bool) → b ≡ true → find (λ x. not x.received && is_to t x) ls ≡ None
          → cond (not b && is_to t l) (Some l) (find (λ x. not x.received && is_to t x) ls) ≡ None
      by_test true e rest = rest
      by_test false e rest = absurd (cc)

  waits : list_all (λ (letter : Letter). letter.received) (filter (is_letter_of a) s.letters) ≡ true
      → IsTold t a [] (record (sight s t) { waits = Some (block.Receiving (Some a)) }) (agent_sight s a)
      (step_outcome t (call.Recv (Some a) mode.Block) (case_of s t (call.Recv (Some a) mode.Block)))
  waits all = let who = living s t lives in
      subst (λ made.
      IsTold t a [] (record (sight s t) { waits = Some (block.Receiving (Some a)) }) (agent_sight s a) (step_outcome t (call.Recv (Some a) mode.Block) made))
      (sym made_so) (record {
        told = told_itself t (call.Recv (Some a) mode.Block) (silent_case (still (after_block s t (block.Receiving (Some a)))));
        itself_then = (λ i. sight_by (blocked_row t (block.Receiving (Some a)) s.threads who.row who.known i) (filter (is_letter_of t) s.letters))
            ∙ ap (λ o. record (sight_by o (filter (is_letter_of t) s.letters)) { waits = Some (block.Receiving (Some a)) }) (sym who.known);
        agent_then = refl;
      })
    where
      made_so : case_of s t (call.Recv (Some a) mode.Block) ≡ silent_case (still (after_block s t (block.Receiving (Some a))))
      made_so = unless_passed s _ _ (ap not is_there, (ne_eqb a t away, tt))
          ∙ ap (receive_by s t (Some a) mode.Block) (find_swapped (λ x. not x.received) ∙ none_open (filter (is_letter_of a) s.letters) all)

pub owners_receive : OwnersReceive
unfolding step step_by
owners_receive s was t a row turn there owns = subst (λ o. OwnerReceives s t a row (step_if s (call.Recv (Some a) mode.Block) o)) (sym turn) (record {
  finds = λ l its fresh. receives s was t a row there owns l its fresh;
  waits = λ all. waits s was t a row there owns all;
})

pub owners_reply : OwnersReply
unfolding step step_by
owners_reply s was t a row turn there owns l its received text fits =
    subst (λ o.
    IsTold t a (zero_answer ∷ []) (sight s t) (record { row = Some (record row { holding = false }); letters = [] }) (step_if s (call.Reply a text) o))
    (sym turn) (replies s was t a row there owns l its received text fits)

pub owners_of_none_are_refused : OwnersOfNoneAreRefused
unfolding step step_by
owners_of_none_are_refused s t a turn absent = (
  λ how. subst (λ o. IsRefused t a s (step_if s (call.Recv (Some a) how) o)) (sym turn) (is_refused (call.Recv (Some a) how) (eq-eqb a a refl)),
  λ text. subst (λ o. IsRefused t a s (step_if s (call.Reply a text) o)) (sym turn) (is_refused (call.Reply a text) (eq-eqb a a refl)),
)
  where
    is_refused : (c : Call) → asks_for a c ≡ true → IsRefused t a s (step_outcome t c (case_of s t c))
    is_refused c asks = subst (λ made. IsRefused t a s (step_outcome t c made)) (sym (the_absent_are_refused s t a absent c asks)) (record {
      refused = record { told = told_itself t c (refusal_case s error.NonExist); itself_then = refl; agent_then = refl };
    })

-- ---- who sends a letter

module _ (s : State) (was : Lawful s None) (t k room : ℕ) (text : List ℕ) (x y : ThreadRow) (known : thread_of s t ≡ Some x)
    (known_k : thread_of s k ≡ Some y) (other : k ≢ t) where
  abbrev sent : Letter
  sent = new_letter t k room text

  abbrev now : State
  now = after_block s t block.Sending

  abbrev c : Call
  c = call.Send k room text

  made_so : case_of s t c ≡ silent_case (post sent now)
  made_so = unless_passed s _ _ (ap (λ o. not (is_some o)) known_k, (ne_eqb t k (λ e. other (sym e)), tt))

  own_in : (l : Letter) → is_letter_of t l ≡ true → filter (is_letter_of t) (s.letters ++ l ∷ []) ≡ filter (is_letter_of t) s.letters ++ l ∷ []
  own_in l e = filter_push_in (is_letter_of t) s.letters l e

  its_row : find (is_number t) now.threads ≡ Some (record x { block = block.Sending })
  its_row = blocked_row t block.Sending s.threads x known

  k_row : thread_of now k ≡ Some y
  k_row = other_row t k block.Sending s.threads (λ e. other (sym e)) ∙ known_k

  takes : (b : Bool) → passes (λ row. takes_from t row.block) (thread_of s k) ≡ b → passes (λ (row : ThreadRow). takes_from t row.block) (thread_of now k) ≡ b
  takes b e = ap (passes (λ (row : ThreadRow). takes_from t row.block)) (k_row ∙ sym known_k) ∙ e

  posted : (b : Bool) → passes (λ row. takes_from t row.block) (thread_of s k) ≡ b
      → post sent now
      ≡ cond b (unblock (as_answer sent) k (record now { letters = s.letters ++ as_received sent ∷ [] }))
      (still (record now { letters = s.letters ++ sent ∷ [] }))
  posted b e =
      ap (λ b. cond b (unblock (as_answer sent) k (record now { letters = s.letters ++ as_received sent ∷ [] }))
      (still (record now { letters = s.letters ++ sent ∷ [] })))
      (takes b e)

  -- the sender waits, with the letter
  sender_so : (l : Letter) → is_letter_of t l ≡ true
      → sight_by (Some (record x { block = block.Sending })) (filter (is_letter_of t) (s.letters ++ l ∷ [])) ≡ sending (sight s t) l
  sender_so l e = (λ i. sight_by (Some (record x { block = block.Sending })) (own_in l e i))
      ∙ ap (λ o. sending (sight_by o (filter (is_letter_of t) s.letters)) l) (sym known)

  handed : passes (λ row. takes_from t row.block) (thread_of s k) ≡ true
      → IsSentTo t k (sending (sight s t) (as_received sent)) (going_on (sight s k)) (answer.Letter t text room ∷ []) (step_outcome t c (case_of s t c))
  handed e = subst
      (λ made. IsSentTo t k (sending (sight s t) (as_received sent)) (going_on (sight s k)) (answer.Letter t text room ∷ []) (step_outcome t c made))
      (sym (made_so ∙ ap silent_case (posted true e))) (record {
        sender_then = (λ i. sight_by ((other_row k t block.Not now.threads other ∙ its_row) i) (filter (is_letter_of t) (s.letters ++ as_received sent ∷ [])))
            ∙ sender_so (as_received sent) (eq-eqb t t refl);
        sender_told = told_itself t c (silent_case (unblock (as_answer sent) k (record now { letters = s.letters ++ as_received sent ∷ [] })))
            ∙ none (eqb k t) (ne_eqb k t other);
        receiver_then = (λ i. sight_by (blocked_row k block.Not now.threads y k_row i) (pushed_own k Never (as_received sent) (λ e. other (sym e)) s.letters i))
            ∙ ap (λ o. going_on (sight_by o (filter (is_letter_of k) s.letters))) (sym known_k);
        receiver_told = told_other k t (λ e. other (sym e)) c
            (silent_case (unblock (as_answer sent) k (record now { letters = s.letters ++ as_received sent ∷ [] })))
            ∙ one (eqb k k) (eq-eqb k k refl);
      })
    where
      none : (b : Bool) → b ≡ false → filter_map (λ (o : Option Answer). o) (cond b (Some (as_answer sent)) None ∷ []) ++ [] ≡ []
      none true e = absurd (cc)
      none false e = refl

      one : (b : Bool) → b ≡ true → filter_map (λ (o : Option Answer). o) (cond b (Some (as_answer sent)) None ∷ []) ≡ answer.Letter t text room ∷ []
      one true e = refl
      one false e = absurd (cc)

  kept : passes (λ row. takes_from t row.block) (thread_of s k) ≡ false
      → IsSentTo t k (sending (sight s t) sent) (sight s k) [] (step_outcome t c (case_of s t c))
  kept e = subst (λ made. IsSentTo t k (sending (sight s t) sent) (sight s k) [] (step_outcome t c made))
      (sym (made_so ∙ ap silent_case (posted false e))) (record {
        sender_then = (λ i. sight_by (its_row i) (filter (is_letter_of t) (s.letters ++ sent ∷ []))) ∙ sender_so sent (eq-eqb t t refl);
        sender_told = told_itself t c (silent_case (still (record now { letters = s.letters ++ sent ∷ [] })));
        receiver_then = λ i. sight_by ((k_row ∙ sym known_k) i) (pushed_own k Never sent (λ e. other (sym e)) s.letters i);
        receiver_told = told_other k t (λ e. other (sym e)) c (silent_case (still (record now { letters = s.letters ++ sent ∷ [] })));
      })

pub sends_are_letters : SendsAreLetters
unfolding step step_by
sends_are_letters s was t k turn lives apart room text =
    let run = chosen s was.nine t turn in
    let who = living s k lives in
    let other = other_of t k (ap not apart) in
    subst (λ o. Sends s t k room text (step_if s (call.Send k room text) o)) (sym turn) (record {
      handed = handed s was t k room text run.row who.row run.known who.known other;
      kept = kept s was t k room text run.row who.row run.known who.known other;
    })
