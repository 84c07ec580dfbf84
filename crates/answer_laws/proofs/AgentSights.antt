-- What a step of another does to an agent and its letter: nothing.
use Rattle.answer_laws.proofs.Replies.{Never, filter_none, unless_passed}
use Rattle.answer_laws.proofs.Sights.{Away, found_other, pushed_own, received_own, replied_other, without_own}
use Rattle.answer_laws.specs.Agents.{AgentSight, DestroyedAgentsAreGone, OthersLeaveAgents, agent_sight, no_agent, spares_agent}
use Rattle.lwp_types.specs.Agents.{after_agent_end, agents_of, belongs_to, end_agent, make_agent, new_agent}
use Rattle.lwp_types.specs.Case.{Case, Check, refusal_case, silent_case, unless, value_case, with_zero}
use Rattle.lwp_types.specs.Choice.{choice}
use Rattle.lwp_types.specs.Conditions.{after_wait, after_wake, after_wake_all, condition_of, waking}
use Rattle.lwp_types.specs.CountLaws.{count-cons, count-filter, count_agree, count_found_and, one}
use Rattle.lwp_types.specs.Counts.{goes_well, is_owners}
use Rattle.lwp_types.specs.Death.{answer_joiners, bury, death, destroy_case, end_agents, refuse_receivers, refuse_sender}
use Rattle.lwp_types.specs.Death.{refuse_senders, release_all, return_from, run_all_exits, withdraw}
use Rattle.lwp_types.specs.Exceptions.{caught_marks, exits_of, first_frames, frames, handler_in, later_frames, searching, with_match}
use Rattle.lwp_types.specs.Exits.{catch_case, exit_case, leave_frame, excnotify_case_by, run_exit, unwind}
use Rattle.lwp_types.specs.Lawful.{Lawful, NineParts}
use Rattle.lwp_types.specs.Messages.{after_reply, as_received, agent_with_holding, is_letter_of, is_open, is_to, next_letter}
use Rattle.lwp_types.specs.Messages.{post, receive_by, receivers_of, senders_to, takes_from, with_holding, without_letter}
use Rattle.lwp_types.specs.MonitorRelease.{grant, last_lock, next_owner, release, without_lock}
use Rattle.lwp_types.specs.Monitors.{after_exit, after_request, depth_in, enter_case, is_owned_by_other, with_depth}
use Rattle.lwp_types.specs.State.{Outcome, State, and_then, for_each, in_order, is_agent, is_agent_row, is_id, is_thread, marks_in, passes, still, thread_of}
use Rattle.lwp_types.specs.Step.{case_of, step, step_by, step_if}
use Rattle.lwp_types.specs.Unblock.{after_block, after_block_for, nonexist, unblock, zero_answer}
use Rattle.lwp_types.specs.declared.call.Call.{Call}
use Rattle.lwp_types.specs.declared.call.ExitCall.{ExitCall}
use Rattle.lwp_types.specs.declared.call.Func.{Func}
use Rattle.lwp_types.specs.declared.call.Mode.{Mode}
use Rattle.lwp_types.specs.declared.rows.AgentRow.{AgentRow}
use Rattle.lwp_types.specs.declared.rows.CondRow.{CondRow}
use Rattle.lwp_types.specs.declared.rows.ExitMark.{ExitMark}
use Rattle.lwp_types.specs.declared.rows.Found.{Found}
use Rattle.lwp_types.specs.declared.rows.Letter.{Letter}
use Rattle.lwp_types.specs.declared.rows.Lock.{Lock}
use Rattle.lwp_types.specs.declared.rows.Mark.{Mark}
use Rattle.lwp_types.specs.declared.rows.Request.{Request}
use Rattle.lwp_types.specs.declared.rows.WaitRow.{WaitRow}
use Rattle.pod_laws.proofs.Checks.{Passed}
use Rattle.pod_laws.proofs.Chosen.{chosen, living}
use Rattle.pod_laws.proofs.Deaths.{unowning}
use Rattle.pod_laws.proofs.Elements.{all_found, find_filter_none, find_filter_same, find_map, find_passes, find_push_some, true_of}
use Rattle.pod_laws.proofs.Holding.{agents_once, no_thread}
use Rattle.std.proofs.Common.{Bool, List, None, Option, Some, [], ap, arith, cond, count_by, eqb, false, not}
use Rattle.std.proofs.Common.{refl, subst, sym, true, ℕ, ◌&&◌, ◌++◌, ◌-◌, ◌||◌, ◌∙◌, ◌∷◌, ◌≡◌, ◌≢◌}
use Rattle.std.proofs.lemmas.Bool.{and_from, and_parts, eq-eqb, eqb-true, ne_eqb}
use Rattle.std.specs.List.{filter, find, fold, list_all}
use Rattle.std.specs.Prelude.{is_some, map, nat_le, option_map}
use Rattle.lwp_types.specs.declared.call.Call.TheVariants as call
use Rattle.lwp_types.specs.declared.call.ExitCall.TheVariants as exit
use Rattle.lwp_types.specs.declared.call.Func.TheVariants as func
use Rattle.lwp_types.specs.declared.call.LwpErr.TheVariants as error
use Rattle.lwp_types.specs.declared.call.Mode.TheVariants as mode
use Rattle.lwp_types.specs.declared.rows.Block.TheVariants as block

abbrev pub seen_by : Option AgentRow → List Letter → AgentSight
seen_by row letters = record { row = row; letters = letters }

module _ (a : ℕ) where
  abbrev pub Kept : State → State → Type 0
  Kept s after = agent_sight after a ≡ agent_sight s a

  -- none of its letters is for v
  abbrev pub Off : ℕ → State → Type 0
  Off v s = Away a Never v s

  off_after : (v : ℕ) (s after : State) → Kept s after → Off v s → Off v after
  off_after v s after kept off = ap (λ x. count_by (is_to v) x.letters) kept ∙ off

  kept_then : (s : State) (first : Outcome) (more : State → Outcome) → Kept s first.after → Kept first.after (more first.after).after
      → Kept s (and_then first more).after
  unfolding and_then
  kept_then s first more one two = two ∙ one

  kept_unless : (s : State) (checks : List Check) (otherwise : Case) → (Passed checks → Kept s otherwise.after) → Kept s (unless s checks otherwise).after
  unfolding unless
  kept_unless s [] otherwise fine = fine tt
  kept_unless s (check ∷ checks) otherwise fine = by_test check.0 refl (λ here. kept_unless s checks otherwise (λ rest. fine (here, rest)))
    where
      by_test : (b : Bool) → check.0 ≡ b → (check.0 ≡ false → Kept s (unless s checks otherwise).after)
          → Kept s (cond b (refusal_case s check.1) (unless s checks otherwise)).after
      by_test true e rest = refl
      by_test false e rest = rest e

  kept_cond : (s : State) (b : Bool) (one two : Outcome) → Kept s one.after → Kept s two.after → Kept s (cond b one two).after
  kept_cond s true one two first second = first
  kept_cond s false one two first second = second

  cond_case : (s : State) (b : Bool) (one two : Case) → Kept s one.after → Kept s two.after → Kept s (cond b one two).after
  cond_case s true one two first second = first
  cond_case s false one two first second = second

  kept_grant : (s : State) (m : ℕ) (o : Option Request) → Kept s (grant o (record s { locks = without_lock m s.locks })).after
  kept_grant s m None = refl
  kept_grant s m (Some r) = refl

  kept_release : (m : ℕ) (s : State) → Kept s (release m s).after
  kept_release m s = kept_grant s m (next_owner s m)

  kept_exited : (s : State) (m : ℕ) → Kept s (after_exit m s).after
  kept_exited s m = kept_cond s (nat_le (depth_in s.locks m) 1) (release m s)
      (still (record s { locks = with_depth m (depth_in s.locks m - 1) s.locks })) (kept_release m s) refl

  kept_fold : (m : ℕ) (ws : List WaitRow) (s : State) → Kept s (fold (λ now w. after_wake m w now) s ws)
  kept_fold m [] s = refl
  kept_fold m (w ∷ ws) s = kept_fold m ws (after_wake m w s)

  kept_woken : (o : Option CondRow) (ws : List WaitRow) (s : State) → Kept s (after_wake_all o ws s)
  kept_woken None ws s = refl
  kept_woken (Some row) ws s = kept_fold row.mon ws s

  kept_waking : (s : State) (t c : ℕ) (more : List Check) (ws : List WaitRow) → Kept s (waking s t c more ws).after
  kept_waking s t c more ws = kept_unless s _ _ (λ passed. kept_woken (condition_of s.conditions c) ws s)

  -- a letter of another is done with
  kept_replied : (s : State) (v : ℕ) (text : List ℕ) → v ≢ a → Kept s (after_reply v text s).after
  kept_replied s v text other = kept_cond s (is_agent s v) _ _ idle (λ i. seen_by (agent_sight s a).row (without_own a Never v other s.letters i))
    where
      unmoved : (o : Option AgentRow) → find (is_agent_row a) s.agents ≡ o → option_map (agent_with_holding v false) o ≡ o
      unmoved None e = refl
      unmoved (Some row) e = ap Some
          (rw (ne_eqb row.number v (λ is. other (sym is ∙ eqb-true row.number a (find_passes (is_agent_row a) s.agents row e)))) refl)

      rows : find (is_agent_row a) (with_holding v false s.agents) ≡ find (is_agent_row a) s.agents
      rows = find_map (is_agent_row a) (is_agent_row a) (agent_with_holding v false) (λ row. refl) s.agents ∙ unmoved (find (is_agent_row a) s.agents) refl

      idle : Kept s (record s { letters = without_letter v s.letters; agents = with_holding v false s.agents })
      idle = λ i. seen_by (rows i) (without_own a Never v other s.letters i)

  -- changes for each of a list, all of whose elements are others
  kept_all : {A : Type 0} (p : A → Bool) (change : A → State → Outcome) → ((x : A) (s : State) → p x ≡ true → Kept s (change x s).after)
      → (xs : List A) → list_all p xs ≡ true → (s : State) → Kept s (for_each change xs s).after
  unfolding for_each
  kept_all p change keeps [] all s = refl
  kept_all p change keeps (x ∷ xs) all s =
      let parts = and_parts (p x) (list_all p xs) all in
      kept_then s (change x s) (for_each change xs) (keeps x s parts.0) (kept_all p change keeps xs parts.1 (change x s).after)

  kept_each : {A : Type 0} (change : A → State → Outcome) → ((x : A) (s : State) → Kept s (change x s).after) → (xs : List A) (s : State)
      → Kept s (for_each change xs s).after
  unfolding for_each
  kept_each change keeps [] s = refl
  kept_each change keeps (x ∷ xs) s = kept_then s (change x s) (for_each change xs) (keeps x s) (kept_each change keeps xs (change x s).after)

  -- an agent ends that is another
  kept_end : (v : ℕ) (s : State) → v ≢ a → Kept s (end_agent v s).after
  kept_end v s other = kept_then s woke (λ now. still (after_agent_end v now)) (kept_each (unblock nonexist) (λ x now. refl) (receivers_of s v) s)
      (λ i. seen_by (find_filter_same (is_agent_row a) (λ row. not (is_agent_row v row)) keeps woke.after.agents i)
      (without_own a Never v other woke.after.letters i))
    where
      woke : Outcome
      woke = for_each (unblock nonexist) (receivers_of s v) s

      keeps : (row : AgentRow) → is_agent_row a row ≡ true → not (is_agent_row v row) ≡ true
      keeps row e = ap not (ne_eqb row.number v (λ is. other (sym is ∙ eqb-true row.number a e)))

  -- ---- exit procedures of v, which its letters aren't for

  kept_exit : (s : State) (v : ℕ) → Off v s → (x : ExitCall) → Kept s (exit_case s v x).after
  kept_exit s v off (exit.MonExit m) = kept_unless s _ _ (λ passed. kept_exited s m)
  kept_exit s v off (exit.MonBreak m) = kept_unless s _ _ (λ passed. kept_release m s)
  kept_exit s v off (exit.Notify c) = kept_waking s v c _ _
  kept_exit s v off (exit.Broadcast c) = kept_waking s v c _ _
  kept_exit s v off (exit.Reply to text) = kept_unless s _ _ (λ passed. kept_replied s to text (replied_other a Never v s off to passed.1.0))
  kept_exit s v off (exit.Resume w) = kept_unless s _ _ (λ passed. refl)
  kept_exit s v off (exit.SetExit code) = kept_unless s _ _ (λ passed. refl)
  kept_exit s v off (exit.Note text) = refl

  kept_exits : (v : ℕ) (xs : List ExitMark) (s : State) → Off v s → Kept s (for_each (run_exit v) xs s).after
  unfolding for_each
  kept_exits v [] s off = refl
  kept_exits v (x ∷ xs) s off =
      let one = kept_exit s v off x.call in
      kept_then s (run_exit v x s) (for_each (run_exit v) xs) one (kept_exits v xs (run_exit v x s).after (off_after v s (run_exit v x s).after one off))

  kept_unwind : (v : ℕ) (kept gone : List Mark) (s : State) → Off v s → Kept s (unwind v kept gone s).after
  kept_unwind v kept gone s off = kept_exits v (exits_of gone) _ off

  -- ---- a death of v, which its letters aren't for, and to whom it doesn't belong

  senders_other : (v : ℕ) (s : State) → Off v s → list_all (λ x. not (eqb x a)) (senders_to s.letters v) ≡ true
  senders_other v s off = none (filter (is_to v) s.letters) (counts ∙ off)
    where
      either : (a b : Bool) → (a && b) ≡ (b && a)
      either true true = refl
      either true false = refl
      either false true = refl
      either false false = refl

      counts : count_by (is_letter_of a) (filter (is_to v) s.letters) ≡ count_by (is_to v) (filter (is_letter_of a) s.letters)
      counts = omega (
        arith,
        count-filter (is_letter_of a) (is_to v) s.letters,
        count-filter (is_to v) (is_letter_of a) s.letters,
        count_agree (λ letter. is_to v letter && is_letter_of a letter) (λ letter. is_letter_of a letter && is_to v letter)
            (λ letter. either (is_to v letter) (is_letter_of a letter)) s.letters,
      )

      none : (ls : List Letter) → count_by (is_letter_of a) ls ≡ 0 → list_all (λ x. not (eqb x a)) (map (λ (letter : Letter). letter.from) ls) ≡ true
      none [] e = refl
      none (l ∷ ls) e = by_test (is_letter_of a l) refl (none ls)
        where
          by_test : (b : Bool) → is_letter_of a l ≡ b
              → (count_by (is_letter_of a) ls ≡ 0 → list_all (λ x. not (eqb x a)) (map (λ (letter : Letter). letter.from) ls) ≡ true)
              → list_all (λ x. not (eqb x a)) (map (λ (letter : Letter). letter.from) (l ∷ ls)) ≡ true
          by_test true is rest = absurd (omega (arith, e, count-cons (is_letter_of a) l ls, ap one is))
          by_test false is rest = and_from _ _ (ap not is) (rest (omega (arith, e, count-cons (is_letter_of a) l ls)))

  pub other_of : (x : ℕ) → not (eqb x a) ≡ true → x ≢ a
  other_of x h e = let bad : false ≡ true = sym (ap not (eq-eqb x a e)) ∙ h in cc

  kept_senders : (v : ℕ) (s : State) → Off v s → Kept s (refuse_senders v s).after
  kept_senders v s off = kept_all (λ x. not (eqb x a)) refuse_sender
      (λ x now h. λ i. seen_by (agent_sight now a).row (without_own a Never x (other_of x h) now.letters i)) (senders_to s.letters v) (senders_other v s off) s

  -- the agents of another than its owner
  agents_other : (s : State) (d : Option ℕ) → NineParts s d → (row : AgentRow) → find (is_agent_row a) s.agents ≡ Some row → (v : ℕ)
      → eqb row.owner v ≡ false → list_all (λ x. not (eqb x a)) (agents_of s.agents v) ≡ true
  agents_other s d nine row known v other =
      none s.agents (omega (arith, count_found_and (is_agent_row a) (belongs_to v) s.agents row known (agents_once s d nine a row known a), ap one other))
    where
      none : (rows : List AgentRow) → count_by (λ row. is_agent_row a row && belongs_to v row) rows ≡ 0
          → list_all (λ x. not (eqb x a)) (agents_of rows v) ≡ true
      none [] e = refl
      none (r ∷ rs) e = by_tests (belongs_to v r) refl (is_agent_row a r) refl (none rs)
        where
          by_tests : (b : Bool) → belongs_to v r ≡ b → (d : Bool) → is_agent_row a r ≡ d
              → (count_by (λ row. is_agent_row a row && belongs_to v row) rs ≡ 0 → list_all (λ x. not (eqb x a)) (agents_of rs v) ≡ true)
              → list_all (λ x. not (eqb x a)) (map (λ (row : AgentRow). row.number) (cond b (r ∷ filter (belongs_to v) rs) (filter (belongs_to v) rs))) ≡ true
          by_tests true f true is rest = absurd (omega (arith, e, count-cons (λ row. is_agent_row a row && belongs_to v row) r rs, ap one (and_from _ _ is f)))
          by_tests true f false is rest = and_from _ _ (ap not is) (rest (omega (arith, e, count-cons (λ row. is_agent_row a row && belongs_to v row) r rs)))
          by_tests false f d is rest = rest (omega (arith, e, count-cons (λ row. is_agent_row a row && belongs_to v row) r rs))

  kept_agents : (s : State) (d : Option ℕ) → NineParts s d → (row : AgentRow) → find (is_agent_row a) s.agents ≡ Some row → (v : ℕ)
      → eqb row.owner v ≡ false → Kept s (end_agents v s).after
  kept_agents s d nine row known v other =
      kept_all (λ x. not (eqb x a)) end_agent (λ x now h. kept_end x now (other_of x h)) (agents_of s.agents v) (agents_other s d nine row known v other) s

  kept_first : (change : State → Outcome) (changes : List (State → Outcome)) (s : State) → Kept s (change s).after
      → Kept (change s).after (in_order changes (change s).after).after → Kept s (in_order (change ∷ changes) s).after
  unfolding in_order
  kept_first change changes s one rest = kept_then s (change s) (in_order changes) one rest

  kept_none : (s : State) → Kept s (in_order [] s).after
  unfolding in_order
  kept_none s = refl

  module _ (row : AgentRow) (v : ℕ) (apart : v ≢ a) (other : eqb row.owner v ≡ false) where
    pub kept_death : (s : State) → NineParts s None → (x : _) → thread_of s v ≡ Some x → find (is_agent_row a) s.agents ≡ Some row → Off v s
        → Kept s (death v s).after
    kept_death s nine x known there off =
        kept_first (withdraw v) _ s one
        (kept_first (run_all_exits v) _ s1 two
        (kept_first (release_all v) _ s2 three
        (kept_first (end_agents v) _ s3 (kept_agents s3 (Some v) (unowning s nine v x known).nine row (ap (λ x. x.row) (three ∙ two ∙ one) ∙ there) v other)
        (kept_first (refuse_senders v) _ s4 (kept_senders v s4 (off_after v s s4 four off))
        (kept_first (refuse_receivers v) _ _ (kept_each (unblock nonexist) (λ x now. refl) _ _)
        (kept_first (answer_joiners v) _ _ (kept_each (unblock zero_answer) (λ x now. refl) _ _)
        (kept_first (bury v) _ _ refl (kept_none _))))))))
      where
        s1 : State
        s1 = (withdraw v s).after

        one : Kept s s1
        one = λ i. seen_by (agent_sight s a).row (without_own a Never v apart s.letters i)

        s2 : State
        s2 = (run_all_exits v s1).after

        two : Kept s1 s2
        two = kept_unwind v [] (marks_in s1 v) s1 (off_after v s s1 one off)

        s3 : State
        s3 = (release_all v s2).after

        three : Kept s2 s3
        three = kept_each release kept_release _ s2

        s4 : State
        s4 = (end_agents v s3).after

        four : Kept s s4
        four = kept_agents s3 (Some v) (unowning s nine v x known).nine row (ap (λ x. x.row) (three ∙ two ∙ one) ∙ there) v other ∙ three ∙ two ∙ one

  -- ---- a letter of another

  pub kept_post : (s : State) (letter : Letter) → letter.from ≢ a → Kept s (post letter s).after
  kept_post s letter other = kept_cond s (passes (λ row. takes_from letter.from row.block) (thread_of s letter.to)) _ _
      (λ i. seen_by (agent_sight s a).row (pushed_own a Never (as_received letter) other s.letters i))
      (λ i. seen_by (agent_sight s a).row (pushed_own a Never letter other s.letters i))

  -- ---- every call of another than its owner

  module _ (s : State) (was : Lawful s None) (row : AgentRow) (there : find (is_agent_row a) s.agents ≡ Some row) where
    -- its letters are for its owner
    off_other : (v : ℕ) → eqb row.owner v ≡ false → Off v s
    off_other v other = none s.letters was.nine.letters
      where
        owned : (letter : Letter) → goes_well s letter ≡ true → is_letter_of a letter ≡ true → is_to v letter ≡ false
        owned letter well is =
            let all = (and_parts (not (eqb letter.from letter.to)) _ (and_parts (is_thread s letter.to) _ well).1).1 in
            let its : is_owners letter row ≡ true = all_found (is_agent_row a) (is_owners letter) s.agents row all there in
            let number = eqb-true row.number a (find_passes (is_agent_row a) s.agents row there) in
            let from = eqb-true letter.from a is in
            by_same (eqb row.number letter.from) (eq-eqb row.number letter.from (number ∙ sym from)) its
          where
            by_same : (b : Bool) → b ≡ true → (not b || eqb row.owner letter.to) ≡ true → is_to v letter ≡ false
            by_same true e h = ap (λ n. eqb n v) (sym (eqb-true row.owner letter.to h)) ∙ other
            by_same false e h = absurd (cc)

        none : (ls : List Letter) → list_all (goes_well s) ls ≡ true → count_by (is_to v) (filter (is_letter_of a) ls) ≡ 0
        none [] all = refl
        none (l ∷ ls) all =
            let parts = and_parts (goes_well s l) (list_all (goes_well s) ls) all in
            by_test (is_letter_of a l) refl parts.0 (none ls parts.1)
          where
            by_test : (b : Bool) → is_letter_of a l ≡ b → goes_well s l ≡ true → count_by (is_to v) (filter (is_letter_of a) ls) ≡ 0
                → count_by (is_to v) (cond b (l ∷ filter (is_letter_of a) ls) (filter (is_letter_of a) ls)) ≡ 0
            by_test true is well rest = omega (arith, rest, count-cons (is_to v) l (filter (is_letter_of a) ls), ap one (owned l well is))
            by_test false is well rest = rest

    thread_other : (v : ℕ) → is_thread s v ≡ true → v ≢ a
    thread_other v lives e = let bad : true ≡ false = sym lives ∙ ap (is_thread s) e ∙ no_thread s None was.nine a row there in cc

    -- a thread dies, which isn't its owner
    dies : (v : ℕ) → is_thread s v ≡ true → eqb row.owner v ≡ false → Kept s (death v s).after
    dies v lives other = let who = living s v lives in kept_death row v (thread_other v lives) other s was.nine who.row who.known there (off_other v other)

    kept_destroyed : (t v : ℕ) → v ≢ a → eqb row.owner v ≡ false → is_id s v ≡ true → Kept s (destroy_case s t v).after
    kept_destroyed t v apart other lives = by_agent (is_agent s v) lives
      where
        by_agent : (b : Bool) → (is_thread s v || b) ≡ true
            → Kept s (cond b (with_zero (end_agent v s)) (cond (eqb t v) (silent_case (death v s)) (with_zero (death v s)))).after
        by_agent true h = kept_end v s apart
        by_agent false h = let died = dies v (either (is_thread s v) h) other in
            cond_case s (eqb t v) (silent_case (death v s)) (with_zero (death v s)) died died
          where
            either : (b : Bool) → (b || false) ≡ true → b ≡ true
            either true e = refl
            either false e = e

    module _ (t : ℕ) (lives : is_thread s t ≡ true) (other : eqb row.owner t ≡ false) where
      off : Off t s
      off = off_other t other

      kept_leave : Kept s (leave_frame s t).after
      kept_leave = kept_unwind t (first_frames (frames (marks_in s t) - 1) (marks_in s t)) (later_frames (frames (marks_in s t) - 1) (marks_in s t)) s off

      kept_caught : (p : ℕ) (f : Found) → Kept s (catch_case s t p f).after
      kept_caught p f = kept_unwind t (caught_marks f (marks_in s t)) (later_frames f.depth (marks_in s t)) s off

      kept_searched : (p : ℕ) (on_match : Found → Case) → ((f : Found) → Kept s (on_match f).after) → Kept s (searching s t p on_match).after
      kept_searched p on_match fine = kept_unless s _ _ (λ passed. by_found (handler_in p (marks_in s t)))
        where
          by_found : (o : Option Found) → Kept s (with_match s on_match o).after
          by_found None = refl
          by_found (Some f) = fine f

      kept_notified : (p : ℕ) (f : Found) (h : Func) → Kept s (excnotify_case_by s t p f h).after
      kept_notified p f func.Give = refl
      kept_notified p f func.Sum = refl
      kept_notified p f func.Nothing = kept_caught p f

      kept_returned : Kept s (return_from s t).after
      kept_returned = cond_case s (nat_le 2 (frames (marks_in s t))) (leave_frame s t) (silent_case (death t s)) kept_leave (dies t lives other)

      kept_received : (from : Option ℕ) (how : Mode) (o : Option Letter) → next_letter s.letters t from ≡ o → Kept s (receive_by s t from how o).after
      kept_received from how (Some letter) e =
          λ i. seen_by (agent_sight s a).row (received_own a Never letter.from (found_other a Never t s off (is_open from) letter e) s.letters i)
      kept_received from mode.Poll None e = refl
      kept_received from mode.Block None e = refl
      kept_received from (mode.Until ticks) None e =
          cond_case s (eqb ticks 0) (refusal_case s error.Timeout) (silent_case (still (after_block_for s t (block.Receiving from) ticks))) refl refl

      kept_waited : (c : ℕ) (o : Option Lock) → Kept s (after_wait t c o s).after
      kept_waited c None = refl
      kept_waited c (Some lock) =
          kept_grant (after_block (record s { waits = s.waits ++ record { cond = c; tid = t; depth = lock.depth } ∷ [] }) t (block.Waiting c)) lock.mon _

      kept_sent : (v room : ℕ) (text : List ℕ)
          → Kept s (post (record { from = t; to = v; text = text; room = room; received = false }) (after_block s t block.Sending)).after
      kept_sent v room text = kept_post (after_block s t block.Sending)
          (record { from = t; to = v; text = text; room = room; received = false }) (thread_other t lives)

      kept_made : (e : ℕ) → Kept s (make_agent s t e).after
      kept_made e = kept_unless s _ _
          (λ passed. λ i. seen_by ((find_push_some (is_agent_row a) s.agents row (new_agent s.births e t) there ∙ sym there) i) (agent_sight s a).letters)

      parts : (x y : Bool) → (not x && not y) ≡ true → (x ≡ false) × (y ≡ false)
      parts true y h = absurd (cc)
      parts false true h = absurd (cc)
      parts false false h = (refl, refl)

      flip : (v w : ℕ) → eqb v w ≡ false → eqb w v ≡ false
      flip v w e = ne_eqb w v (λ same. let bad : true ≡ false = sym (eq-eqb v w (sym same)) ∙ e in cc)

      apart_of : (v w : ℕ) → eqb v w ≡ false → v ≢ w
      apart_of v w e same = let bad : true ≡ false = sym (eq-eqb v w same) ∙ e in cc

      kept_destroy : (v : ℕ) → (not (eqb v a) && not (eqb v row.owner)) ≡ true → Kept s (case_of s t (call.Destroy v)).after
      kept_destroy v h = let w = parts (eqb v a) (eqb v row.owner) h in
          kept_unless s _ _ (λ passed. kept_destroyed t v (apart_of v a w.0) (flip v row.owner w.1) (true_of _ passed.0))

      -- of every call that spares it: the last line is for each that is refused by its checks or else leaves what is seen of it as it is
      kept_case : (c : Call) → spares_agent a row.owner c ≡ true → Kept s (case_of s t c).after
      kept_case (call.Destroy v) h = kept_destroy v h
      kept_case (call.Sleep ticks) h = cond_case s (eqb ticks 0) (value_case s 0) (silent_case (still (after_block_for s t block.Sleeping ticks))) refl refl
      kept_case call.Me h = refl
      kept_case call.GetExit h = refl
      kept_case call.Threads h = refl
      kept_case (call.Send v room text) h = kept_unless s _ _ (λ passed. kept_sent v room text)
      kept_case (call.Recv from how) h = kept_unless s _ _ (λ passed. kept_received from how (next_letter s.letters t from) refl)
      kept_case (call.Reply v text) h = kept_unless s _ _ (λ passed. kept_replied s v text (replied_other a Never t s off v passed.1.0))
      kept_case call.Senders h = refl
      kept_case call.Receivers h = refl
      kept_case (call.Enter m) h =
          kept_unless s _ _ (λ passed. cond_case s (is_owned_by_other s.locks t m) (silent_case (still (after_request s t m))) (enter_case s t m) refl refl)
      kept_case (call.MonExit m) h = kept_unless s _ _ (λ passed. kept_exited s m)
      kept_case (call.MonBreak m) h = kept_unless s _ _ (λ passed. kept_release m s)
      kept_case call.Monitors h = refl
      kept_case (call.Wait c) h = kept_unless s _ _ (λ passed. kept_waited c (last_lock s.locks t))
      kept_case (call.Notify c) h = kept_waking s t c _ _
      kept_case (call.Broadcast c) h = kept_waking s t c _ _
      kept_case (call.CvSend c v) h = kept_waking s t c _ _
      kept_case call.Conds h = refl
      kept_case call.Return h = kept_returned
      kept_case (call.Raise q) h = kept_searched q _ (λ f. kept_caught q f)
      kept_case (call.ExcNotify q) h = kept_searched q _ (λ f. kept_notified q f f.func)
      kept_case (call.Bound q) h = kept_searched q _ (λ f. refl)
      kept_case (call.Agent e) h = kept_made e
      kept_case call.Agents h = refl
      kept_case (call.Trap e) h = refl
      kept_case (call.Say text) h = refl
      kept_case _ h = kept_unless s _ _ (λ passed. refl)

    pub kept_step : (t : ℕ) → choice s ≡ Some t → eqb t row.owner ≡ false → (c : Call) → spares_agent a row.owner c ≡ true → Kept s (step s c).after
    unfolding step step_by
    kept_step t turn apart c spared =
        let run = chosen s was.nine t turn in
        subst (λ o. Kept s (step_if s c o).after) (sym turn)
        (kept_case t (ap is_some run.known) (ne_eqb row.owner t (λ e. let bad : true ≡ false = sym (eq-eqb t row.owner (sym e)) ∙ apart in cc)) c spared)

  -- ---- it is destroyed itself

  ended_agent : (s : State) → agent_sight (end_agent a s).after a ≡ no_agent
  unfolding and_then
  ended_agent s = λ i. seen_by
      (find_filter_none (is_agent_row a) (λ row. not (is_agent_row a row)) (λ row e. ap not e)
      (for_each (unblock nonexist) (receivers_of s a) s).after.agents i)
      (filter_none (is_letter_of a) (for_each (unblock nonexist) (receivers_of s a) s).after.letters i)

pub others_leave_agents : OthersLeaveAgents
others_leave_agents s was t a row turn there apart c spared = kept_step a s was row there t turn apart c spared

pub destroyed_agents_are_gone : DestroyedAgentsAreGone
unfolding step step_by
destroyed_agents_are_gone s t a row turn there =
    subst (λ o. agent_sight (step_if s (call.Destroy a) o).after a ≡ no_agent) (sym turn)
    (subst (λ (made : Case). agent_sight made.after a ≡ no_agent) (sym (unless_passed s _ _ (ap not is_there, tt) ∙ is_end)) (ended_agent a s))
  where
    lives : is_agent s a ≡ true
    lives = ap is_some there

    either : (x y : Bool) → y ≡ true → (x || y) ≡ true
    either true y h = refl
    either false y h = h

    is_there : is_id s a ≡ true
    is_there = either (is_thread s a) (is_agent s a) lives

    is_end : destroy_case s t a ≡ with_zero (end_agent a s)
    is_end = by_agent (is_agent s a) lives
      where
        by_agent : (b : Bool) → b ≡ true
            → cond b (with_zero (end_agent a s)) (cond (eqb t a) (silent_case (death a s)) (with_zero (death a s))) ≡ with_zero (end_agent a s)
        by_agent true e = refl
        by_agent false e = absurd (cc)
