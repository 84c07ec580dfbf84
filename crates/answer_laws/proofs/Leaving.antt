-- What frames that go and deaths do to a thread that waits for a letter or a reply at most, and has written to none of those who go.
use Rattle.answer_laws.proofs.Sights.{Attends, Away, Turn, Turn.Left, Turn.Woken, attends_after, away_after, blocked_other}
use Rattle.answer_laws.proofs.Sights.{first_other, answers_push, not_own, own_row, pushed_own, replied_other, rowed, sight_same}
use Rattle.answer_laws.proofs.Sights.{turn_plain, turn_still, turn_then, turn_waked, turn_wake, without_own}
use Rattle.answer_laws.specs.Sights.{answer_for, going_on, is_attentive, Hears, sight, sight_by}
use Rattle.lwp_types.specs.Agents.{after_agent_end, agents_of, belongs_to, end_agent}
use Rattle.lwp_types.specs.Case.{Case, Check, refusal_case, unless}
use Rattle.lwp_types.specs.Conditions.{after_wake, after_wake_all, condition_of, is_lock_of, waking}
use Rattle.lwp_types.specs.CountLaws.{count-cons, one}
use Rattle.lwp_types.specs.Death.{answer_joiners, bury, death, end_agents, joins, refuse_receivers, refuse_sender}
use Rattle.lwp_types.specs.Death.{refuse_senders, release_all, run_all_exits, withdraw}
use Rattle.lwp_types.specs.Exceptions.{exits_of}
use Rattle.lwp_types.specs.Exits.{exit_case, run_exit, unwind}
use Rattle.lwp_types.specs.Lawful.{NineParts}
use Rattle.lwp_types.specs.Messages.{as_answer, as_received, awaits, post, takes_from, is_letter_of, receivers_of}
use Rattle.lwp_types.specs.Messages.{after_reply, senders_to, with_holding, without_letter}
use Rattle.lwp_types.specs.MonitorRelease.{grant, last_lock, next_owner, release, without_lock}
use Rattle.lwp_types.specs.Monitors.{after_exit, depth_in, with_depth}
use Rattle.lwp_types.specs.State.{Outcome, State, ThreadRow, for_each, in_order, is_agent, is_agent_row, is_number, marks_in, row_with_marks}
use Rattle.lwp_types.specs.State.{passes, still, row_with_suspension, thread_of, times_in, with_block, with_marks_of, with_suspension}
use Rattle.lwp_types.specs.Unblock.{nonexist, unblock, zero_answer}
use Rattle.lwp_types.specs.declared.call.Answer.{Answer}
use Rattle.lwp_types.specs.declared.call.Effect.{Effect}
use Rattle.lwp_types.specs.declared.call.ExitCall.{ExitCall}
use Rattle.lwp_types.specs.declared.rows.AgentRow.{AgentRow}
use Rattle.lwp_types.specs.declared.rows.Block.{Block}
use Rattle.lwp_types.specs.declared.rows.CondRow.{CondRow}
use Rattle.lwp_types.specs.declared.rows.ExitMark.{ExitMark}
use Rattle.lwp_types.specs.declared.rows.Letter.{Letter}
use Rattle.lwp_types.specs.declared.rows.Mark.{Mark}
use Rattle.lwp_types.specs.declared.rows.Request.{Request}
use Rattle.lwp_types.specs.declared.rows.WaitRow.{WaitRow}
use Rattle.pod_laws.proofs.AgentEnds.{awaits_alone}
use Rattle.pod_laws.proofs.Checks.{Passed}
use Rattle.pod_laws.proofs.ConditionCalls.{Among, all_among, best_among, waking_begins}
use Rattle.pod_laws.proofs.DeathLoops.{Lonely, Unowning, end_first, refuse_first, refused_all}
use Rattle.pod_laws.proofs.Deaths.{joins_alone, lonely, nine_unwound, nine_withdrawn, unmarked_nine, unowning}
use Rattle.pod_laws.proofs.Drains.{Waked, first_waiter, keys_times, wake_all, wake_first, waiters_by}
use Rattle.pod_laws.proofs.Elements.{find_filter_same, true_of}
use Rattle.pod_laws.proofs.ExitCalls.{run_exit_keeps}
use Rattle.pod_laws.proofs.LetterMoves.{is_alone, no_rows}
use Rattle.pod_laws.proofs.LockMoves.{NineParts-released, next, requester}
use Rattle.pod_laws.proofs.OnceExits.{of_case}
use Rattle.pod_laws.proofs.Rows.{find_rowed, number_known}
use Rattle.pod_laws.proofs.Waking.{Waking, first_waits, waiter, waking_next}
use Rattle.std.proofs.Common.{Bool, List, None, Option, Some, [], ap, arith, cond, eqb, false, inl, inr, not, refl, sym, true, ℕ, ◌++◌, ◌-◌, ◌∙◌, ◌∷◌, ◌≡◌, ◌≢◌}
use Rattle.std.proofs.lemmas.Bool.{eq-eqb, eqb-true, ne_eqb}
use Rattle.std.specs.List.{count_by, filter, find, fold}
use Rattle.std.specs.Prelude.{nat_le, option_map, unwrap_or}
use Rattle.lwp_types.specs.declared.call.Answer.TheVariants as answer
use Rattle.lwp_types.specs.declared.call.Effect.TheVariants as effect
use Rattle.lwp_types.specs.declared.call.ExitCall.TheVariants as exit
use Rattle.lwp_types.specs.declared.rows.Block.TheVariants as block

module _ (u : ℕ) (Fits : Option ℕ → Answer → Type 0) where
  abbrev T : State → Outcome → Type 0
  T s out = Turn u Fits s out

  -- an outcome that lets another thread go on
  turn_other : (s : State) → Attends u Fits s → (a : Answer) (v : ℕ) → v ≢ u → (out : Outcome)
      → out.after.threads ≡ with_block v block.Not s.threads → out.after.letters ≡ s.letters → out.effects ≡ effect.Answered v a ∷ [] → T s out
  turn_other s was a v other out threads letters told = turn_wake u Fits s was out a v other threads (ap (filter (is_letter_of u)) letters) told

  turn_grant : (s : State) (d : Option ℕ) → NineParts s d → Attends u Fits s → (m : ℕ) (o : Option Request) → next_owner s m ≡ o
      → T s (grant o (record s { locks = without_lock m s.locks }))
  turn_grant s d nine was m None e = turn_plain u Fits s _ refl refl
  turn_grant s d nine was m (Some r) e =
      let who = requester s d nine r (next s d nine m r e).some in
      turn_other s was zero_answer r.tid (not_own u Fits s was r.tid who.row who.known (ap is_attentive who.enters)) _ refl refl refl

  pub turn_release : (s : State) (d : Option ℕ) → NineParts s d → Attends u Fits s → (m : ℕ) → T s (release m s)
  turn_release s d nine was m = turn_grant s d nine was m (next_owner s m) refl

  pub turn_exited : (s : State) (d : Option ℕ) → NineParts s d → Attends u Fits s → (m : ℕ) → T s (after_exit m s)
  turn_exited s d nine was m = by_depth (nat_le (depth_in s.locks m) 1)
    where
      by_depth : (b : Bool) → T s (cond b (release m s) (still (record s { locks = with_depth m (depth_in s.locks m - 1) s.locks })))
      by_depth true = turn_release s d nine was m
      by_depth false = turn_plain u Fits s _ refl refl

  -- another's letter is done with
  pub turn_replied : (s : State) → Attends u Fits s → (v : ℕ) (text : List ℕ) → v ≢ u → T s (after_reply v text s)
  turn_replied s was v text other = by_agent (is_agent s v)
    where
      by_agent : (b : Bool)
          → T s (cond b (still (record s { letters = without_letter v s.letters; agents = with_holding v false s.agents }))
          (unblock (answer.Reply text) v (record s { letters = without_letter v s.letters })))
      by_agent true = turn_plain u Fits s _
          (sight_same u Fits s (record s { letters = without_letter v s.letters; agents = with_holding v false s.agents }) was.row was.known
          was.known (without_own u Fits v other s.letters))
          refl
      by_agent false = turn_wake u Fits s was _ (answer.Reply text) v other refl (without_own u Fits v other s.letters) refl

  -- ---- who waits on a condition is woken

  waking_seen : (d : Option ℕ) (v c : ℕ) (row : CondRow) (ws : List WaitRow) (now : State) → Waking d v c row ws now → Attends u Fits now
      → sight (fold (λ now w. after_wake row.mon w now) now ws) u ≡ sight now u
  waking_seen d v c row [] now was here = refl
  waking_seen d v c row (w ∷ ws) now was here =
      let who = waiter now d was.nine w.tid c (first_waits d v c row w ws now was) in
      let other = not_own u Fits now here w.tid who.row who.known (ap is_attentive who.waits) in
      let same : sight (after_wake row.mon w now) u
      ≡ sight now u = sight_same u Fits now (after_wake row.mon w now) here.row here.known
      (blocked_other u Fits now here w.tid (block.Entering row.mon) other ∙ here.known) refl in
      waking_seen d v c row ws (after_wake row.mon w now) (waking_next d v c row w ws now was) (attends_after u Fits now
      (record { after = after_wake row.mon w now; effects = [] }) here (turn_plain u Fits now _ same refl))
      ∙ same

  pub unless_turn : (s : State) (checks : List Check) (otherwise : Case) → (Passed checks → T s (of_case otherwise)) → T s (of_case (unless s checks otherwise))
  unfolding unless
  unless_turn s [] otherwise fine = fine tt
  unless_turn s (check ∷ checks) otherwise fine = by_test check.0 refl (λ here. unless_turn s checks otherwise (λ rest. fine (here, rest)))
    where
      by_test : (b : Bool) → check.0 ≡ b → (check.0 ≡ false → T s (of_case (unless s checks otherwise)))
          → T s (of_case (cond b (refusal_case s check.1) (unless s checks otherwise)))
      by_test true e rest = turn_still u Fits s
      by_test false e rest = rest e

  pub waking_turn : (s : State) (d : Option ℕ) → NineParts s d → Attends u Fits s → (v c : ℕ) (more : List Check) (ws : List WaitRow)
      → Among s c ws → T s (of_case (waking s v c more ws))
  waking_turn s d nine was v c more ws among = unless_turn s _ _ (λ passed. by_row (condition_of s.conditions c) refl (true_of _ passed.1.0))
    where
      by_row : (o : Option CondRow) → condition_of s.conditions c ≡ o → passes (λ lock. is_lock_of lock o) (last_lock s.locks v) ≡ true
          → T s (record { after = after_wake_all o ws s; effects = [] })
      by_row None e last = turn_still u Fits s
      by_row (Some row) e last = turn_plain u Fits s _ (waking_seen d v c row ws s (waking_begins s d nine v c ws among row e last) was) refl

  -- a flag of a row is put
  pub turn_suspension : (s : State) → Attends u Fits s → (v : ℕ) (b : Bool) (out : Outcome)
      → out.after.threads ≡ with_suspension v b s.threads → out.after.letters ≡ s.letters → out.effects ≡ [] → T s out
  turn_suspension s was v b out threads letters none = turn_plain u Fits s out sight_by_rows none
    where
      rows : find (is_number u) out.after.threads ≡ Some (row_with_suspension v b was.row)
      rows = ap (find (is_number u)) threads ∙ find_rowed (row_with_suspension v b) (λ row. refl) s.threads u
          ∙ ap (option_map (row_with_suspension v b)) was.known

      sight_by_rows : sight out.after u ≡ sight s u
      sight_by_rows = (λ i. sight_by (rows i) (filter (is_letter_of u) (letters i))) ∙ ap (λ o. sight_by o (filter (is_letter_of u) s.letters)) (sym was.known)

  -- ---- exit procedures of v, to whom u hasn't written

  exit_case_turn : (s : State) (d : Option ℕ) → NineParts s d → Attends u Fits s → (v : ℕ) → Away u Fits v s → (call : ExitCall)
      → T s (of_case (exit_case s v call))
  exit_case_turn s d nine was v away (exit.MonExit m) = unless_turn s _ _ (λ passed. turn_exited s d nine was m)
  exit_case_turn s d nine was v away (exit.MonBreak m) = unless_turn s _ _ (λ passed. turn_release s d nine was m)
  exit_case_turn s d nine was v away (exit.Notify c) = waking_turn s d nine was v c _ _ (best_among s d nine c)
  exit_case_turn s d nine was v away (exit.Broadcast c) = waking_turn s d nine was v c _ _ (all_among s d nine c)
  exit_case_turn s d nine was v away (exit.Reply to text) =
      unless_turn s _ _ (λ passed. turn_replied s was to text (replied_other u Fits v s away to passed.1.0))
  exit_case_turn s d nine was v away (exit.Resume w) = unless_turn s _ _ (λ passed. turn_suspension s was w false _ refl refl refl)
  exit_case_turn s d nine was v away (exit.SetExit code) = unless_turn s _ _ (λ passed. turn_plain u Fits s _ refl refl)
  exit_case_turn s d nine was v away (exit.Note text) = turn_still u Fits s

  -- one effect more that answers nobody
  turn_more : (s : State) (out : Outcome) (e : Effect) → answer_for u e ≡ None → T s out → T s (record { after = out.after; effects = out.effects ++ e ∷ [] })
  turn_more s out e none (Left a) = Left (record { same = a.same; quiet = answers_push u out.effects e none ∙ a.quiet })
  turn_more s out e none (Woken a) = Woken
      (record { from = a.from; waited = a.waited; goes_on = a.goes_on; heard = a.heard; told = answers_push u out.effects e none ∙ a.told; right = a.right })

  -- ---- loops

  -- it attends, and has written nothing to v
  pub record Ready (v : ℕ) (s : State) : Type 0 where
    pub attends : Attends u Fits s
    pub away : Away u Fits v s

  pub ready_after : (v : ℕ) (s : State) (out : Outcome) → Ready v s → T s out → Ready v out.after
  ready_after v s out ready turn = record { attends = attends_after u Fits s out ready.attends turn; away = away_after u Fits v s out ready.away turn }

  turn_each : {A : Type 0} (v : ℕ) (P : State → Type 0) (change : A → State → Outcome) → ((x : A) (s : State) → P s → P (change x s).after)
      → ((x : A) (s : State) → P s → Ready v s → T s (change x s)) → (xs : List A) (s : State) → P s → Ready v s → T s (for_each change xs s)
  unfolding for_each
  turn_each v P change keeps turn [] s was ready = turn_still u Fits s
  turn_each v P change keeps turn (x ∷ xs) s was ready =
      let one = turn x s was ready in
      turn_then u Fits s (change x s) (for_each change xs) one
      (turn_each v P change keeps turn xs (change x s).after (keeps x s was) (ready_after v s (change x s) ready one))

  turn_drain : {A : Type 0} (v : ℕ) (P : State → Type 0) (list : State → List A) (change : A → State → Outcome)
      → ((x : A) (xs : List A) (s : State) → P s → list s ≡ x ∷ xs → P (change x s).after × (list (change x s).after ≡ xs))
      → ((x : A) (xs : List A) (s : State) → P s → Ready v s → list s ≡ x ∷ xs → T s (change x s))
      → (xs : List A) (s : State) → P s → Ready v s → list s ≡ xs → T s (for_each change xs s)
  unfolding for_each
  turn_drain v P list change one_less turn [] s was ready listed = turn_still u Fits s
  turn_drain v P list change one_less turn (x ∷ xs) s was ready listed =
      let next = one_less x xs s was listed in
      let one = turn x xs s was ready listed in
      turn_then u Fits s (change x s) (for_each change xs) one
      (turn_drain v P list change one_less turn xs (change x s).after next.0 (ready_after v s (change x s) ready one) next.1)

  run_turn : (d : Option ℕ) (v : ℕ) (x : ExitMark) (s : State) → NineParts s d → Ready v s → T s (run_exit v x s)
  run_turn d v x s nine ready = turn_more s (of_case (exit_case s v x.call))
      (effect.Exited v x.reg x.call (unwrap_or (exit_case s v x.call).own zero_answer)) refl (exit_case_turn s d nine ready.attends v ready.away x.call)

  -- marks of another are put
  marked_seen : (s : State) → Attends u Fits s → (v : ℕ) → v ≢ u → (ms : List Mark) → sight (with_marks_of s v ms) u ≡ sight s u
  marked_seen s was v other ms =
      sight_same u Fits s (with_marks_of s v ms) was.row was.known (rowed u Fits (row_with_marks v ms) (λ row. refl) s was.row was.known off) refl
    where
      off : row_with_marks v ms was.row ≡ was.row
      off = rw (ne_eqb was.row.number v (λ e. other (sym e ∙ number_known s.threads u was.row was.known))) refl

  -- from a state that is seen alike
  pub turn_from : (s middle : State) (out : Outcome) → sight middle u ≡ sight s u → T middle out → T s out
  turn_from s middle out same (Left a) = Left (record { same = a.same ∙ same; quiet = a.quiet })
  turn_from s middle out same (Woken a) = Woken (record {
    from = a.from;
    waited = ap (λ x. x.waits) (sym same) ∙ a.waited;
    goes_on = a.goes_on ∙ ap going_on same;
    heard = a.heard;
    told = a.told;
    right = a.right;
  })

  pub ready_from : (v : ℕ) (s middle : State) → sight middle u ≡ sight s u → Ready v s → Ready v middle
  ready_from v s middle same ready = ready_after v s (record { after = middle; effects = [] }) ready (turn_plain u Fits s _ same refl)

  pub turn_unwind : (d : Option ℕ) (v : ℕ) → v ≢ u → (kept gone : List Mark) (s : State) → NineParts (with_marks_of s v kept) d → Ready v s
      → T s (unwind v kept gone s)
  turn_unwind d v other kept gone s nine ready =
      let same = marked_seen s ready.attends v other kept in
      turn_from s (with_marks_of s v kept) _ same (turn_each v (λ s. NineParts s d) (run_exit v) (λ x s was. run_exit_keeps d v x s was)
      (λ x s was r. run_turn d v x s was r) (exits_of gone) (with_marks_of s v kept) nine (ready_from v s (with_marks_of s v kept) same ready))

  -- ---- a death

  -- all that wait so go on, and if u does, rightly
  wake_turn : (v : ℕ) (q : Block → Bool) (alone : (b : Block) → q b ≡ true → is_alone b ≡ true) (a : Answer)
      → ((b : Block) → q b ≡ true → is_attentive b ≡ true → (from : Option ℕ) × (b ≡ block.Receiving from) × Hears Fits from a)
      → (s : State) (d : Option ℕ) → NineParts s d → Ready v s → T s (for_each (unblock a) (waiters_by q s) s)
  wake_turn v q alone a fits s d nine ready =
      turn_drain v (λ s. NineParts s d) (waiters_by q) (unblock a) (λ w ws s was listed. wake_first q alone s d was w ws listed)
      (λ w ws s was here listed.
      let who = first_waiter q alone s d was w ws listed in
      turn_waked u Fits s here.attends (unblock a w s) a w (λ e. let own = own_row u Fits s here.attends w who.row who.known e in
      fits here.attends.row.block (ap (λ (r : ThreadRow). q r.block) own ∙ who.passes) here.attends.attends)
      refl refl refl)
      (waiters_by q s) s nine ready refl

  awaits_fits : (a : ℕ) (b : Block) → awaits a b ≡ true → is_attentive b ≡ true → (from : Option ℕ) × (b ≡ block.Receiving from) × Hears Fits from nonexist
  awaits_fits a block.Not e h = absurd (cc)
  awaits_fits a (block.Joining v) e h = absurd (cc)
  awaits_fits a block.Sending e h = absurd (cc)
  awaits_fits a (block.Receiving None) e h = absurd (cc)
  awaits_fits a (block.Receiving (Some y)) e h = (Some y, refl, inr (refl, refl))
  awaits_fits a (block.Entering m) e h = absurd (cc)
  awaits_fits a (block.Waiting c) e h = absurd (cc)
  awaits_fits a block.Sleeping e h = absurd (cc)

  joins_fits : (v : ℕ) (b : Block) → joins v b ≡ true → is_attentive b ≡ true → (from : Option ℕ) × (b ≡ block.Receiving from) × Hears Fits from zero_answer
  joins_fits v block.Not e h = absurd (cc)
  joins_fits v (block.Joining w) e h = absurd (cc)
  joins_fits v block.Sending e h = absurd (cc)
  joins_fits v (block.Receiving from) e h = absurd (cc)
  joins_fits v (block.Entering m) e h = absurd (cc)
  joins_fits v (block.Waiting c) e h = absurd (cc)
  joins_fits v block.Sleeping e h = absurd (cc)

  -- an agent ends, which isn't u
  pub end_agent_turn : (v a : ℕ) (s : State) (d : Option ℕ) → NineParts s d → Ready v s → a ≢ u → T s (end_agent a s)
  end_agent_turn v a s d nine ready other =
      let woke = for_each (unblock nonexist) (receivers_of s a) s in
      let one = wake_turn v (awaits a) (awaits_alone a) nonexist (awaits_fits a) s d nine ready in
      let here = (ready_after v s woke ready one).attends in
      turn_then u Fits s woke (λ now. still (after_agent_end a now)) one
      (turn_plain u Fits woke.after (still (after_agent_end a woke.after))
      (sight_same u Fits woke.after (after_agent_end a woke.after) here.row here.known here.known (without_own u Fits a other woke.after.letters)) refl)

  -- the changes of a list, one by one
  turn_first : (v : ℕ) (change : State → Outcome) (changes : List (State → Outcome)) (s : State) → Ready v s → T s (change s)
      → (Ready v (change s).after → T (change s).after (in_order changes (change s).after)) → T s (in_order (change ∷ changes) s)
  unfolding in_order
  turn_first v change changes s ready first rest = turn_then u Fits s (change s) (in_order changes) first (rest (ready_after v s (change s) ready first))

  turn_none : (s : State) → T s (in_order [] s)
  unfolding in_order
  turn_none s = turn_still u Fits s

  module _ (v : ℕ) (other : v ≢ u) where
    withdraw_turn : (s : State) → Ready v s → T s (withdraw v s)
    withdraw_turn s ready = turn_plain u Fits s (withdraw v s)
        (sight_same u Fits s (withdraw v s).after ready.attends.row ready.attends.known now (without_own u Fits v other s.letters)) refl
      where
        calm : State
        calm = record s { threads = with_block v block.Not s.threads }

        unmoved : row_with_suspension v false ready.attends.row ≡ ready.attends.row
        unmoved = rw (ne_eqb ready.attends.row.number v (λ e. other (sym e ∙ number_known s.threads u ready.attends.row ready.attends.known))) refl

        now : find (is_number u) (with_suspension v false (with_block v block.Not s.threads)) ≡ Some ready.attends.row
        now = rowed u Fits (row_with_suspension v false) (λ row. refl) calm ready.attends.row
            (blocked_other u Fits s ready.attends v block.Not other ∙ ready.attends.known) unmoved

    release_all_turn : (s : State) → NineParts s (Some v) → Ready v s → T s (release_all v s)
    release_all_turn s nine ready = turn_each v (λ s. NineParts s (Some v)) release (λ m s was. NineParts-released s (Some v) was m)
        (λ m s was r. turn_release s (Some v) was r.attends m) _ s nine ready

    end_agents_turn : (s : State) → Unowning v s → Ready v s → T s (end_agents v s)
    end_agents_turn s was ready = turn_drain v (Unowning v) (λ s. agents_of s.agents v) end_agent (end_first v)
        (λ a as' s was r listed. end_agent_turn v a s (Some v) was.nine r (agent_other s was r a as' listed))
        (agents_of s.agents v) s was ready refl
      where
        agent_other : (s : State) → Unowning v s → Ready v s → (a : ℕ) (as' : List ℕ) → agents_of s.agents v ≡ a ∷ as' → a ≢ u
        agent_other s was r a as' listed same =
            omega (
              arith,
              ap (λ ns. times_in ns a) listed,
              count-cons (λ n. eqb n a) a as',
              ap one (eq-eqb a a refl),
              keys_times (λ (row : AgentRow). row.number) (belongs_to v) a s.agents,
              ap (λ n. count_by (is_agent_row n) s.agents) same,
              no_rows s (Some v) was.nine u r.attends.row r.attends.known,
            )

    refuse_senders_turn : (s : State) → Lonely v s → Ready v s → T s (refuse_senders v s)
    refuse_senders_turn s was ready = turn_drain v (Lonely v) (λ s. senders_to s.letters v) refuse_sender (refuse_first v)
        (λ w ws s was r listed.
        let away = first_other u Fits v s r.away w ws listed in
        turn_wake u Fits s r.attends (refuse_sender w s) nonexist w away refl (without_own u Fits w away s.letters) refl)
        (senders_to s.letters v) s was ready refl

    bury_turn : (s : State) → Ready v s → T s (bury v s)
    bury_turn s ready =
        Left
        (record {
          same = sight_same u Fits s (bury v s).after ready.attends.row ready.attends.known
              (find_filter_same (is_number u) (λ row. not (is_number v row)) keeps s.threads ∙ ready.attends.known) refl;
          quiet = refl;
        })
      where
        keeps : (row : ThreadRow) → is_number u row ≡ true → not (is_number v row) ≡ true
        keeps row e = by_test (is_number v row) refl
          where
            by_test : (b : Bool) → is_number v row ≡ b → not b ≡ true
            by_test true is = absurd (other (sym (eqb-true row.number v is) ∙ eqb-true row.number u e))
            by_test false is = refl

    pub turn_death : (s : State) → NineParts s None → (x : ThreadRow) → thread_of s v ≡ Some x → Ready v s → T s (death v s)
    turn_death s nine x known ready =
        turn_first v (withdraw v) _ _ ready (withdraw_turn s ready)
        (λ r1. turn_first v (run_all_exits v) _ _ r1 (turn_unwind (Some v) v other [] (marks_in (withdraw v s).after v) (withdraw v s).after bare r1)
        (λ r2. turn_first v (release_all v) _ _ r2 (release_all_turn _ (nine_unwound s nine v x known) r2)
        (λ r3. turn_first v (end_agents v) _ _ r3 (end_agents_turn _ (unowning s nine v x known) r3)
        (λ r4. turn_first v (refuse_senders v) _ _ r4 (refuse_senders_turn _ (lonely s nine v x known) r4)
        (λ r5. turn_first v (refuse_receivers v) _ _ r5 (wake_turn v (awaits v) (awaits_alone v) nonexist (awaits_fits v) _ (Some v) one.0.nine r5)
        (λ r6. turn_first v (answer_joiners v) _ _ r6 (wake_turn v (joins v) (joins_alone v) zero_answer (joins_fits v) _ (Some v) two.0.nine r6)
        (λ r7. turn_first v (bury v) _ _ r7 (bury_turn _ r7) (λ r8. turn_none _))))))))
      where
        bare : NineParts (with_marks_of (withdraw v s).after v []) (Some v)
        bare = unmarked_nine (withdraw v s).after v (nine_withdrawn s nine v x known)

        one : Lonely v (refuse_senders v (end_agents v (release_all v (run_all_exits v (withdraw v s).after).after).after).after).after
            × (senders_to (refuse_senders v (end_agents v (release_all v (run_all_exits v (withdraw v s).after).after).after).after).after.letters v ≡ [])
        one = refused_all v _ (lonely s nine v x known)

        two : Waked (awaits v) (awaits_alone v)
            (refuse_senders v (end_agents v (release_all v (run_all_exits v (withdraw v s).after).after).after).after).after
            (refuse_receivers v (refuse_senders v (end_agents v (release_all v (run_all_exits v (withdraw v s).after).after).after).after).after).after (Some v)
            × (receivers_of
            (refuse_receivers v (refuse_senders v (end_agents v (release_all v (run_all_exits v (withdraw v s).after).after).after).after).after).after v
            ≡ [])
        two = wake_all (awaits v) (awaits_alone v) nonexist _ (Some v) one.0.nine

-- who takes a letter of x waits for one
takes_is : (x : ℕ) (b : Block) → takes_from x b ≡ true → (from : Option ℕ) × (b ≡ block.Receiving from) × (takes_from x (block.Receiving from) ≡ true)
takes_is x block.Not e = absurd (cc)
takes_is x (block.Joining u) e = absurd (cc)
takes_is x block.Sending e = absurd (cc)
takes_is x (block.Receiving from) e = (from, refl, e)
takes_is x (block.Entering m) e = absurd (cc)
takes_is x (block.Waiting c) e = absurd (cc)
takes_is x block.Sleeping e = absurd (cc)

-- a letter of another is posted
module _ (u : ℕ) (Fits : Option ℕ → Answer → Type 0) where
  pub turn_post : (s : State) → Attends u Fits s → (letter : Letter) → letter.from ≢ u
      → (letter.to ≡ u → (from : Option ℕ) → takes_from letter.from (block.Receiving from) ≡ true → Fits from (as_answer letter))
      → Turn u Fits s (post letter s)
  turn_post s here letter away fits = by_test (passes (λ (row : ThreadRow). takes_from letter.from row.block) (thread_of s letter.to)) refl
    where
      own : passes (λ (row : ThreadRow). takes_from letter.from row.block) (thread_of s letter.to) ≡ true → letter.to ≡ u
          → (f : Option ℕ) × (here.row.block ≡ block.Receiving f) × Hears Fits f (as_answer letter)
      own takes e =
          let is = takes_is letter.from here.row.block
          (ap (passes (λ (row : ThreadRow). takes_from letter.from row.block)) (sym here.known ∙ ap (thread_of s) (sym e)) ∙ takes) in
          (is.0, is.1, inl (fits e is.0 is.2))

      by_test : (b : Bool) → passes (λ (row : ThreadRow). takes_from letter.from row.block) (thread_of s letter.to) ≡ b
          → Turn u Fits s (cond b (unblock (as_answer letter) letter.to (record s { letters = s.letters ++ as_received letter ∷ [] }))
          (still (record s { letters = s.letters ++ letter ∷ [] })))
      by_test true takes = turn_waked u Fits s here _ (as_answer letter) letter.to (own takes) refl (pushed_own u Fits (as_received letter) away s.letters) refl
      by_test false takes = turn_plain u Fits s _
          (sight_same u Fits s (record s { letters = s.letters ++ letter ∷ [] }) here.row here.known here.known (pushed_own u Fits letter away s.letters)) refl
