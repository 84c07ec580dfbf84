-- How many effects a death has: each thread that goes on waited, so no more are answered than wait.
use Rattle.death_cleanup.proofs.Looks.{find-row}
use Rattle.lwp_types.specs.Agents.{after_agent_end, agents_of, end_agent}
use Rattle.lwp_types.specs.Case.{Case, Check, refusal_case, unless}
use Rattle.lwp_types.specs.Choice.{is_eligible, is_eligible_in}
use Rattle.lwp_types.specs.CountLaws.{count-cons, count-reverse, one, one-le}
use Rattle.lwp_types.specs.Counts.{has_its_marks}
use Rattle.lwp_types.specs.Death.{answer_joiners, bury, death, end_agents, joins, refuse_receivers, refuse_sender}
use Rattle.lwp_types.specs.Death.{refuse_senders, release_all, run_all_exits, withdraw}
use Rattle.lwp_types.specs.Exits.{exit_case, run_exit}
use Rattle.lwp_types.specs.Lawful.{NineParts}
use Rattle.lwp_types.specs.Messages.{after_reply, awaits, letters_of, senders_to, with_holding, without_letter}
use Rattle.lwp_types.specs.Monitors.{after_exit, depth_in, with_depth}
use Rattle.lwp_types.specs.Exceptions.{exit_of, exits_of, is_exit, is_frame}
use Rattle.lwp_types.specs.MonitorRelease.{grant, last_lock, next_owner, release, without_lock}
use Rattle.lwp_types.specs.State.{Outcome, State, ThreadRow, and_then, row_with_block, for_each, in_order, is_agent, is_id}
use Rattle.lwp_types.specs.State.{is_not_blocked, is_number, is_thread, marks_in, row_with_marks, passes, still, row_with_suspension}
use Rattle.lwp_types.specs.State.{thread_of, with_block, with_marks, with_marks_of, with_suspension}
use Rattle.lwp_types.specs.Unblock.{nonexist, unblock, zero_answer}
use Rattle.lwp_types.specs.Conditions.{after_wake, after_wake_all, condition_of, is_lock_of, waking}
use Rattle.lwp_types.specs.declared.call.Answer.{Answer}
use Rattle.lwp_types.specs.declared.call.Answer.TheVariants as answer
use Rattle.lwp_types.specs.declared.call.ExitCall.{ExitCall}
use Rattle.lwp_types.specs.declared.call.ExitCall.TheVariants as exit
use Rattle.lwp_types.specs.declared.call.Effect.TheVariants as effect
use Rattle.lwp_types.specs.declared.rows.Block.{Block}
use Rattle.lwp_types.specs.declared.rows.Block.TheVariants as block
use Rattle.lwp_types.specs.declared.rows.CondRow.{CondRow}
use Rattle.lwp_types.specs.declared.rows.ExitMark.{ExitMark}
use Rattle.lwp_types.specs.declared.rows.Mark.{Mark}
use Rattle.lwp_types.specs.declared.rows.Mark.TheVariants as mark
use Rattle.lwp_types.specs.declared.rows.Request.{Request}
use Rattle.lwp_types.specs.declared.rows.WaitRow.{WaitRow}
use Rattle.pod_laws.proofs.AgentEnds.{awaits_alone}
use Rattle.pod_laws.proofs.Balances.{put_sum}
use Rattle.pod_laws.proofs.Checks.{Passed}
use Rattle.pod_laws.proofs.Chosen.{living}
use Rattle.pod_laws.proofs.DeathLoops.{Lonely, Unowning, end_first, first_sender, owned, refuse_first, refused_all, release_first}
use Rattle.pod_laws.proofs.Deaths.{dying_living, joins_alone, lonely, nine_unwound, nine_withdrawn, unmarked_nine, unowning}
use Rattle.pod_laws.proofs.Drains.{first_waiter, wake_all, wake_first, waiters_by}
use Rattle.pod_laws.proofs.Elements.{all_found, true_of}
use Rattle.pod_laws.proofs.ExitCalls.{run_exit_keeps}
use Rattle.pod_laws.proofs.MessageCalls.{reply_sends, sender_row}
use Rattle.pod_laws.proofs.LetterMoves.{is_alone}
use Rattle.pod_laws.proofs.LockMoves.{next, requester}
use Rattle.pod_laws.proofs.OnceExits.{of_case}
use Rattle.pod_laws.proofs.Rowed.{once_threads}
use Rattle.pod_laws.proofs.Rows.{number_known}
use Rattle.pod_laws.proofs.ConditionCalls.{Among, all_among, best_among, waking_begins}
use Rattle.pod_laws.proofs.Waking.{Waking, first_waits as wait_listed, waiter, waking_next}
use Rattle.std.proofs.Common.{Bool, List, None, Option, Some, [], ap, arith, cond, count_by, false, length, length-append}
use Rattle.std.proofs.Common.{not, refl, reverse, sum_by, sym, true, ℕ, ◌+◌, ◌-◌, ◌||◌, ◌∙◌, ◌∷◌, ◌≡◌, ◌≤◌}
use Rattle.std.proofs.lemmas.Bool.{and_parts, eq-eqb, leb-true}
use Rattle.std.proofs.lemmas.List.Sums.{sum_by-cons}
use Rattle.std.specs.List.{filter, filter_map, find, fold}
use Rattle.std.specs.Prelude.{nat_le, option_map, unwrap_or}

-- a thread that waits
abbrev waits_one : ThreadRow → ℕ
waits_one row = one (not (is_not_blocked row.block))

-- how many threads wait
abbrev pub waiting : State → ℕ
waiting s = sum_by waits_one s.threads

-- what is told is paid by those who wait no more, but for so many effects
pub record Spends (more : ℕ) (s : State) (out : Outcome) : Type 0 where
  pub few : length out.effects + waiting out.after ≤ waiting s + more

spends_quiet : (s after : State) → waiting after ≤ waiting s → Spends 0 s (record { after = after; effects = [] })
spends_quiet s after less = record { few = omega (arith, less) }

spends_still : (s : State) → Spends 0 s (still s)
spends_still s = record { few = omega arith }

pub spends_then : (a b : ℕ) (s : State) (first : Outcome) (more : State → Outcome) → Spends a s first
    → Spends b first.after (more first.after) → Spends (a + b) s (and_then first more)
unfolding and_then
spends_then a b s first more one two = record { few = omega (arith, one.few, two.few, length-append first.effects (more first.after).effects) }

-- a loop, under what it keeps
spends_each : {A : Type 0} (P : State → Type 0) (change : A → State → Outcome) → ((x : A) (s : State) → P s → P (change x s).after)
    → ((x : A) (s : State) → P s → Spends 1 s (change x s)) → (xs : List A) (s : State) → P s → Spends (length xs) s (for_each change xs s)
unfolding for_each
spends_each P change keeps spends [] s was = spends_still s
spends_each P change keeps spends (x ∷ xs) s was =
    let all = spends_then 1 (length xs) s (change x s) (for_each change xs) (spends x s was)
    (spends_each P change keeps spends xs (change x s).after (keeps x s was)) in
    record { few = omega (arith, all.few) }

-- a loop over what the state lists
pub spends_drain : {A : Type 0} (P : State → Type 0) (list : State → List A) (change : A → State → Outcome)
    → ((x : A) (xs : List A) (s : State) → P s → list s ≡ x ∷ xs → P (change x s).after × (list (change x s).after ≡ xs))
    → ((x : A) (xs : List A) (s : State) → P s → list s ≡ x ∷ xs → Spends 0 s (change x s))
    → (xs : List A) (s : State) → P s → list s ≡ xs → Spends 0 s (for_each change xs s)
unfolding for_each
spends_drain P list change one_less spends [] s was listed = spends_still s
spends_drain P list change one_less spends (x ∷ xs) s was listed =
    let next = one_less x xs s was listed in
    spends_then 0 0 s (change x s) (for_each change xs) (spends x xs s was listed)
    (spends_drain P list change one_less spends xs (change x s).after next.0 next.1)

-- one thread goes on, or waits for something else

module _ (s : State) (d : Option ℕ) (was : NineParts s d) (v : ℕ) (x : ThreadRow) (known : thread_of s v ≡ Some x) where
  put_one : (b : Block) → sum_by waits_one (with_block v b s.threads) + waits_one x ≡ waiting s + one (not (is_not_blocked b))
  put_one b = put_sum (λ row. row.number) (row_with_block v b) v waits_one (λ row away. rw away refl) s.threads x known (once_threads s d was v)
      ∙ ap (λ c. waiting s + one (not (is_not_blocked (cond c b x.block)))) (eq-eqb x.number v (number_known s.threads v x known))

  pub spends_unblock : is_not_blocked x.block ≡ false → (a : Answer) → Spends 0 s (unblock a v s)
  spends_unblock waits a = record { few = omega (arith, put_one block.Not, ap (λ b. one (not b)) waits) }

-- the calls of exit procedures

spends_grant : (s : State) (d : Option ℕ) → NineParts s d → (m : ℕ) (o : Option Request) → next_owner s m ≡ o
    → Spends 0 s (grant o (record s { locks = without_lock m s.locks }))
spends_grant s d was m None e = spends_quiet s (record s { locks = without_lock m s.locks }) (omega arith)
spends_grant s d was m (Some r) e =
    let who = requester s d was r (next s d was m r e).some in
    record { few = (spends_unblock s d was r.tid who.row who.known (ap is_not_blocked who.enters) zero_answer).few }

pub spends_release : (s : State) (d : Option ℕ) → NineParts s d → (m : ℕ) → Spends 0 s (release m s)
spends_release s d was m = spends_grant s d was m (next_owner s m) refl

spends_exited : (s : State) (d : Option ℕ) → NineParts s d → (m : ℕ) → Spends 0 s (after_exit m s)
spends_exited s d was m = by_depth (nat_le (depth_in s.locks m) 1)
  where
    by_depth : (b : Bool) → Spends 0 s (cond b (release m s) (still (record s { locks = with_depth m (depth_in s.locks m - 1) s.locks })))
    by_depth true = spends_release s d was m
    by_depth false = spends_quiet s (record s { locks = with_depth m (depth_in s.locks m - 1) s.locks }) (omega arith)

spends_replied : (s : State) (d : Option ℕ) → NineParts s d → (v : ℕ) (text : List ℕ) → is_id s v ≡ true → 1 ≤ letters_of s.letters v
    → Spends 0 s (after_reply v text s)
spends_replied s d was v text lives some = by_agent (is_agent s v) lives
  where
    by_agent : (b : Bool) → (is_thread s v || b) ≡ true
        → Spends 0 s (cond b (still (record s { letters = without_letter v s.letters; agents = with_holding v false s.agents }))
        (unblock (answer.Reply text) v (record s { letters = without_letter v s.letters })))
    by_agent true h = spends_quiet s (record s { letters = without_letter v s.letters; agents = with_holding v false s.agents }) (omega arith)
    by_agent false h =
        let who = living s v (either (is_thread s v) h) in
        record { few = (spends_unblock s d was v who.row who.known (ap is_not_blocked (sender_row s d was v who.row who.known some)) (answer.Reply text)).few }
      where
        either : (a : Bool) → (a || false) ≡ true → a ≡ true
        either true e = refl
        either false e = e

-- those who are woken wait on
waking_same : (d : Option ℕ) (t c : ℕ) (row : CondRow) (ws : List WaitRow) (now : State) → Waking d t c row ws now
    → waiting (fold (λ now w. after_wake row.mon w now) now ws) ≡ waiting now
waking_same d t c row [] now was = refl
waking_same d t c row (w ∷ ws) now was =
    let who = waiter now d was.nine w.tid c (wait_listed d t c row w ws now was) in
    waking_same d t c row ws (after_wake row.mon w now) (waking_next d t c row w ws now was)
    ∙ omega (arith, put_one now d was.nine w.tid who.row who.known (block.Entering row.mon), ap (λ b. one (not (is_not_blocked b))) who.waits)

spends_unless : (s : State) (checks : List Check) (otherwise : Case) → (Passed checks → Spends 0 s (of_case otherwise))
    → Spends 0 s (of_case (unless s checks otherwise))
unfolding unless
spends_unless s [] otherwise fine = fine tt
spends_unless s (check ∷ checks) otherwise fine = by_test check.0 refl (λ here. spends_unless s checks otherwise (λ rest. fine (here, rest)))
  where
    by_test : (b : Bool) → check.0 ≡ b → (check.0 ≡ false → Spends 0 s (of_case (unless s checks otherwise)))
        → Spends 0 s (of_case (cond b (refusal_case s check.1) (unless s checks otherwise)))
    by_test true e rest = spends_still s
    by_test false e rest = rest e

spends_waking : (s : State) (d : Option ℕ) → NineParts s d → (t c : ℕ) (more : List Check) (ws : List WaitRow) → Among s c ws
    → Spends 0 s (of_case (waking s t c more ws))
spends_waking s d was t c more ws among = spends_unless s _ _ (λ passed. by_row (condition_of s.conditions c) refl (true_of _ passed.1.0))
  where
    by_row : (o : Option CondRow) → condition_of s.conditions c ≡ o → passes (λ lock. is_lock_of lock o) (last_lock s.locks t) ≡ true
        → Spends 0 s (record { after = after_wake_all o ws s; effects = [] })
    by_row None e last = spends_still s
    by_row (Some row) e last =
        spends_quiet s (after_wake_all (Some row) ws s) (omega (arith, waking_same d t c row ws s (waking_begins s d was t c ws among row e last)))

sum-suspension : (v : ℕ) (b : Bool) (rows : List ThreadRow) → sum_by waits_one (with_suspension v b rows) ≡ sum_by waits_one rows
sum-suspension v b [] = refl
sum-suspension v b (row ∷ rows) =
    omega (arith, sum-suspension v b rows, sum_by-cons waits_one (row_with_suspension v b row) (with_suspension v b rows), sum_by-cons waits_one row rows)

spends_case : (s : State) (d : Option ℕ) → NineParts s d → (t : ℕ) (call : ExitCall) → Spends 0 s (of_case (exit_case s t call))
spends_case s d was t (exit.MonExit m) = spends_unless s _ _ (λ passed. spends_exited s d was m)
spends_case s d was t (exit.MonBreak m) = spends_unless s _ _ (λ passed. spends_release s d was m)
spends_case s d was t (exit.Notify c) = spends_waking s d was t c _ _ (best_among s d was c)
spends_case s d was t (exit.Broadcast c) = spends_waking s d was t c _ _ (all_among s d was c)
spends_case s d was t (exit.Reply to text) = spends_unless s _ _ (λ passed. spends_replied s d was to text (true_of _ passed.0) (reply_sends s t to passed.1.0))
spends_case s d was t (exit.Resume v) = spends_unless s _ _ (λ passed. spends_quiet s _ (omega (arith, sum-suspension v false s.threads)))
spends_case s d was t (exit.SetExit code) = spends_unless s _ _ (λ passed. spends_quiet s _ (omega arith))
spends_case s d was t (exit.Note text) = spends_still s

spends_run : (d : Option ℕ) (t : ℕ) (x : ExitMark) (s : State) → NineParts s d → Spends 1 s (run_exit t x s)
spends_run d t x s was = record {
  few = omega (
    arith,
    (spends_case s d was t x.call).few,
    length-append (exit_case s t x.call).others (effect.Exited t x.reg x.call (unwrap_or (exit_case s t x.call).own zero_answer) ∷ []),
  );
}

sum-marks : (t : ℕ) (ms : List Mark) (rows : List ThreadRow) → sum_by waits_one (with_marks t ms rows) ≡ sum_by waits_one rows
sum-marks t ms [] = refl
sum-marks t ms (row ∷ rows) =
    omega (arith, sum-marks t ms rows, sum_by-cons waits_one (row_with_marks t ms row) (with_marks t ms rows), sum_by-cons waits_one row rows)

-- the steps of a death

module _ (q : Block → Bool) (alone : (b : Block) → q b ≡ true → is_alone b ≡ true) (blocks : (b : Block) → q b ≡ true → is_not_blocked b ≡ false) where
  spends_wake : (a : Answer) (s : State) (d : Option ℕ) → NineParts s d → Spends 0 s (for_each (unblock a) (waiters_by q s) s)
  spends_wake a s d was = spends_drain (λ s. NineParts s d) (waiters_by q) (unblock a) (λ u us s was listed. wake_first q alone s d was u us listed)
      (λ u us s was listed.
      let who = first_waiter q alone s d was u us listed in spends_unblock s d was u who.row who.known (blocks who.row.block who.passes) a)
      (waiters_by q s) s was refl

awaits_blocks : (t : ℕ) (b : Block) → awaits t b ≡ true → is_not_blocked b ≡ false
awaits_blocks t block.Not e = absurd (let no : false ≡ true = e in cc)
awaits_blocks t (block.Joining u) e = refl
awaits_blocks t block.Sending e = refl
awaits_blocks t (block.Receiving from) e = refl
awaits_blocks t (block.Entering m) e = refl
awaits_blocks t (block.Waiting c) e = refl
awaits_blocks t block.Sleeping e = refl

joins_blocks : (t : ℕ) (b : Block) → joins t b ≡ true → is_not_blocked b ≡ false
joins_blocks t block.Not e = absurd (let no : false ≡ true = e in cc)
joins_blocks t (block.Joining u) e = refl
joins_blocks t block.Sending e = refl
joins_blocks t (block.Receiving from) e = refl
joins_blocks t (block.Entering m) e = refl
joins_blocks t (block.Waiting c) e = refl
joins_blocks t block.Sleeping e = refl

spends_end_agent : (s : State) (d : Option ℕ) → NineParts s d → (a : ℕ) → Spends 0 s (end_agent a s)
spends_end_agent s d was a = spends_then 0 0 s _ (λ now. still (after_agent_end a now))
    (spends_wake (awaits a) (awaits_alone a) (awaits_blocks a) nonexist s d was) (record { few = omega arith })

module _ (t : ℕ) where
  spends_release_all : (s : State) → NineParts s (Some t) → Spends 0 s (release_all t s)
  spends_release_all s was = spends_drain (λ s. NineParts s (Some t)) (λ s. owned s.locks t) release (release_first t)
      (λ m ms s was listed. spends_release s (Some t) was m) (owned s.locks t) s was refl

  spends_end_agents : (s : State) → Unowning t s → Spends 0 s (end_agents t s)
  spends_end_agents s was = spends_drain (Unowning t) (λ s. agents_of s.agents t) end_agent (end_first t)
      (λ a as' s was listed. spends_end_agent s (Some t) was.nine a) (agents_of s.agents t) s was refl

  spends_senders : (s : State) → Lonely t s → Spends 0 s (refuse_senders t s)
  spends_senders s was = spends_drain (Lonely t) (λ s. senders_to s.letters t) refuse_sender (refuse_first t)
      (λ x xs s was listed. let who = first_sender t x xs s was listed in record {
        few = (spends_unblock s (Some t) was.nine x who.row who.known (ap is_not_blocked who.sends) nonexist).few;
      })
      (senders_to s.letters t) s was refl

  sum-buried : (rows : List ThreadRow) → sum_by waits_one (filter (λ row. not (is_number t row)) rows) ≤ sum_by waits_one rows
  sum-buried [] = omega arith
  sum-buried (row ∷ rows) = by_test (is_number t row) (sum-buried rows)
    where
      by_test : (c : Bool) → sum_by waits_one (filter (λ row. not (is_number t row)) rows) ≤ sum_by waits_one rows
          → sum_by waits_one (cond (not c) (row ∷ filter (λ row. not (is_number t row)) rows) (filter (λ row. not (is_number t row)) rows))
          ≤ sum_by waits_one (row ∷ rows)
      by_test true rest = omega (arith, rest, sum_by-cons waits_one row rows)
      by_test false rest = omega (arith, rest, sum_by-cons waits_one row rows, sum_by-cons waits_one row (filter (λ row. not (is_number t row)) rows))

  spends_bury : (s : State) → Spends 1 s (bury t s)
  spends_bury s = record { few = omega (arith, sum-buried s.threads) }

  spends_unwound : (s : State) → NineParts s (Some t) → Spends (length (exits_of (marks_in s t))) s (run_all_exits t s)
  spends_unwound s was =
      let rest = spends_each (λ s. NineParts s (Some t)) (run_exit t) (λ x s was. run_exit_keeps (Some t) t x s was) (spends_run (Some t) t)
      (exits_of (marks_in s t)) (with_marks_of s t []) (unmarked_nine s t was) in
      record { few = omega (arith, rest.few, sum-marks t [] s.threads) }

-- how many wait, and how many exit procedures there are

pub sum-most : (rows : List ThreadRow) → sum_by waits_one rows ≤ length rows
sum-most [] = omega arith
sum-most (row ∷ rows) = omega (arith, sum-most rows, sum_by-cons waits_one row rows, one-le (not (is_not_blocked row.block)))

-- one of them doesn't wait
sum-less : (p : ThreadRow → Bool) (rows : List ThreadRow) (x : ThreadRow) → find p rows ≡ Some x → is_not_blocked x.block ≡ true
    → sum_by waits_one rows + 1 ≤ length rows
sum-less p [] x known free = absurd (cc)
sum-less p (row ∷ rows) x known free = by_test (p row) known (λ later. sum-less p rows x later free)
  where
    by_test : (c : Bool) → cond c (Some row) (find p rows) ≡ Some x → (find p rows ≡ Some x → sum_by waits_one rows + 1 ≤ length rows)
        → sum_by waits_one (row ∷ rows) + 1 ≤ length (row ∷ rows)
    by_test true here rest =
        let same : row ≡ x = cc in
        omega
        (arith, sum-most rows, sum_by-cons waits_one row rows, ap (λ (r : ThreadRow). one (not (is_not_blocked r.block))) same, ap (λ b. one (not b)) free)
    by_test false there rest = omega (arith, rest there, sum_by-cons waits_one row rows, one-le (not (is_not_blocked row.block)))

exits-counted : (ms : List Mark) → length (filter_map exit_of ms) ≡ count_by is_exit ms
exits-counted [] = refl
exits-counted (mark.Frame ∷ ms) = omega (arith, exits-counted ms, count-cons is_exit mark.Frame ms)
exits-counted (mark.Handler pat func arg ∷ ms) = omega (arith, exits-counted ms, count-cons is_exit (mark.Handler pat func arg) ms)
exits-counted (mark.Exit reg x ∷ ms) = omega (arith, exits-counted ms, count-cons is_exit (mark.Exit reg x) ms)

count-most : (ms : List Mark) → count_by is_exit ms ≤ length ms
count-most [] = omega arith
count-most (m ∷ ms) = omega (arith, count-most ms, count-cons is_exit m ms, one-le (is_exit m))

-- the lowest mark of a stack is a frame
few-exits : (ms : List Mark) → has_its_marks ms ≡ true → length (exits_of ms) ≤ 255
few-exits [] h = absurd (cc)
few-exits (mark.Handler pat func arg ∷ ms) h = absurd (let no : false ≡ true = h in cc)
few-exits (mark.Exit reg x ∷ ms) h = absurd (let no : false ≡ true = h in cc)
few-exits (mark.Frame ∷ ms) h = omega (
  arith,
  exits-counted (reverse (mark.Frame ∷ ms)),
  count-reverse is_exit (mark.Frame ∷ ms),
  count-cons is_exit mark.Frame ms,
  count-most ms,
  leb-true (length (mark.Frame ∷ ms)) 256 (and_parts _ _ (and_parts (is_frame mark.Frame) _ h).1).1,
)

module _ (s : State) (was : NineParts s None) (t : ℕ) (x : ThreadRow) (known : thread_of s t ≡ Some x) where
  -- the marks of the dying thread are its own, until they go
  marks-withdrawn : marks_in (withdraw t s).after t ≡ x.marks
  marks-withdrawn = ap (λ o. unwrap_or (option_map (λ (row : ThreadRow). row.marks) o) [])
      (by_suspension (with_block t block.Not s.threads) ∙ ap (option_map (row_with_suspension t false)) (find-row t t block.Not s.threads)
      ∙ ap (λ o. option_map (row_with_suspension t false) (option_map (row_with_block t block.Not) o)) known)
    where
      by_suspension : (rows : List ThreadRow)
          → find (is_number t) (with_suspension t false rows) ≡ option_map (row_with_suspension t false) (find (is_number t) rows)
      by_suspension [] = refl
      by_suspension (row ∷ rows) = by_test (by_suspension rows) (is_number t row)
        where
          by_test : find (is_number t) (with_suspension t false rows) ≡ option_map (row_with_suspension t false) (find (is_number t) rows) → (c : Bool)
              → cond c (Some (record row { suspended = cond (is_number t row) false row.suspended })) (find (is_number t) (with_suspension t false rows))
              ≡ option_map (row_with_suspension t false) (cond c (Some row) (find (is_number t) rows))
          by_test rest true = refl
          by_test rest false = rest

  few-marked : length (exits_of (marks_in (withdraw t s).after t)) ≤ 255
  few-marked = omega (
    arith,
    few-exits x.marks (all_found (is_number t) (λ row. false || has_its_marks row.marks) s.threads x was.marks known),
    ap (λ ms. length (exits_of ms)) marks-withdrawn,
  )

  few-waiting : waiting (withdraw t s).after + 1 ≤ 1024
  few-waiting =
      let nine = nine_withdrawn s was t x known in
      let who = dying_living (withdraw t s).after t nine in
      let eligible : is_eligible who.row ≡ true = ap (passes is_eligible) (sym who.known) ∙ (and_parts (is_eligible_in (withdraw t s).after t) _ nine.dies).0 in
      omega (
        arith,
        sum-less (is_number t) (withdraw t s).after.threads who.row who.known (and_parts (not who.row.suspended) (is_not_blocked who.row.block) eligible).1,
        nine.numbers.3.0,
      )

  -- what is told from the withdrawal on
  pub death_few : length (death t s).effects ≤ 1279
  unfolding in_order and_then
  death_few =
      let s1 = (withdraw t s).after in
      let s2 = (run_all_exits t s1).after in
      let s3 = (release_all t s2).after in
      let s4 = (end_agents t s3).after in
      let s5 = (refuse_senders t s4).after in
      let s6 = (refuse_receivers t s5).after in
      let s7 = (answer_joiners t s6).after in
      let nine = nine_withdrawn s was t x known in
      let away = lonely s was t x known in
      let unsent = refused_all t s4 away in
      let unawaited = wake_all (awaits t) (awaits_alone t) nonexist s5 (Some t) unsent.0.nine in
      let buried = spends_then 1 0 s7 (bury t s7) (in_order []) (spends_bury t s7) (spends_still (bury t s7).after) in
      let joined = spends_then 0 1 s6 (answer_joiners t s6) (in_order (bury t ∷ []))
      (spends_wake (joins t) (joins_alone t) (joins_blocks t) zero_answer s6 (Some t) unawaited.0.nine) buried in
      let received = spends_then 0 1 s5 (refuse_receivers t s5) (in_order (answer_joiners t ∷ bury t ∷ []))
      (spends_wake (awaits t) (awaits_alone t) (awaits_blocks t) nonexist s5 (Some t) unsent.0.nine) joined in
      let sent = spends_then 0 1 s4 (refuse_senders t s4) (in_order (refuse_receivers t ∷ answer_joiners t ∷ bury t ∷ []))
      (spends_senders t s4 away) received in
      let ended = spends_then 0 1 s3 (end_agents t s3) (in_order (refuse_senders t ∷ refuse_receivers t ∷ answer_joiners t ∷ bury t ∷ []))
      (spends_end_agents t s3 (unowning s was t x known)) sent in
      let released = spends_then 0 1 s2 (release_all t s2)
      (in_order (end_agents t ∷ refuse_senders t ∷ refuse_receivers t ∷ answer_joiners t ∷ bury t ∷ []))
      (spends_release_all t s2 (nine_unwound s was t x known)) ended in
      let all = spends_then (length (exits_of (marks_in s1 t))) 1 s1 (run_all_exits t s1)
      (in_order (release_all t ∷ end_agents t ∷ refuse_senders t ∷ refuse_receivers t ∷ answer_joiners t ∷ bury t ∷ []))
      (spends_unwound t s1 nine) released in
      omega (arith, all.few, few-marked, few-waiting)
