-- Exit procedures neither look at a thread's marks nor change them.
use Rattle.death_cleanup.proofs.Looks.{find-row, same-some}
use Rattle.lwp_types.specs.Case.{Case, Check, refusal_case, unless, value_case, with_zero}
use Rattle.lwp_types.specs.Exits.{exit_case, exit_outcome, run_exit}
use Rattle.lwp_types.specs.Messages.{after_reply, received_letter, with_holding, without_letter}
use Rattle.lwp_types.specs.Monitors.{after_exit, depth_in, is_owner, with_depth}
use Rattle.lwp_types.specs.MonitorRelease.{grant, lock_of, next_owner, release, requests_of, without_lock, without_request}
use Rattle.lwp_types.specs.State.{Outcome, State, ThreadRow, is_agent, is_blocked_in, is_id, is_not_blocked, is_number, is_suspended_in, is_thread, marks_in}
use Rattle.lwp_types.specs.State.{row_with_marks, member, passes, priority_in, still, with_block, with_marks, with_marks_of, with_suspension}
use Rattle.lwp_types.specs.Threads.{after_resume}
use Rattle.lwp_types.specs.Unblock.{after_unblock, unblock, zero_answer}
use Rattle.lwp_types.specs.Conditions.{after_wake, after_wake_all, condition_of, is_no_condition, is_not_last, waits_on}
use Rattle.lwp_types.specs.Choice.{best_by}
use Rattle.lwp_types.specs.declared.call.Answer.{Answer}
use Rattle.lwp_types.specs.declared.call.Answer.TheVariants as answer
use Rattle.lwp_types.specs.declared.call.ExitCall.{ExitCall}
use Rattle.lwp_types.specs.declared.call.ExitCall.TheVariants as exit
use Rattle.lwp_types.specs.declared.call.LwpErr.TheVariants as error
use Rattle.lwp_types.specs.declared.rows.Block.{Block}
use Rattle.lwp_types.specs.declared.rows.Block.TheVariants as block
use Rattle.pod_laws.proofs.Elements.{find_passes}
use Rattle.lwp_types.specs.declared.rows.CondRow.{CondRow}
use Rattle.lwp_types.specs.declared.rows.ExitMark.{ExitMark}
use Rattle.lwp_types.specs.declared.rows.Letter.{Letter}
use Rattle.lwp_types.specs.declared.rows.Mark.{Mark}
use Rattle.lwp_types.specs.declared.rows.Request.{Request}
use Rattle.lwp_types.specs.declared.rows.WaitRow.{WaitRow}
use Rattle.std.proofs.Common.{Bool, List, None, Option, Some, [], ap, cond, false, not, refl, true, ℕ, ◌++◌, ◌-◌, ◌||◌, ◌∙◌, ◌∷◌, ◌≡◌}
use Rattle.std.specs.List.{find, fold}
use Rattle.std.specs.Prelude.{is_none, is_some, length, nat_le, nat_lt, option_map, option_to_list, unwrap_or}

-- two functions with the same values
funext : {A B : Type 0} (f g : A → B) → ((x : A) → f x ≡ g x) → f ≡ g
funext f g h = λ i. λ x. h x i

module _ (t : ℕ) (ms : List Mark) where
  -- the state, the outcome and the case in which t has other marks
  abbrev pub remarked : State → State
  remarked s = with_marks_of s t ms

  abbrev pub remarked_out : Outcome → Outcome
  remarked_out out = record { after = remarked out.after; effects = out.effects }

  abbrev remarked_case : Case → Case
  remarked_case made = record { after = remarked made.after; others = made.others; own = made.own }

  -- what is read off the threads is the same

  pub found : (u : ℕ) (rows : List ThreadRow) → find (is_number u) (with_marks t ms rows) ≡ option_map (row_with_marks t ms) (find (is_number u) rows)
  found u [] = refl
  found u (row ∷ rows) = by_test (found u rows) (is_number u row)
    where
      by_test : find (is_number u) (with_marks t ms rows) ≡ option_map (row_with_marks t ms) (find (is_number u) rows) → (c : Bool)
          → cond c (Some (row_with_marks t ms row)) (find (is_number u) (with_marks t ms rows))
          ≡ option_map (row_with_marks t ms) (cond c (Some row) (find (is_number u) rows))
      by_test rest true = refl
      by_test rest false = rest

  passes_same : (q : ThreadRow → Bool) → ((row : ThreadRow) → q (row_with_marks t ms row) ≡ q row) → (o : Option ThreadRow)
      → passes q (option_map (row_with_marks t ms) o) ≡ passes q o
  passes_same q same None = refl
  passes_same q same (Some row) = same row

  pub lives : (s : State) (u : ℕ) → is_thread (remarked s) u ≡ is_thread s u
  lives s u = ap is_some (found u s.threads) ∙ by_row (find (is_number u) s.threads)
    where
      by_row : (o : Option ThreadRow) → is_some (option_map (row_with_marks t ms) o) ≡ is_some o
      by_row None = refl
      by_row (Some row) = refl

  suspended : (s : State) (u : ℕ) → is_suspended_in (remarked s) u ≡ is_suspended_in s u
  suspended s u = ap (passes (λ (row : ThreadRow). row.suspended)) (found u s.threads)
      ∙ passes_same (λ row. row.suspended) (λ row. refl) (find (is_number u) s.threads)

  pub blocked : (s : State) (u : ℕ) → is_blocked_in (remarked s) u ≡ is_blocked_in s u
  blocked s u = ap (passes (λ (row : ThreadRow). not (is_not_blocked row.block))) (found u s.threads)
      ∙ passes_same (λ row. not (is_not_blocked row.block)) (λ row. refl) (find (is_number u) s.threads)

  pub priority : (s : State) (u : ℕ) → priority_in (remarked s) u ≡ priority_in s u
  priority s u = ap (λ o. unwrap_or (option_map (λ (row : ThreadRow). row.priority) o) 0) (found u s.threads) ∙ by_row (find (is_number u) s.threads)
    where
      by_row : (o : Option ThreadRow)
          → unwrap_or (option_map (λ (row : ThreadRow). row.priority) (option_map (row_with_marks t ms) o)) 0
          ≡ unwrap_or (option_map (λ (row : ThreadRow). row.priority) o) 0
      by_row None = refl
      by_row (Some row) = refl

  priorities : (s : State) → priority_in (remarked s) ≡ priority_in s
  priorities s = funext (priority_in (remarked s)) (priority_in s) (priority s)

  -- changes of the threads' rows

  blocks : (u : ℕ) (b : Block) (rows : List ThreadRow) → with_block u b (with_marks t ms rows) ≡ with_marks t ms (with_block u b rows)
  blocks u b [] = refl
  blocks u b (row ∷ rows) = ap (λ rs. row_with_marks t ms (record row { block = cond (is_number u row) b row.block }) ∷ rs) (blocks u b rows)

  suspensions : (u : ℕ) (b : Bool) (rows : List ThreadRow) → with_suspension u b (with_marks t ms rows) ≡ with_marks t ms (with_suspension u b rows)
  suspensions u b [] = refl
  suspensions u b (row ∷ rows) = ap (λ rs. row_with_marks t ms (record row { suspended = cond (is_number u row) b row.suspended }) ∷ rs) (suspensions u b rows)

  again : (rows : List ThreadRow) (ks : List Mark) → with_marks t ms (with_marks t ks rows) ≡ with_marks t ms rows
  again [] ks = refl
  again (row ∷ rows) ks = by_test (is_number t row) (again rows ks)
    where
      by_test : (c : Bool) → with_marks t ms (with_marks t ks rows) ≡ with_marks t ms rows
          → record row { marks = cond c ms (cond c ks row.marks) } ∷ with_marks t ms (with_marks t ks rows)
          ≡ record row { marks = cond c ms row.marks } ∷ with_marks t ms rows
      by_test true rest = ap (λ rs. record row { marks = ms } ∷ rs) rest
      by_test false rest = ap (λ rs. row ∷ rs) rest

  -- other marks once more
  pub marked_again : (s : State) (ks : List Mark) → with_marks_of (with_marks_of s t ks) t ms ≡ with_marks_of s t ms
  marked_again s ks = ap (λ rows. record s { threads = rows }) (again s.threads ks)

  -- a thread that is there has them
  pub marks_now : (s : State) → is_thread s t ≡ true → marks_in (remarked s) t ≡ ms
  marks_now s is = ap (λ o. unwrap_or (option_map (λ (row : ThreadRow). row.marks) o) []) (found t s.threads) ∙ by_row (find (is_number t) s.threads) refl is
    where
      by_row : (o : Option ThreadRow) → find (is_number t) s.threads ≡ o → is_some o ≡ true
          → unwrap_or (option_map (λ (row : ThreadRow). row.marks) (option_map (row_with_marks t ms) o)) [] ≡ ms
      by_row None e is = absurd (cc)
      by_row (Some row) e is = ap (λ c. cond c ms row.marks) (find_passes (is_number t) s.threads row e)

  -- the changes of a state

  unblocked_so : (u : ℕ) (s : State) → after_unblock (remarked s) u ≡ remarked (after_unblock s u)
  unblocked_so u s = rw (blocks u block.Not s.threads, suspended s u) refl

  unblock_so : (a : Answer) (u : ℕ) (s : State) → unblock a u (remarked s) ≡ remarked_out (unblock a u s)
  unblock_so a u s = ap (λ after. record { after = after; effects = (unblock a u s).effects }) (unblocked_so u s)

  grant_so : (o : Option Request) (s : State) → grant o (remarked s) ≡ remarked_out (grant o s)
  grant_so None s = refl
  grant_so (Some r) s = unblock_so zero_answer r.tid (record s {
    requests = without_request r.tid s.requests;
    locks = s.locks ++ record { mon = r.mon; owner = r.tid; depth = r.depth } ∷ [];
  })

  release_so : (m : ℕ) (s : State) → release m (remarked s) ≡ remarked_out (release m s)
  release_so m s =
      ap (λ f. grant (best_by (λ (r : Request). f r.tid) (requests_of s.requests m)) (record (remarked s) { locks = without_lock m s.locks })) (priorities s)
      ∙ grant_so (next_owner s m) (record s { locks = without_lock m s.locks })

  exited_so : (m : ℕ) (s : State) → after_exit m (remarked s) ≡ remarked_out (after_exit m s)
  exited_so m s = by_depth (nat_le (depth_in s.locks m) 1)
    where
      by_depth : (b : Bool) → cond b (release m (remarked s)) (still (record (remarked s) { locks = with_depth m (depth_in s.locks m - 1) s.locks }))
          ≡ remarked_out (cond b (release m s) (still (record s { locks = with_depth m (depth_in s.locks m - 1) s.locks })))
      by_depth true = release_so m s
      by_depth false = refl

  replied_so : (u : ℕ) (text : List ℕ) (s : State) → after_reply u text (remarked s) ≡ remarked_out (after_reply u text s)
  replied_so u text s = by_agent (is_agent s u)
    where
      by_agent : (b : Bool)
          → cond b (still (record (remarked s) { letters = without_letter u s.letters; agents = with_holding u false s.agents }))
          (unblock (answer.Reply text) u (record (remarked s) { letters = without_letter u s.letters }))
          ≡ remarked_out (cond b (still (record s { letters = without_letter u s.letters; agents = with_holding u false s.agents }))
          (unblock (answer.Reply text) u (record s { letters = without_letter u s.letters })))
      by_agent true = refl
      by_agent false = unblock_so (answer.Reply text) u (record s { letters = without_letter u s.letters })

  woken_so : (m : ℕ) (w : WaitRow) (s : State) → after_wake m w (remarked s) ≡ remarked (after_wake m w s)
  woken_so m w s = rw (blocks w.tid (block.Entering m) s.threads) refl

  woken_list : (m : ℕ) (ws : List WaitRow) (s : State) → fold (λ now w. after_wake m w now) (remarked s) ws ≡ remarked (fold (λ now w. after_wake m w now) s ws)
  woken_list m [] s = refl
  woken_list m (w ∷ ws) s = ap (λ now. fold (λ now w. after_wake m w now) now ws) (woken_so m w s) ∙ woken_list m ws (after_wake m w s)

  woken_all_so : (o : Option CondRow) (ws : List WaitRow) (s : State) → after_wake_all o ws (remarked s) ≡ remarked (after_wake_all o ws s)
  woken_all_so None ws s = refl
  woken_all_so (Some row) ws s = woken_list row.mon ws s

  unless_so : (s : State) (checks : List Check) (otherwise : Case)
      → unless (remarked s) checks (remarked_case otherwise) ≡ remarked_case (unless s checks otherwise)
  unfolding unless
  unless_so s [] otherwise = refl
  unless_so s (check ∷ checks) otherwise = by_test check.0 (unless_so s checks otherwise)
    where
      by_test : (b : Bool) → unless (remarked s) checks (remarked_case otherwise) ≡ remarked_case (unless s checks otherwise)
          → cond b (refusal_case (remarked s) check.1) (unless (remarked s) checks (remarked_case otherwise))
          ≡ remarked_case (cond b (refusal_case s check.1) (unless s checks otherwise))
      by_test true rest = refl
      by_test false rest = rest

  -- what an exit procedure does

  waking_so : (s : State) (u c : ℕ) (ws : List WaitRow)
      → unless (remarked s) (is_no_condition s c ∷ is_not_last s u c ∷ []) (value_case (after_wake_all (condition_of s.conditions c) ws (remarked s)) 0)
      ≡ remarked_case (unless s (is_no_condition s c ∷ is_not_last s u c ∷ []) (value_case (after_wake_all (condition_of s.conditions c) ws s) 0))
  waking_so s u c ws = ap (λ now. unless (remarked s) (is_no_condition s c ∷ is_not_last s u c ∷ []) (value_case now 0))
      (woken_all_so (condition_of s.conditions c) ws s)
      ∙ unless_so s _ _

  exit_case_so : (s : State) (u : ℕ) (call : ExitCall) → exit_case (remarked s) u call ≡ remarked_case (exit_case s u call)
  exit_case_so s u (exit.MonExit m) = ap
      (λ (o : Outcome). unless (remarked s) ((not (member m s.monitors), error.NonExist) ∷ (not (is_owner s.locks u m), error.InvalidArg) ∷ []) (with_zero o))
      (exited_so m s)
      ∙ unless_so s _ _
  exit_case_so s u (exit.MonBreak m) = ap
      (λ (o : Outcome). unless (remarked s) ((not (member m s.monitors), error.NonExist) ∷ (is_none (lock_of s.locks m), error.NotOwned) ∷ []) (with_zero o))
      (release_so m s)
      ∙ unless_so s _ _
  exit_case_so s u (exit.Notify c) = ap
      (λ f. unless (remarked s) (is_no_condition s c ∷ is_not_last s u c ∷ [])
      (value_case (after_wake_all (condition_of s.conditions c) (option_to_list (best_by (λ (w : WaitRow). f w.tid) (waits_on s.waits c))) (remarked s)) 0))
      (priorities s)
      ∙ waking_so s u c (option_to_list (best_by (λ (w : WaitRow). priority_in s w.tid) (waits_on s.waits c)))
  exit_case_so s u (exit.Broadcast c) = waking_so s u c (waits_on s.waits c)
  exit_case_so s u (exit.Reply to text) = ap
      (λ b. unless (remarked s)
      ((not (b || is_agent s to), error.NonExist) ∷ (is_none (received_letter s.letters u to), error.NoWait)
      ∷ (passes (λ (letter : Letter). nat_lt letter.room (length text)) (received_letter s.letters u to), error.InvalidArg) ∷ [])
      (with_zero (after_reply to text (remarked s))))
      (lives s to)
      ∙ ap
      (λ (o : Outcome). unless (remarked s)
      ((not (is_id s to), error.NonExist) ∷ (is_none (received_letter s.letters u to), error.NoWait)
      ∷ (passes (λ (letter : Letter). nat_lt letter.room (length text)) (received_letter s.letters u to), error.InvalidArg) ∷ [])
      (with_zero o))
      (replied_so to text s)
      ∙ unless_so s _ _
  exit_case_so s u (exit.Resume v) = ap (λ b. unless (remarked s) ((not b, error.NonExist) ∷ []) (value_case (after_resume (remarked s) v) 0)) (lives s v)
      ∙ ap (λ now. unless (remarked s) ((not (is_thread s v), error.NonExist) ∷ []) (value_case now 0)) (resumed_so v s) ∙ unless_so s _ _
    where
      resumed_so : (v : ℕ) (s : State) → after_resume (remarked s) v ≡ remarked (after_resume s v)
      resumed_so v s = rw (suspensions v false s.threads, suspended s v, blocked s v) refl
  exit_case_so s u (exit.SetExit code) = unless_so s ((nat_lt 99 code, error.InvalidArg) ∷ []) (value_case (record s { status = code }) 0)
  exit_case_so s u (exit.Note text) = refl

  -- an exit procedure, and more of them
  pub run_exit_so : (u : ℕ) (x : ExitMark) (s : State) → run_exit u x (remarked s) ≡ remarked_out (run_exit u x s)
  run_exit_so u x s = ap (exit_outcome u x) (exit_case_so s u x.call)

-- nobody comes or goes by an exit procedure

module _ (v : ℕ) where
  abbrev Same : State → State → Type 0
  Same s after = is_thread after v ≡ is_thread s v

  same_block : (u : ℕ) (b : Block) (rows : List ThreadRow) → is_some (find (is_number v) (with_block u b rows)) ≡ is_some (find (is_number v) rows)
  same_block u b rows = ap is_some (find-row u v b rows) ∙ same-some _ (find (is_number v) rows)

  same_suspension : (u : ℕ) (b : Bool) (rows : List ThreadRow) → is_some (find (is_number v) (with_suspension u b rows)) ≡ is_some (find (is_number v) rows)
  same_suspension u b [] = refl
  same_suspension u b (row ∷ rows) = by_test (is_number v row) (same_suspension u b rows)
    where
      by_test : (c : Bool) → is_some (find (is_number v) (with_suspension u b rows)) ≡ is_some (find (is_number v) rows)
          → is_some (cond c (Some (record row { suspended = cond (is_number u row) b row.suspended })) (find (is_number v) (with_suspension u b rows)))
          ≡ is_some (cond c (Some row) (find (is_number v) rows))
      by_test true rest = refl
      by_test false rest = rest

  same_unless : (s : State) (checks : List Check) (otherwise : Case) → Same s otherwise.after → Same s (unless s checks otherwise).after
  unfolding unless
  same_unless s [] otherwise same = same
  same_unless s (check ∷ checks) otherwise same = by_test check.0 (same_unless s checks otherwise same)
    where
      by_test : (b : Bool) → Same s (unless s checks otherwise).after → Same s (cond b (refusal_case s check.1) (unless s checks otherwise)).after
      by_test true rest = refl
      by_test false rest = rest

  same_release : (m : ℕ) (s : State) → Same s (release m s).after
  same_release m s = by_next (next_owner s m)
    where
      by_next : (o : Option Request) → Same s (grant o (record s { locks = without_lock m s.locks })).after
      by_next None = refl
      by_next (Some r) = same_block r.tid block.Not s.threads

  same_exited : (m : ℕ) (s : State) → Same s (after_exit m s).after
  same_exited m s = by_depth (nat_le (depth_in s.locks m) 1)
    where
      by_depth : (b : Bool) → Same s (cond b (release m s) (still (record s { locks = with_depth m (depth_in s.locks m - 1) s.locks }))).after
      by_depth true = same_release m s
      by_depth false = refl

  same_replied : (u : ℕ) (text : List ℕ) (s : State) → Same s (after_reply u text s).after
  same_replied u text s = by_agent (is_agent s u)
    where
      by_agent : (b : Bool)
          → Same s (cond b (still (record s { letters = without_letter u s.letters; agents = with_holding u false s.agents }))
          (unblock (answer.Reply text) u (record s { letters = without_letter u s.letters }))).after
      by_agent true = refl
      by_agent false = same_block u block.Not s.threads

  same_woken : (m : ℕ) (ws : List WaitRow) (s : State) → Same s (fold (λ now w. after_wake m w now) s ws)
  same_woken m [] s = refl
  same_woken m (w ∷ ws) s = same_woken m ws (after_wake m w s) ∙ same_block w.tid (block.Entering m) s.threads

  same_woken_all : (o : Option CondRow) (ws : List WaitRow) (s : State) → Same s (after_wake_all o ws s)
  same_woken_all None ws s = refl
  same_woken_all (Some row) ws s = same_woken row.mon ws s

  pub same_case : (s : State) (u : ℕ) (call : ExitCall) → Same s (exit_case s u call).after
  same_case s u (exit.MonExit m) = same_unless s _ _ (same_exited m s)
  same_case s u (exit.MonBreak m) = same_unless s _ _ (same_release m s)
  same_case s u (exit.Notify c) = same_unless s _ _ (same_woken_all (condition_of s.conditions c) _ s)
  same_case s u (exit.Broadcast c) = same_unless s _ _ (same_woken_all (condition_of s.conditions c) _ s)
  same_case s u (exit.Reply to text) = same_unless s _ _ (same_replied to text s)
  same_case s u (exit.Resume w) = same_unless s _ _ (same_suspension w false s.threads)
  same_case s u (exit.SetExit code) = same_unless s _ _ refl
  same_case s u (exit.Note text) = refl
