-- What every change of the machine does, but for the birth of a thread and the last step of a death: nobody comes or goes, and what it
-- tells is an answer, an exit procedure or a delivery.
use Rattle.lwp_types.specs.Agents.{after_agent_end, agents_of, deliver, deliver_to, end_agent, event_agents, message, without_agent}
use Rattle.lwp_types.specs.Case.{Case, Check, refusal_case, unless}
use Rattle.lwp_types.specs.Choice.{best_by}
use Rattle.lwp_types.specs.Death.{answer_joiners, end_agents, refuse_receivers, refuse_sender, refuse_senders, release_all, run_all_exits, withdraw}
use Rattle.lwp_types.specs.Exits.{exit_case, run_exit, unwind}
use Rattle.lwp_types.specs.Messages.{after_reply, as_answer, as_received, post, receivers_of, senders_to, takes_from, with_holding, without_letter}
use Rattle.lwp_types.specs.Monitors.{after_exit, depth_in, with_depth}
use Rattle.lwp_types.specs.Exceptions.{exits_of}
use Rattle.lwp_types.specs.MonitorRelease.{grant, next_owner, release, without_lock}
use Rattle.lwp_types.specs.State.{Outcome, State, ThreadRow, and_then, for_each, is_agent, is_agent_row, marks_in, numbers, passes, priority_in}
use Rattle.lwp_types.specs.State.{still, thread_of, with_block, with_marks, with_marks_of, with_priority, with_suspension}
use Rattle.lwp_types.specs.Time.{after_tick, due_threads, is_asleep_in, tick, time_out}
use Rattle.lwp_types.specs.Unblock.{after_block, nonexist, timeout_answer, unblock, zero_answer}
use Rattle.lwp_types.specs.Conditions.{after_wait, after_wake, after_wake_all, condition_of, waits_on, waking}
use Rattle.lwp_types.specs.declared.call.Answer.{Answer}
use Rattle.lwp_types.specs.declared.call.Effect.{Effect}
use Rattle.lwp_types.specs.declared.call.ExitCall.{ExitCall}
use Rattle.lwp_types.specs.declared.rows.AgentRow.{AgentRow}
use Rattle.lwp_types.specs.declared.rows.Block.{Block}
use Rattle.lwp_types.specs.declared.rows.CondRow.{CondRow}
use Rattle.lwp_types.specs.declared.rows.ExitMark.{ExitMark}
use Rattle.lwp_types.specs.declared.rows.Letter.{Letter}
use Rattle.lwp_types.specs.declared.rows.Lock.{Lock}
use Rattle.lwp_types.specs.declared.rows.Mark.{Mark}
use Rattle.lwp_types.specs.declared.rows.Request.{Request}
use Rattle.lwp_types.specs.declared.rows.WaitRow.{WaitRow}
use Rattle.lwp_types.specs.declared.call.Answer.TheVariants as answer
use Rattle.lwp_types.specs.declared.call.Effect.TheVariants as effect
use Rattle.lwp_types.specs.declared.call.ExitCall.TheVariants as exit
use Rattle.lwp_types.specs.declared.rows.Block.TheVariants as block
use Rattle.std.proofs.Common.{Bool, List, None, Option, Some, [], ap, cond, eqb, false, not, option_to_list, refl, true, ℕ, ◌++◌, ◌+◌, ◌-◌, ◌∙◌, ◌∷◌, ◌≡◌, ◌||◌}
use Rattle.std.proofs.lemmas.Bool.{and_from, and_parts, or_parts}
use Rattle.std.specs.List.{fold, list_all, list_any}
use Rattle.std.specs.Prelude.{nat_le}

-- it tells of an answer, of an exit procedure, of a delivery or of a tick
abbrev pub is_mild : Effect → Bool
is_mild (effect.Called t c) = false
is_mild (effect.Answered t a) = true
is_mild (effect.Exited t reg c a) = true
is_mild (effect.Died t) = false
is_mild (effect.Delivered a e) = true
is_mild (effect.Ticked now) = true
is_mild (effect.Ended status) = false
is_mild (effect.Trapped t e) = false
is_mild (effect.Rites a d) = false

-- a test of an agent's number, its event and its owner
abbrev pub AgentTest : Type 0
AgentTest = ℕ → ℕ → ℕ → Bool

-- the agent passes it
abbrev pub is_such : AgentTest → AgentRow → Bool
is_such p row = p row.number row.event row.owner

-- no agent does
abbrev pub NoSuchAgent : AgentTest → State → Type 0
NoSuchAgent p s = list_any (is_such p) s.agents ≡ false

-- no agent has come, and none has another event or another owner
abbrev pub NoAgentComes : State → State → Type 0
NoAgentComes s after = (p : AgentTest) → NoSuchAgent p s → NoSuchAgent p after

-- so it is where the agents are the same
pub comes_as : (s after : State) → after.agents ≡ s.agents → NoAgentComes s after
comes_as s after same p none = ap (list_any (is_such p)) same ∙ none

-- who lives still does, nobody else does, no agent comes, and all that is told is mild
pub record Mild (s after : State) (es : List Effect) : Type 0 where
  pub tells : list_all is_mild es ≡ true
  pub lives : numbers after.threads ≡ numbers s.threads
  pub unjoined : NoAgentComes s after

pub all-append : (xs ys : List Effect) → list_all is_mild xs ≡ true → list_all is_mild ys ≡ true → list_all is_mild (xs ++ ys) ≡ true
all-append [] ys one two = two
all-append (x ∷ xs) ys one two =
    let parts = and_parts (is_mild x) (list_all is_mild xs) one in
    and_from _ _ parts.0 (all-append xs ys parts.1 two)

-- nothing is told, and the same live
pub mild_quiet : (s after : State) → numbers after.threads ≡ numbers s.threads → after.agents ≡ s.agents → Mild s after []
mild_quiet s after same agents = record { tells = refl; lives = same; unjoined = comes_as s after agents }

pub mild_then : (s : State) (first : Outcome) (more : State → Outcome) → Mild s first.after first.effects
    → Mild first.after (more first.after).after (more first.after).effects → Mild s (and_then first more).after (and_then first more).effects
unfolding and_then
mild_then s first more one two = record {
  tells = all-append first.effects (more first.after).effects one.tells two.tells;
  lives = two.lives ∙ one.lives;
  unjoined = λ p none. two.unjoined p (one.unjoined p none);
}

pub mild_each : {A : Type 0} (change : A → State → Outcome) → ((x : A) (s : State) → Mild s (change x s).after (change x s).effects)
    → (xs : List A) (s : State) → Mild s (for_each change xs s).after (for_each change xs s).effects
unfolding for_each
mild_each change mild [] s = mild_quiet s s refl refl
mild_each change mild (x ∷ xs) s = mild_then s (change x s) (for_each change xs) (mild x s) (mild_each change mild xs (change x s).after)

-- rows that are changed keep their numbers
pub block_numbers : (t : ℕ) (b : Block) (rows : List ThreadRow) → numbers (with_block t b rows) ≡ numbers rows
block_numbers t b [] = refl
block_numbers t b (row ∷ rows) = ap (λ ns. row.number ∷ ns) (block_numbers t b rows)

pub suspension_numbers : (t : ℕ) (b : Bool) (rows : List ThreadRow) → numbers (with_suspension t b rows) ≡ numbers rows
suspension_numbers t b [] = refl
suspension_numbers t b (row ∷ rows) = ap (λ ns. row.number ∷ ns) (suspension_numbers t b rows)

pub priority_numbers : (t p : ℕ) (rows : List ThreadRow) → numbers (with_priority t p rows) ≡ numbers rows
priority_numbers t p [] = refl
priority_numbers t p (row ∷ rows) = ap (λ ns. row.number ∷ ns) (priority_numbers t p rows)

pub mark_numbers : (t : ℕ) (ms : List Mark) (rows : List ThreadRow) → numbers (with_marks t ms rows) ≡ numbers rows
mark_numbers t ms [] = refl
mark_numbers t ms (row ∷ rows) = ap (λ ns. row.number ∷ ns) (mark_numbers t ms rows)

-- agents that hold a message, or no longer do, are the same otherwise
holding_kept : (p : AgentTest) (a : ℕ) (b : Bool) (rows : List AgentRow) → list_any (is_such p) (with_holding a b rows) ≡ list_any (is_such p) rows
holding_kept p a b [] = refl
holding_kept p a b (row ∷ rows) = ap (λ later. is_such p row || later) (holding_kept p a b rows)

-- without one of them there is none more
gone_kept : (p : AgentTest) (a : ℕ) (rows : List AgentRow) → list_any (is_such p) rows ≡ false → list_any (is_such p) (without_agent a rows) ≡ false
gone_kept p a [] none = refl
gone_kept p a (row ∷ rows) none = by_test (is_agent_row a row) (gone_kept p a rows (or_parts (is_such p row) (list_any (is_such p) rows) none).1)
  where
    by_test : (c : Bool) → list_any (is_such p) (without_agent a rows) ≡ false
        → list_any (is_such p) (cond (not c) (row ∷ without_agent a rows) (without_agent a rows)) ≡ false
    by_test true rest = rest
    by_test false rest = rw ((or_parts (is_such p row) (list_any (is_such p) rows) none).0) rest

-- single changes

pub mild_unblock : (a : Answer) (t : ℕ) (s : State) → Mild s (unblock a t s).after (unblock a t s).effects
mild_unblock a t s = record { tells = refl; lives = block_numbers t block.Not s.threads; unjoined = λ p none. none }

mild_grant : (o : Option Request) (s : State) → Mild s (grant o s).after (grant o s).effects
mild_grant None s = mild_quiet s s refl refl
mild_grant (Some r) s = record { tells = refl; lives = block_numbers r.tid block.Not s.threads; unjoined = λ p none. none }

pub mild_release : (m : ℕ) (s : State) → Mild s (release m s).after (release m s).effects
mild_release m s =
    let granted = mild_grant (next_owner s m) (record s { locks = without_lock m s.locks }) in
    record { tells = granted.tells; lives = granted.lives; unjoined = granted.unjoined }

pub mild_exited : (m : ℕ) (s : State) → Mild s (after_exit m s).after (after_exit m s).effects
mild_exited m s = by_depth (nat_le (depth_in s.locks m) 1)
  where
    by_depth : (b : Bool)
        → Mild s (cond b (release m s) (still (record s { locks = with_depth m (depth_in s.locks m - 1) s.locks }))).after
        (cond b (release m s) (still (record s { locks = with_depth m (depth_in s.locks m - 1) s.locks }))).effects
    by_depth true = mild_release m s
    by_depth false = mild_quiet s _ refl refl

pub mild_post : (letter : Letter) (s : State) → Mild s (post letter s).after (post letter s).effects
mild_post letter s = by_test (passes (λ (row : ThreadRow). takes_from letter.from row.block) (thread_of s letter.to))
  where
    by_test : (b : Bool)
        → Mild s (cond b (unblock (as_answer letter) letter.to (record s { letters = s.letters ++ as_received letter ∷ [] }))
        (still (record s { letters = s.letters ++ letter ∷ [] }))).after
        (cond b (unblock (as_answer letter) letter.to (record s { letters = s.letters ++ as_received letter ∷ [] }))
        (still (record s { letters = s.letters ++ letter ∷ [] }))).effects
    by_test true = record { tells = refl; lives = block_numbers letter.to block.Not s.threads; unjoined = λ p none. none }
    by_test false = mild_quiet s _ refl refl

pub mild_replied : (u : ℕ) (text : List ℕ) (s : State) → Mild s (after_reply u text s).after (after_reply u text s).effects
mild_replied u text s = by_agent (is_agent s u)
  where
    by_agent : (b : Bool)
        → Mild s (cond b (still (record s { letters = without_letter u s.letters; agents = with_holding u false s.agents }))
        (unblock (answer.Reply text) u (record s { letters = without_letter u s.letters }))).after
        (cond b (still (record s { letters = without_letter u s.letters; agents = with_holding u false s.agents }))
        (unblock (answer.Reply text) u (record s { letters = without_letter u s.letters }))).effects
    by_agent true = record { tells = refl; lives = refl; unjoined = λ p none. holding_kept p u false s.agents ∙ none }
    by_agent false = record { tells = refl; lives = block_numbers u block.Not s.threads; unjoined = λ p none. none }

pub mild_waited : (t c : ℕ) (o : Option Lock) (s : State) → Mild s (after_wait t c o s).after (after_wait t c o s).effects
mild_waited t c None s = mild_quiet s s refl refl
mild_waited t c (Some lock) s =
    let freed = mild_release lock.mon
    (after_block (record s { waits = s.waits ++ record { cond = c; tid = t; depth = lock.depth } ∷ [] }) t (block.Waiting c)) in
    record { tells = freed.tells; lives = freed.lives ∙ block_numbers t (block.Waiting c) s.threads; unjoined = freed.unjoined }

pub mild_end_agent : (a : ℕ) (s : State) → Mild s (end_agent a s).after (end_agent a s).effects
mild_end_agent a s = mild_then s (for_each (unblock nonexist) (receivers_of s a) s) (λ now. still (after_agent_end a now))
    (mild_each (unblock nonexist) (mild_unblock nonexist) (receivers_of s a) s)
    (record { tells = refl; lives = refl; unjoined = λ p none. gone_kept p a _ none })

woken_numbers : (m : ℕ) (ws : List WaitRow) (s : State) → numbers (fold (λ now w. after_wake m w now) s ws).threads ≡ numbers s.threads
woken_numbers m [] s = refl
woken_numbers m (w ∷ ws) s = woken_numbers m ws (after_wake m w s) ∙ block_numbers w.tid (block.Entering m) s.threads

pub woken_all_numbers : (o : Option CondRow) (ws : List WaitRow) (s : State) → numbers (after_wake_all o ws s).threads ≡ numbers s.threads
woken_all_numbers None ws s = refl
woken_all_numbers (Some row) ws s = woken_numbers row.mon ws s

woken_agents : (m : ℕ) (ws : List WaitRow) (s : State) → (fold (λ now w. after_wake m w now) s ws).agents ≡ s.agents
woken_agents m [] s = refl
woken_agents m (w ∷ ws) s = woken_agents m ws (after_wake m w s)

pub woken_all_agents : (o : Option CondRow) (ws : List WaitRow) (s : State) → (after_wake_all o ws s).agents ≡ s.agents
woken_all_agents None ws s = refl
woken_all_agents (Some row) ws s = woken_agents row.mon ws s

-- a case, by its checks
pub unless_mild : (s : State) (checks : List Check) (otherwise : Case) → Mild s otherwise.after otherwise.others
    → Mild s (unless s checks otherwise).after (unless s checks otherwise).others
unfolding unless
unless_mild s [] otherwise fine = fine
unless_mild s (check ∷ checks) otherwise fine = by_test check.0 (unless_mild s checks otherwise fine)
  where
    by_test : (b : Bool) → Mild s (unless s checks otherwise).after (unless s checks otherwise).others
        → Mild s (cond b (refusal_case s check.1) (unless s checks otherwise)).after (cond b (refusal_case s check.1) (unless s checks otherwise)).others
    by_test true rest = mild_quiet s s refl refl
    by_test false rest = rest

pub mild_waking : (s : State) (t c : ℕ) (more : List Check) (ws : List WaitRow) → Mild s (waking s t c more ws).after (waking s t c more ws).others
mild_waking s t c more ws =
    unless_mild s _ _ (mild_quiet s _ (woken_all_numbers (condition_of s.conditions c) ws s) (woken_all_agents (condition_of s.conditions c) ws s))

-- exit procedures

mild_exit_case : (s : State) (t : ℕ) (call : ExitCall) → Mild s (exit_case s t call).after (exit_case s t call).others
mild_exit_case s t (exit.MonExit m) = unless_mild s _ _ (mild_exited m s)
mild_exit_case s t (exit.MonBreak m) = unless_mild s _ _ (mild_release m s)
mild_exit_case s t (exit.Notify c) = mild_waking s t c [] (option_to_list (best_by (λ w. priority_in s w.tid) (waits_on s.waits c)))
mild_exit_case s t (exit.Broadcast c) = mild_waking s t c [] (waits_on s.waits c)
mild_exit_case s t (exit.Reply to text) = unless_mild s _ _ (mild_replied to text s)
mild_exit_case s t (exit.Resume u) = unless_mild s _ _ (mild_quiet s _ (suspension_numbers u false s.threads) refl)
mild_exit_case s t (exit.SetExit code) = unless_mild s _ _ (mild_quiet s _ refl refl)
mild_exit_case s t (exit.Note text) = mild_quiet s s refl refl

mild_run : (t : ℕ) (x : ExitMark) (s : State) → Mild s (run_exit t x s).after (run_exit t x s).effects
mild_run t x s =
    let made = mild_exit_case s t x.call in
    record { tells = all-append (exit_case s t x.call).others _ made.tells refl; lives = made.lives; unjoined = made.unjoined }

pub mild_unwind : (t : ℕ) (kept gone : List Mark) (s : State) → Mild s (unwind t kept gone s).after (unwind t kept gone s).effects
mild_unwind t kept gone s =
    let run = mild_each (run_exit t) (mild_run t) (exits_of gone) (with_marks_of s t kept) in
    record { tells = run.tells; lives = run.lives ∙ mark_numbers t kept s.threads; unjoined = run.unjoined }

-- deliveries

mild_deliver_to : (text : List ℕ) (row : AgentRow) (s : State) → Mild s (deliver_to text row s).after (deliver_to text row s).effects
mild_deliver_to text row s = mild_then s
    (record { after = record s { agents = with_holding row.number true s.agents }; effects = effect.Delivered row.number row.event ∷ [] })
    (post (message text row))
    (record { tells = refl; lives = refl; unjoined = λ p none. holding_kept p row.number true s.agents ∙ none })
    (mild_post _ _)

mild_time_out : (t : ℕ) (s : State) → Mild s (time_out t s).after (time_out t s).effects
mild_time_out t s = mild_unblock (cond (is_asleep_in s t) zero_answer timeout_answer) t s

mild_tick : (s : State) → Mild s (tick s).after (tick s).effects
mild_tick s = mild_then s
    (record { after = after_tick s; effects = effect.Ticked (s.now + 1) ∷ [] })
    (λ now. for_each time_out (due_threads now) now)
    (record { tells = refl; lives = refl; unjoined = λ p none. none })
    (mild_each time_out mild_time_out (due_threads (after_tick s)) (after_tick s))

pub mild_deliver : (s : State) (e : ℕ) (text : List ℕ) → Mild s (deliver s e text).after (deliver s e text).effects
unfolding deliver
mild_deliver s e text = by_clock (eqb e 0)
  where
    by_clock : (b : Bool)
        → Mild s (cond b (tick s) (for_each (deliver_to text) (event_agents s.agents e) s)).after
        (cond b (tick s) (for_each (deliver_to text) (event_agents s.agents e) s)).effects
    by_clock true = mild_tick s
    by_clock false = mild_each (deliver_to text) (mild_deliver_to text) (event_agents s.agents e) s

-- the steps of a death, but for the last

pub mild_withdraw : (t : ℕ) (s : State) → Mild s (withdraw t s).after (withdraw t s).effects
mild_withdraw t s = mild_quiet s _ (suspension_numbers t false (with_block t block.Not s.threads) ∙ block_numbers t block.Not s.threads) refl

pub mild_exits : (t : ℕ) (s : State) → Mild s (run_all_exits t s).after (run_all_exits t s).effects
mild_exits t s = mild_unwind t [] (marks_in s t) s

pub mild_releases : (t : ℕ) (s : State) → Mild s (release_all t s).after (release_all t s).effects
mild_releases t s = mild_each release mild_release _ s

pub mild_agents : (t : ℕ) (s : State) → Mild s (end_agents t s).after (end_agents t s).effects
mild_agents t s = mild_each end_agent mild_end_agent (agents_of s.agents t) s

mild_refusal : (x : ℕ) (s : State) → Mild s (refuse_sender x s).after (refuse_sender x s).effects
mild_refusal x s = record { tells = refl; lives = block_numbers x block.Not s.threads; unjoined = λ p none. none }

pub mild_senders : (t : ℕ) (s : State) → Mild s (refuse_senders t s).after (refuse_senders t s).effects
mild_senders t s = mild_each refuse_sender mild_refusal (senders_to s.letters t) s

pub mild_receivers : (t : ℕ) (s : State) → Mild s (refuse_receivers t s).after (refuse_receivers t s).effects
mild_receivers t s = mild_each (unblock nonexist) (mild_unblock nonexist) _ s

pub mild_joiners : (t : ℕ) (s : State) → Mild s (answer_joiners t s).after (answer_joiners t s).effects
mild_joiners t s = mild_each (unblock zero_answer) (mild_unblock zero_answer) _ s
