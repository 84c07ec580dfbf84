-- What each call of the machine may come to: at most one thread dies by it, and one is born by a Create alone.
use Rattle.lwp_types.specs.Agents.{end_agent, new_agent}
use Rattle.lwp_types.specs.Case.{Case, Check, answer_case, is_no_id, refusal_case, silent_case, unless, value_case, with_zero}
use Rattle.lwp_types.specs.CountLaws.{count-cons, count_found, one, length-failed}
use Rattle.lwp_types.specs.Death.{answer_joiners, bury, death, destroy, end_agents, refuse_receivers, refuse_senders}
use Rattle.lwp_types.specs.Death.{release_all, return_from, run_all_exits, withdraw}
use Rattle.lwp_types.specs.Exits.{catch_case, leave_frame, excnotify_case_by}
use Rattle.lwp_types.specs.Messages.{next_letter, post, receive_by}
use Rattle.lwp_types.specs.Monitors.{after_request, enter_case, is_owned_by_other}
use Rattle.lwp_types.specs.Exceptions.{caught_marks, first_frames, frames, handler_of, later_frames, with_match}
use Rattle.lwp_types.specs.MonitorRelease.{last_lock}
use Rattle.lwp_types.specs.State.{Outcome, State, ThreadRow, and_then, in_order, is_agent, is_number, is_thread, marks_in, numbers, passes, still, thread_of}
use Rattle.lwp_types.specs.Step.{case_of}
use Rattle.lwp_types.specs.Threads.{after_create, new_thread}
use Rattle.lwp_types.specs.Unblock.{after_block, after_block_for}
use Rattle.lwp_types.specs.declared.call.Answer.{Answer}
use Rattle.lwp_types.specs.declared.call.Call.{Call}
use Rattle.lwp_types.specs.declared.call.Effect.{Effect}
use Rattle.lwp_types.specs.declared.call.Flags.{Flags}
use Rattle.lwp_types.specs.declared.call.Func.{Func}
use Rattle.lwp_types.specs.declared.call.Mode.{Mode}
use Rattle.lwp_types.specs.declared.rows.AgentRow.{AgentRow}
use Rattle.lwp_types.specs.declared.rows.Found.{Found}
use Rattle.lwp_types.specs.declared.rows.Letter.{Letter}
use Rattle.lwp_types.specs.declared.call.Call.TheVariants as call
use Rattle.lwp_types.specs.declared.call.Effect.TheVariants as effect
use Rattle.lwp_types.specs.declared.call.Func.TheVariants as func
use Rattle.lwp_types.specs.declared.call.LwpErr.TheVariants as error
use Rattle.lwp_types.specs.declared.call.Mode.TheVariants as mode
use Rattle.lwp_types.specs.declared.rows.Block.TheVariants as block
use Rattle.pod_events.proofs.Mild.{AgentTest, Mild, NoAgentComes, NoSuchAgent, block_numbers, is_mild, is_such, mark_numbers, mild_agents, mild_end_agent}
use Rattle.pod_events.proofs.Mild.{mild_exited, mild_exits, mild_joiners, mild_post, mild_quiet, mild_receivers, mild_release, mild_releases, mild_replied}
use Rattle.pod_events.proofs.Mild.{mild_senders, mild_unwind, mild_waited, mild_waking, mild_withdraw, priority_numbers, suspension_numbers, unless_mild}
use Rattle.pod_events.specs.Fates.{births_by, victim}
use Rattle.pod_events.specs.Rites.{deaths}
use Rattle.pod_events.specs.Traps.{agent_event_of}
use Rattle.std.proofs.Common.{Bool, List, None, Option, Some, [], ap, arith, cond, count_by, eqb, false, filter, length}
use Rattle.std.proofs.Common.{length-append, not, refl, sym, true, ℕ, ◌++◌, ◌+◌, ◌-◌, ◌∙◌, ◌∷◌, ◌≡◌, ◌≤◌, ◌||◌}
use Rattle.std.proofs.lemmas.Bool.{and_from, and_parts, or_parts}
use Rattle.std.specs.List.{list_all, list_any}
use Rattle.std.proofs.Common.{inl, inr, ◌⊎◌}
use Rattle.std.specs.Prelude.{is_some, nat_le}

-- what is mild tells of no death
pub mild_deathless : (es : List Effect) → list_all is_mild es ≡ true → deaths es ≡ []
mild_deathless [] mild = refl
mild_deathless (e ∷ es) mild =
    by_effect e (and_parts (is_mild e) (list_all is_mild es) mild).0 (mild_deathless es (and_parts (is_mild e) (list_all is_mild es) mild).1)
  where
    by_effect : (e : Effect) → is_mild e ≡ true → deaths es ≡ [] → deaths (e ∷ es) ≡ []
    by_effect (effect.Called t c) h rest = rest
    by_effect (effect.Answered t a) h rest = rest
    by_effect (effect.Exited t reg c a) h rest = rest
    by_effect (effect.Died t) h rest = absurd (cc)
    by_effect (effect.Delivered a e) h rest = rest
    by_effect (effect.Ticked now) h rest = rest
    by_effect (effect.Ended status) h rest = rest
    by_effect (effect.Trapped t e) h rest = rest
    by_effect (effect.Rites a d) h rest = rest

pub deaths-append : (xs ys : List Effect) → deaths (xs ++ ys) ≡ deaths xs ++ deaths ys
deaths-append [] ys = refl
deaths-append (x ∷ xs) ys = by_effect x (deaths-append xs ys)
  where
    by_effect : (x : Effect) → deaths (xs ++ ys) ≡ deaths xs ++ deaths ys → deaths (x ∷ (xs ++ ys)) ≡ deaths (x ∷ xs) ++ deaths ys
    by_effect (effect.Called t c) rest = rest
    by_effect (effect.Answered t a) rest = rest
    by_effect (effect.Exited t reg c a) rest = rest
    by_effect (effect.Died t) rest = ap (λ ns. t ∷ ns) rest
    by_effect (effect.Delivered a e) rest = rest
    by_effect (effect.Ticked now) rest = rest
    by_effect (effect.Ended status) rest = rest
    by_effect (effect.Trapped t e) rest = rest
    by_effect (effect.Rites a d) rest = rest

pub length-numbers : (rows : List ThreadRow) → length (numbers rows) ≡ length rows
length-numbers [] = refl
length-numbers (row ∷ rows) = omega (arith, length-numbers rows)

pub count-numbers : (t : ℕ) (rows others : List ThreadRow) → numbers rows ≡ numbers others → count_by (is_number t) rows ≡ count_by (is_number t) others
count-numbers t rows others same = sym (counts rows) ∙ ap (λ ns. count_by (λ n. eqb n t) ns) same ∙ counts others
  where
    counts : (rows : List ThreadRow) → count_by (λ n. eqb n t) (numbers rows) ≡ count_by (is_number t) rows
    counts [] = refl
    counts (row ∷ rows) = omega (arith, counts rows, count-cons (λ n. eqb n t) row.number (numbers rows), count-cons (is_number t) row rows)

-- it tells of no call, trap or report, and not of the end
abbrev pub is_tame : Effect → Bool
is_tame (effect.Called t c) = false
is_tame (effect.Answered t a) = true
is_tame (effect.Exited t reg c a) = true
is_tame (effect.Died t) = true
is_tame (effect.Delivered a e) = true
is_tame (effect.Ticked now) = true
is_tame (effect.Ended status) = false
is_tame (effect.Trapped t e) = false
is_tame (effect.Rites a d) = false

pub mild_tame : (es : List Effect) → list_all is_mild es ≡ true → list_all is_tame es ≡ true
mild_tame [] mild = refl
mild_tame (e ∷ es) mild = by_effect e (and_parts (is_mild e) (list_all is_mild es) mild).0 (mild_tame es (and_parts (is_mild e) (list_all is_mild es) mild).1)
  where
    by_effect : (e : Effect) → is_mild e ≡ true → list_all is_tame es ≡ true → list_all is_tame (e ∷ es) ≡ true
    by_effect (effect.Called t c) h rest = absurd (cc)
    by_effect (effect.Answered t a) h rest = rest
    by_effect (effect.Exited t reg c a) h rest = rest
    by_effect (effect.Died t) h rest = rest
    by_effect (effect.Delivered a e) h rest = rest
    by_effect (effect.Ticked now) h rest = rest
    by_effect (effect.Ended status) h rest = absurd (cc)
    by_effect (effect.Trapped t e) h rest = absurd (cc)
    by_effect (effect.Rites a d) h rest = absurd (cc)

pub tame-append : (xs ys : List Effect) → list_all is_tame xs ≡ true → list_all is_tame ys ≡ true → list_all is_tame (xs ++ ys) ≡ true
tame-append [] ys one two = two
tame-append (x ∷ xs) ys one two =
    let parts = and_parts (is_tame x) (list_all is_tame xs) one in
    and_from _ _ parts.0 (tame-append xs ys parts.1 two)

-- no thread's number passes a test
abbrev pub NoSuchThread : (ℕ → Bool) → State → Type 0
NoSuchThread q s = list_any q (numbers s.threads) ≡ false

-- by a call of t nobody, or this thread, dies; if t lives, no more of the live are left than are paid for; no thread comes but the next
-- to be born, if one is; and no agent but one that t asked for
pub record Toll (s : State) (t : ℕ) (victim : Option ℕ) (births : ℕ) (asked : Option ℕ) (after : State) (es : List Effect) : Type 0 where
  pub dead : (deaths es ≡ []) ⊎ ((d : ℕ) × (victim ≡ Some d) × (deaths es ≡ d ∷ []))
  pub live : is_thread s t ≡ true → length after.threads + length (deaths es) ≤ length s.threads + births
  pub kept : length after.threads ≤ length s.threads + births
  pub unjoined : (p : AgentTest) → passes (λ e. p s.births e t) asked ≡ false → NoSuchAgent p s → NoSuchAgent p after
  pub unborn : (q : ℕ → Bool) → (births ≡ 0) ⊎ (q s.births ≡ false) → NoSuchThread q s → NoSuchThread q after
  pub tame : list_all is_tame es ≡ true

pub mild_toll : {s after : State} {es : List Effect} (t : ℕ) (victim : Option ℕ) (births : ℕ) → Mild s after es → Toll s t victim births None after es
mild_toll {s = s} {after = after} {es = es} t victim births mild = record {
  dead = inl (mild_deathless es mild.tells);
  live = λ lives. omega (arith, ap length (mild_deathless es mild.tells), length-numbers s.threads, length-numbers after.threads, ap length mild.lives);
  kept = omega (arith, length-numbers s.threads, length-numbers after.threads, ap length mild.lives);
  unjoined = λ p other. mild.unjoined p;
  unborn = λ q pays none. ap (list_any q) mild.lives ∙ none;
  tame = mild_tame es mild.tells;
}

-- deaths

-- t dies, and is buried
record Buried (s : State) (t : ℕ) (out : Outcome) : Type 0 where
  pub dead : deaths out.effects ≡ t ∷ []
  pub live : length out.after.threads + count_by (is_number t) s.threads ≡ length s.threads
  pub unjoined : NoAgentComes s out.after
  pub unborn : (q : ℕ → Bool) → NoSuchThread q s → NoSuchThread q out.after
  pub tame : list_all is_tame out.effects ≡ true

buried_first : (t : ℕ) (change : State → Outcome) (changes : List (State → Outcome)) (s : State)
    → Mild s (change s).after (change s).effects → Buried (change s).after t (in_order changes (change s).after) → Buried s t (in_order (change ∷ changes) s)
unfolding in_order and_then
buried_first t change changes s mild rest = record {
  dead = deaths-append (change s).effects (in_order changes (change s).after).effects
      ∙ ap (λ ns. ns ++ deaths (in_order changes (change s).after).effects) (mild_deathless (change s).effects mild.tells) ∙ rest.dead;
  live = omega (
    arith,
    rest.live,
    count-numbers t (change s).after.threads s.threads mild.lives,
    length-numbers s.threads,
    length-numbers (change s).after.threads,
    ap length mild.lives,
  );
  unjoined = λ p none. rest.unjoined p (mild.unjoined p none);
  unborn = λ q none. rest.unborn q (ap (list_any q) mild.lives ∙ none);
  tame = tame-append (change s).effects (in_order changes (change s).after).effects (mild_tame (change s).effects mild.tells) rest.tame;
}

gone_numbers : (q : ℕ → Bool) (t : ℕ) (rows : List ThreadRow) → list_any q (numbers rows) ≡ false
    → list_any q (numbers (filter (λ (row : ThreadRow). not (eqb row.number t)) rows)) ≡ false
gone_numbers q t [] none = refl
gone_numbers q t (row ∷ rows) none = by_test (eqb row.number t) (gone_numbers q t rows (or_parts (q row.number) (list_any q (numbers rows)) none).1)
  where
    by_test : (c : Bool) → list_any q (numbers (filter (λ (row : ThreadRow). not (eqb row.number t)) rows)) ≡ false
        → list_any q (numbers (cond (not c) (row ∷ filter (λ (row : ThreadRow). not (eqb row.number t)) rows)
        (filter (λ (row : ThreadRow). not (eqb row.number t)) rows)))
        ≡ false
    by_test true rest = rest
    by_test false rest = rw ((or_parts (q row.number) (list_any q (numbers rows)) none).0) rest

buried_last : (t : ℕ) (s : State) → Buried s t (in_order (bury t ∷ []) s)
unfolding in_order and_then
buried_last t s = record {
  dead = refl;
  live = length-failed (is_number t) s.threads;
  unjoined = λ p none. none;
  unborn = λ q none. gone_numbers q t s.threads none;
  tame = refl;
}

death_buries : (t : ℕ) (s : State) → Buried s t (death t s)
death_buries t s =
    buried_first t (withdraw t) _ _ (mild_withdraw t _)
    (buried_first t (run_all_exits t) _ _ (mild_exits t _)
    (buried_first t (release_all t) _ _ (mild_releases t _)
    (buried_first t (end_agents t) _ _ (mild_agents t _)
    (buried_first t (refuse_senders t) _ _ (mild_senders t _)
    (buried_first t (refuse_receivers t) _ _ (mild_receivers t _)
    (buried_first t (answer_joiners t) _ _ (mild_joiners t _)
    (buried_last t _)))))))

lives_once : (s : State) (t : ℕ) → is_thread s t ≡ true → 1 ≤ count_by (is_number t) s.threads
lives_once s t lives = by_row (thread_of s t) refl lives
  where
    by_row : (o : Option ThreadRow) → thread_of s t ≡ o → is_some o ≡ true → 1 ≤ count_by (is_number t) s.threads
    by_row None e h = absurd (cc)
    by_row (Some row) e h = count_found (is_number t) s.threads row e

death_toll : (s : State) (t u : ℕ) → (is_thread s t ≡ true → is_thread s u ≡ true) → Toll s t (Some u) 0 None (death u s).after (death u s).effects
death_toll s t u there =
    let buried = death_buries u s in
    record {
      dead = inr (u, refl, buried.dead);
      live = λ lives. omega (arith, buried.live, ap length buried.dead, lives_once s u (there lives));
      kept = omega (arith, buried.live);
      unjoined = λ p other. buried.unjoined p;
      unborn = λ q pays. buried.unborn q;
      tame = buried.tame;
    }

-- cases

abbrev Passes : List Check → Type 0
Passes [] = Unit {0}
Passes (check ∷ checks) = (check.0 ≡ false) × Passes checks

unless_toll : (t : ℕ) (victim : Option ℕ) (births : ℕ) (s : State) (checks : List Check) (otherwise : Case)
    → (Passes checks → Toll s t victim births None otherwise.after otherwise.others)
    → Toll s t victim births None (unless s checks otherwise).after (unless s checks otherwise).others
unfolding unless
unless_toll t victim births s [] otherwise fine = fine tt
unless_toll t victim births s (check ∷ checks) otherwise fine =
    by_test check.0 refl (λ here. unless_toll t victim births s checks otherwise (λ rest. fine (here, rest)))
  where
    by_test : (b : Bool) → check.0 ≡ b
        → (check.0 ≡ false → Toll s t victim births None (unless s checks otherwise).after (unless s checks otherwise).others)
        → Toll s t victim births None (cond b (refusal_case s check.1) (unless s checks otherwise)).after
        (cond b (refusal_case s check.1) (unless s checks otherwise)).others
    by_test true e rest = mild_toll t victim births (mild_quiet s s refl refl)
    by_test false e rest = rest e

destroy_toll : (s : State) (t u : ℕ) → Toll s t (Some u) 0 None (destroy s t u).after (destroy s t u).others
destroy_toll s t u = unless_toll t (Some u) 0 s (is_no_id s u ∷ []) _ (λ passed. by_agent (is_agent s u) (true_of passed.0))
  where
    true_of : {b : Bool} → not b ≡ false → b ≡ true
    true_of {b = true} e = refl
    true_of {b = false} e = absurd (cc)

    by_agent : (b : Bool) → (is_thread s u || b) ≡ true
        → Toll s t (Some u) 0 None (cond b (with_zero (end_agent u s)) (cond (eqb t u) (silent_case (death u s)) (with_zero (death u s)))).after (cond
        b (with_zero (end_agent u s)) (cond (eqb t u) (silent_case (death u s)) (with_zero (death u s)))).others
    by_agent true h = mild_toll t (Some u) 0 (mild_end_agent u s)
    by_agent false h = by_self (eqb t u) (death_toll s t u (λ lives. either (is_thread s u) h))
      where
        either : (a : Bool) → (a || false) ≡ true → a ≡ true
        either true e = refl
        either false e = e

        by_self : (b : Bool) → Toll s t (Some u) 0 None (death u s).after (death u s).effects
            → Toll s t (Some u) 0 None (cond b (silent_case (death u s)) (with_zero (death u s))).after
            (cond b (silent_case (death u s)) (with_zero (death u s))).others
        by_self true toll = toll
        by_self false toll = toll

return_toll : (s : State) (t : ℕ) → Toll s t (Some t) 0 None (return_from s t).after (return_from s t).others
return_toll s t = by_frames (nat_le 2 (frames (marks_in s t)))
  where
    by_frames : (b : Bool)
        → Toll s t (Some t) 0 None (cond b (leave_frame s t) (silent_case (death t s))).after (cond b (leave_frame s t) (silent_case (death t s))).others
    by_frames true = mild_toll t (Some t) 0
        (mild_unwind t (first_frames (frames (marks_in s t) - 1) (marks_in s t)) (later_frames (frames (marks_in s t) - 1) (marks_in s t)) s)
    by_frames false = death_toll s t t (λ lives. lives)

-- one thread more
added_number : (q : ℕ → Bool) (rows : List ThreadRow) (row : ThreadRow) → list_any q (numbers rows) ≡ false → q row.number ≡ false
    → list_any q (numbers (rows ++ row ∷ [])) ≡ false
added_number q [] row none other = rw other refl
added_number q (x ∷ rows) row none other =
    let parts = or_parts (q x.number) (list_any q (numbers rows)) none in
    rw (parts.0) (added_number q rows row parts.1 other)

create_toll : (s : State) (t number prio : ℕ) (flags : Flags) (checks : List Check) (own : Answer)
    → Toll s t None 1 None (unless s checks (answer_case (after_create s prio flags) own)).after
    (unless s checks (answer_case (after_create s prio flags) own)).others
create_toll s t number prio flags checks own = unless_toll t None 1 s checks _ (λ passed. record {
  dead = inl refl;
  live = λ lives. omega (arith, length-append s.threads (new_thread s.births prio flags ∷ []));
  kept = omega (arith, length-append s.threads (new_thread s.births prio flags ∷ []));
  unjoined = λ p other none. none;
  unborn = λ q pays none. added_number q s.threads (new_thread s.births prio flags) none (paid q pays);
  tame = refl;
})
  where
    paid : (q : ℕ → Bool) → (◌≡◌ {A = ℕ} 1 0) ⊎ (q s.births ≡ false) → q s.births ≡ false
    paid q (inl e) = absurd (cc)
    paid q (inr other) = other

cond_mild : (s : State) (b : Bool) (one two : Case) → Mild s one.after one.others → Mild s two.after two.others
    → Mild s (cond b one two).after (cond b one two).others
cond_mild s true one two first second = first
cond_mild s false one two first second = second

received_mild : (s : State) (t : ℕ) (from : Option ℕ) (how : Mode) (o : Option Letter)
    → Mild s (receive_by s t from how o).after (receive_by s t from how o).others
received_mild s t from mode.Poll None = mild_quiet s s refl refl
received_mild s t from mode.Poll (Some letter) = mild_quiet s _ refl refl
received_mild s t from mode.Block None = mild_quiet s _ (block_numbers t (block.Receiving from) s.threads) refl
received_mild s t from mode.Block (Some letter) = mild_quiet s _ refl refl
received_mild s t from (mode.Until ticks) None =
    cond_mild s (eqb ticks 0) (refusal_case s error.Timeout) (silent_case (still (after_block_for s t (block.Receiving from) ticks)))
    (mild_quiet s s refl refl) (mild_quiet s _ (block_numbers t (block.Receiving from) s.threads) refl)
received_mild s t from (mode.Until ticks) (Some letter) = mild_quiet s _ refl refl

match_mild : (s : State) (on_match : Found → Case) (o : Option Found) → ((f : Found) → Mild s (on_match f).after (on_match f).others)
    → Mild s (with_match s on_match o).after (with_match s on_match o).others
match_mild s on_match None mild = mild_quiet s s refl refl
match_mild s on_match (Some f) mild = mild f

caught_mild : (s : State) (t p : ℕ) (f : Found) → Mild s (catch_case s t p f).after (catch_case s t p f).others
caught_mild s t p f = mild_unwind t (caught_marks f (marks_in s t)) (later_frames f.depth (marks_in s t)) s

notified_mild : (s : State) (t p : ℕ) (f : Found) (h : Func) → Mild s (excnotify_case_by s t p f h).after (excnotify_case_by s t p f h).others
notified_mild s t p f func.Give = mild_quiet s s refl refl
notified_mild s t p f func.Sum = mild_quiet s s refl refl
notified_mild s t p f func.Nothing = caught_mild s t p f

send_mild : (s : State) (letter : Letter) (t : ℕ)
    → Mild s (silent_case (post letter (after_block s t block.Sending))).after (silent_case (post letter (after_block s t block.Sending))).others
send_mild s letter t =
    let posted = mild_post letter (after_block s t block.Sending) in
    record { tells = posted.tells; lives = posted.lives ∙ block_numbers t block.Sending s.threads; unjoined = posted.unjoined }

checked : {s : State} (t : ℕ) (checks : List Check) (otherwise : Case) → Mild s otherwise.after otherwise.others
    → Toll s t None 0 None (unless s checks otherwise).after (unless s checks otherwise).others
checked {s = s} t checks otherwise mild = mild_toll t None 0 (unless_mild s checks otherwise mild)

quiet : {s after : State} → numbers after.threads ≡ numbers s.threads → after.agents ≡ s.agents → Mild s after []
quiet {s = s} {after = after} same agents = mild_quiet s after same agents

-- one agent more
added_agent : (p : AgentTest) (rows : List AgentRow) (row : AgentRow) → list_any (is_such p) rows ≡ false → is_such p row ≡ false
    → list_any (is_such p) (rows ++ row ∷ []) ≡ false
added_agent p [] row none other = rw other refl
added_agent p (x ∷ rows) row none other =
    let parts = or_parts (is_such p x) (list_any (is_such p) rows) none in
    rw (parts.0) (added_agent p rows row parts.1 other)

-- an Agent changes no thread, and it alone brings an agent
agent_toll : (s : State) (t e : ℕ) (checks : List Check) (otherwise : Case) → numbers otherwise.after.threads ≡ numbers s.threads
    → list_all is_mild otherwise.others ≡ true → ((p : AgentTest) → p s.births e t ≡ false → NoSuchAgent p s → NoSuchAgent p otherwise.after)
    → Toll s t None 0 (Some e) (unless s checks otherwise).after (unless s checks otherwise).others
unfolding unless
agent_toll s t e [] otherwise same tells joins = record {
  dead = inl (mild_deathless otherwise.others tells);
  live = λ lives.
      omega (arith, ap length (mild_deathless otherwise.others tells), length-numbers s.threads, length-numbers otherwise.after.threads, ap length same);
  kept = omega (arith, length-numbers s.threads, length-numbers otherwise.after.threads, ap length same);
  unjoined = joins;
  unborn = λ q pays none. ap (list_any q) same ∙ none;
  tame = mild_tame otherwise.others tells;
}
agent_toll s t e (check ∷ checks) otherwise same tells joins = by_test check.0 (agent_toll s t e checks otherwise same tells joins)
  where
    by_test : (b : Bool) → Toll s t None 0 (Some e) (unless s checks otherwise).after (unless s checks otherwise).others
        → Toll s t None 0 (Some e) (cond b (refusal_case s check.1) (unless s checks otherwise)).after
        (cond b (refusal_case s check.1) (unless s checks otherwise)).others
    by_test true rest = let toll = mild_toll t None 0 (mild_quiet s s refl refl) in record {
      dead = toll.dead;
      live = toll.live;
      kept = toll.kept;
      unjoined = λ p other none. none;
      unborn = toll.unborn;
      tame = toll.tame;
    }
    by_test false rest = rest

-- of every call: the last line is for each that is refused by its checks or else leaves the threads' numbers and the agents as they are
pub case_toll : (s : State) (t : ℕ) (c : Call) → Toll s t (victim t c) (births_by c) (agent_event_of c) (case_of s t c).after (case_of s t c).others
case_toll s t (call.Create number prio flags) = create_toll s t number prio flags _ _
case_toll s t (call.Destroy u) = destroy_toll s t u
case_toll s t (call.SetPri u p) = checked t _ _ (quiet (priority_numbers u p s.threads) refl)
case_toll s t (call.Suspend u) = checked t _ _ (quiet (suspension_numbers u true s.threads) refl)
case_toll s t (call.Resume u) = checked t _ _ (quiet (suspension_numbers u false s.threads) refl)
case_toll s t (call.Join u) = checked t _ _ (quiet (block_numbers t (block.Joining u) s.threads) refl)
case_toll s t (call.Sleep ticks) = mild_toll t None 0 (cond_mild s (eqb ticks 0) (value_case s 0) (silent_case
    (still (after_block_for s t block.Sleeping ticks))) (mild_quiet s s refl refl) (mild_quiet s _ (block_numbers t block.Sleeping s.threads) refl))
case_toll s t call.Me = mild_toll t None 0 (mild_quiet s s refl refl)
case_toll s t call.GetExit = mild_toll t None 0 (mild_quiet s s refl refl)
case_toll s t call.Threads = mild_toll t None 0 (mild_quiet s s refl refl)
case_toll s t (call.Send u room text) = checked t _ _ (send_mild s (record { from = t; to = u; text = text; room = room; received = false }) t)
case_toll s t (call.Recv from how) = checked t _ _ (received_mild s t from how (next_letter s.letters t from))
case_toll s t (call.Reply u text) = checked t _ _ (mild_replied u text s)
case_toll s t call.Senders = mild_toll t None 0 (mild_quiet s s refl refl)
case_toll s t call.Receivers = mild_toll t None 0 (mild_quiet s s refl refl)
case_toll s t (call.Enter m) = checked t _ _ (cond_mild s (is_owned_by_other s.locks t m) (silent_case (still (after_request s t m)))
    (enter_case s t m) (mild_quiet s _ (block_numbers t (block.Entering m) s.threads) refl) (mild_quiet s _ refl refl))
case_toll s t (call.MonExit m) = checked t _ _ (mild_exited m s)
case_toll s t (call.MonBreak m) = checked t _ _ (mild_release m s)
case_toll s t call.Monitors = mild_toll t None 0 (mild_quiet s s refl refl)
case_toll s t (call.Wait c) = checked t _ _ (mild_waited t c (last_lock s.locks t) s)
case_toll s t (call.Notify c) = mild_toll t None 0 (mild_waking s t c [] _)
case_toll s t (call.Broadcast c) = mild_toll t None 0 (mild_waking s t c [] _)
case_toll s t (call.CvSend c u) = mild_toll t None 0 (mild_waking s t c _ _)
case_toll s t call.Conds = mild_toll t None 0 (mild_quiet s s refl refl)
case_toll s t (call.CallProc number) = checked t _ _ (quiet (mark_numbers t _ s.threads) refl)
case_toll s t call.Return = return_toll s t
case_toll s t (call.Handle pat func arg) = checked t _ _ (quiet (mark_numbers t _ s.threads) refl)
case_toll s t call.Unhandle = checked t _ _ (quiet (mark_numbers t _ s.threads) refl)
case_toll s t (call.OnExit x) = checked t _ _ (quiet (mark_numbers t _ s.threads) refl)
case_toll s t (call.Raise p) = checked t _ _ (match_mild s (catch_case s t p) (handler_of s t p) (caught_mild s t p))
case_toll s t (call.ExcNotify p) = checked t _ _ (match_mild s (λ f. excnotify_case_by s t p f f.func) (handler_of s t p) (λ f. notified_mild s t p f f.func))
case_toll s t (call.Bound p) = checked t _ _ (match_mild s _ (handler_of s t p) (λ f. mild_quiet s s refl refl))
case_toll s t (call.Agent e) = agent_toll s t e _ _ refl refl (λ p other none. added_agent p s.agents (new_agent s.births e t) none other)
case_toll s t call.Agents = mild_toll t None 0 (mild_quiet s s refl refl)
case_toll s t (call.Trap e) = mild_toll t None 0 (mild_quiet s s refl refl)
case_toll s t (call.Say text) = mild_toll t None 0 (mild_quiet s s refl refl)
case_toll s t _ = checked t _ _ (quiet refl refl)
