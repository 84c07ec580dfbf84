-- A call that names who isn't there is refused; and a delivery runs no exit procedure, and tells of no death.
use Rattle.lwp_types.specs.Agents.{deliver, deliver_to, event_agents, message}
use Rattle.lwp_types.specs.Case.{Case, Check, refusal_case, unless}
use Rattle.lwp_types.specs.CountLaws.{count-append}
use Rattle.lwp_types.specs.Messages.{as_answer, as_received, post, takes_from, with_holding}
use Rattle.lwp_types.specs.State.{Outcome, State, ThreadRow, and_then, for_each, is_agent, is_id, is_thread, passes, still, thread_of}
use Rattle.lwp_types.specs.Step.{case_of}
use Rattle.lwp_types.specs.Unblock.{unblock}
use Rattle.lwp_types.specs.declared.call.Call.{Call}
use Rattle.lwp_types.specs.declared.call.LwpErr.{LwpErr}
use Rattle.lwp_types.specs.declared.rows.AgentRow.{AgentRow}
use Rattle.lwp_types.specs.declared.rows.Letter.{Letter}
use Rattle.lwp_types.specs.declared.call.Call.TheVariants as call
use Rattle.lwp_types.specs.declared.call.Effect.TheVariants as effect
use Rattle.lwp_types.specs.declared.call.LwpErr.TheVariants as error
use Rattle.lwp_types.specs.declared.rows.Block.TheVariants as block
use Rattle.pod_laws.proofs.Elements.{not_of}
use Rattle.pod_laws.proofs.OnceMoves.{block_kept}
use Rattle.lwp_types.specs.Exits.{exit_case}
use Rattle.lwp_types.specs.Time.{after_tick, due_threads, tick, time_out}
use Rattle.lwp_types.specs.declared.call.Answer.{Answer}
use Rattle.lwp_types.specs.declared.call.ExitCall.{ExitCall}
use Rattle.lwp_types.specs.declared.call.ExitCall.TheVariants as exit
use Rattle.pod_laws.specs.Forgotten.{CondSendRefusesTheAbsent, DeliveriesAreQuiet, ExitsRefuseTheAbsent, IsQuiet, TheAbsentAreRefused, asks_for}
use Rattle.pod_laws.specs.Forgotten.{exit_asks_for, is_died}
use Rattle.pod_laws.specs.Once.{is_exit_passing}
use Rattle.std.proofs.Common.{Bool, List, Some, [], ap, arith, cond, eqb, false, not, refl, true, ℕ, ◌++◌, ◌+◌, ◌∙◌, ◌∷◌, ◌≡◌}
use Rattle.std.proofs.lemmas.Bool.{eqb-true, or_parts}

-- the first check strikes
first_strikes : (s : State) (b : Bool) (e : LwpErr) (checks : List Check) (otherwise : Case) → b ≡ true
    → unless s ((b, e) ∷ checks) otherwise ≡ refusal_case s e
unfolding unless
first_strikes s true e checks otherwise strikes = refl
first_strikes s false e checks otherwise strikes = absurd (cc)

module _ (s : State) (t n : ℕ) (absent : is_id s n ≡ false) where
  no_thread : (u : ℕ) → eqb u n ≡ true → not (is_thread s u) ≡ true
  no_thread u same = not_of _ (ap (is_thread s) (eqb-true u n same) ∙ (or_parts (is_thread s n) (is_agent s n) absent).0)

  no_id : (u : ℕ) → eqb u n ≡ true → not (is_id s u) ≡ true
  no_id u same = not_of _ (ap (is_id s) (eqb-true u n same) ∙ absent)

  -- of every call that asks for it: the last line is for those that ask for nobody
  absent_refused : (c : Call) → asks_for n c ≡ true → case_of s t c ≡ refusal_case s error.NonExist
  absent_refused (call.Destroy u) asks = first_strikes s _ _ _ _ (no_id u asks)
  absent_refused (call.Ping u) asks = first_strikes s _ _ _ _ (no_id u asks)
  absent_refused (call.Yield u) asks = first_strikes s _ _ _ _ (no_thread u asks)
  absent_refused (call.SetPri u q) asks = first_strikes s _ _ _ _ (no_thread u asks)
  absent_refused (call.Suspend u) asks = first_strikes s _ _ _ _ (no_thread u asks)
  absent_refused (call.Resume u) asks = first_strikes s _ _ _ _ (no_thread u asks)
  absent_refused (call.Join u) asks = first_strikes s _ _ _ _ (no_thread u asks)
  absent_refused (call.Send u room text) asks = first_strikes s _ _ _ _ (no_thread u asks)
  absent_refused (call.Recv (Some u) how) asks = first_strikes s _ _ _ _ (no_id u asks)
  absent_refused (call.Reply u text) asks = first_strikes s _ _ _ _ (no_id u asks)
  absent_refused _ asks = absurd (cc)

  -- of every exit procedure that asks for it
  exit_absent_refused : (x : ExitCall) → exit_asks_for n x ≡ true → exit_case s t x ≡ refusal_case s error.NonExist
  exit_absent_refused (exit.MonExit m) asks = absurd (cc)
  exit_absent_refused (exit.MonBreak m) asks = absurd (cc)
  exit_absent_refused (exit.Notify c) asks = absurd (cc)
  exit_absent_refused (exit.Broadcast c) asks = absurd (cc)
  exit_absent_refused (exit.Reply u text) asks = first_strikes s _ _ _ _ (no_id u asks)
  exit_absent_refused (exit.Resume u) asks = first_strikes s _ _ _ _ (no_thread u asks)
  exit_absent_refused (exit.SetExit code) asks = absurd (cc)
  exit_absent_refused (exit.Note text) asks = absurd (cc)

-- the third check strikes, where the first two don't
third_strikes : (s : State) (a b c : Bool) (e f g : LwpErr) (checks : List Check) (otherwise : Case) → a ≡ false → b ≡ false → c ≡ true
    → unless s ((a, e) ∷ (b, f) ∷ (c, g) ∷ checks) otherwise ≡ refusal_case s g
unfolding unless
third_strikes s false false true e f g checks otherwise first second third = refl
third_strikes s false false false e f g checks otherwise first second third = absurd (cc)
third_strikes s false true c e f g checks otherwise first second third = absurd (cc)
third_strikes s true b c e f g checks otherwise first second third = absurd (cc)

pub exits_refuse_the_absent : ExitsRefuseTheAbsent
exits_refuse_the_absent s t n absent x asks = exit_absent_refused s t n absent x asks

pub cond_send_refuses_the_absent : CondSendRefusesTheAbsent
cond_send_refuses_the_absent s t n c absent live last =
    third_strikes s _ _ _ _ _ _ _ _ live last (not_of _ (or_parts (is_thread s n) (is_agent s n) absent).0)

pub the_absent_are_refused : TheAbsentAreRefused
the_absent_are_refused s t n absent c asks = absent_refused s t n absent c asks

-- Deliveries.

quiet_then : (s : State) (first : Outcome) (more : State → Outcome) → IsQuiet s first → IsQuiet first.after (more first.after) → IsQuiet s (and_then first more)
unfolding and_then
quiet_then s first more one two = record {
  marks = λ p. two.marks p ∙ one.marks p;
  exits = λ p. omega (arith, one.exits p, two.exits p, count-append (is_exit_passing p) first.effects (more first.after).effects);
  deaths = λ n. omega (arith, one.deaths n, two.deaths n, count-append (is_died n) first.effects (more first.after).effects);
}

quiet_each : {A : Type 0} (change : A → State → Outcome) → ((x : A) (s : State) → IsQuiet s (change x s)) → (xs : List A) (s : State)
    → IsQuiet s (for_each change xs s)
unfolding for_each
quiet_each change quiet [] s = record { marks = λ p. refl; exits = λ p. refl; deaths = λ n. refl }
quiet_each change quiet (x ∷ xs) s = quiet_then s (change x s) (for_each change xs) (quiet x s) (quiet_each change quiet xs (change x s).after)

-- who goes on runs no exit procedure
unblock_quiet : (a : Answer) (t : ℕ) (s : State) → IsQuiet s (unblock a t s)
unblock_quiet a t s = record { marks = λ p. block_kept p t block.Not s.threads; exits = λ p. refl; deaths = λ n. refl }

-- nor does a letter that is posted
post_quiet : (l : Letter) (s : State) → IsQuiet s (post l s)
post_quiet l s = by_test (passes (λ (row : ThreadRow). takes_from l.from row.block) (thread_of s l.to))
  where
    by_test : (b : Bool)
        → IsQuiet s (cond b (unblock (as_answer l) l.to (record s { letters = s.letters ++ as_received l ∷ [] }))
        (still (record s { letters = s.letters ++ l ∷ [] })))
    by_test true = record { marks = λ p. block_kept p l.to block.Not s.threads; exits = λ p. refl; deaths = λ n. refl }
    by_test false = record { marks = λ p. refl; exits = λ p. refl; deaths = λ n. refl }

delivered_quiet : (text : List ℕ) (row : AgentRow) (s : State) → IsQuiet s (deliver_to text row s)
delivered_quiet text row s =
    quiet_then s (record { after = record s { agents = with_holding row.number true s.agents }; effects = effect.Delivered row.number row.event ∷ [] })
    (post (message text row))
    (record { marks = λ p. refl; exits = λ p. refl; deaths = λ n. refl })
    (post_quiet (message text row) (record s { agents = with_holding row.number true s.agents }))

tick_quiet : (s : State) → IsQuiet s (tick s)
tick_quiet s = quiet_then s (record { after = after_tick s; effects = effect.Ticked (s.now + 1) ∷ [] }) (λ now. for_each time_out (due_threads now) now)
    (record { marks = λ p. refl; exits = λ p. refl; deaths = λ n. refl })
    (quiet_each time_out (λ t now. unblock_quiet _ t now) (due_threads (after_tick s)) (after_tick s))

pub deliveries_are_quiet : DeliveriesAreQuiet
unfolding deliver
deliveries_are_quiet s e text = by_clock (eqb e 0)
  where
    by_clock : (b : Bool) → IsQuiet s (cond b (tick s) (for_each (deliver_to text) (event_agents s.agents e) s))
    by_clock true = tick_quiet s
    by_clock false = quiet_each (deliver_to text) (delivered_quiet text) (event_agents s.agents e) s
