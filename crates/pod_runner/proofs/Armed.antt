-- A delivery makes no event wait that didn't.
use Rattle.std.proofs.Common.{◌≡◌, ◌≤◌, ℕ, List, [], ◌∷◌, ◌++◌, Bool, true, false, ap, arith, cond, eqb, ◌∙◌, refl, sym}
use Rattle.std.proofs.lemmas.Bool.{and_from, and_parts, lt-ltb, ltb-true}
use Rattle.std.specs.Prelude.{is_none, nat_lt, not, ◌&&◌}
use Rattle.pod_events.specs.Events.{EventState, after_pass_on, after_take_trap, has_turn, is_takeable, is_trapped, may_trap, rites_event, take_event}
use Rattle.std.specs.List.{list_all}
use Rattle.lwp_types.specs.Agents.{deliver, deliver_to, event_agents, is_armed, is_event_armed, is_for, message}
use Rattle.lwp_types.specs.Messages.{as_answer, as_received, agent_with_holding, post, takes_from, with_holding}
use Rattle.lwp_types.specs.State.{Outcome, State, and_then, for_each, is_agent_row, is_empty, passes, still, thread_of}
use Rattle.lwp_types.specs.Time.{after_tick, due_threads, may_tick, tick, time_out}
use Rattle.lwp_types.specs.Unblock.{unblock}
use Rattle.lwp_types.specs.declared.rows.AgentRow.{AgentRow}
use Rattle.lwp_types.specs.declared.rows.Letter.{Letter}

-- where an agent holds a message more, each event has as many agents as before, and no more of them hold nothing
empty-same : (a e : ℕ) (rows : List AgentRow) → is_empty (event_agents (with_holding a true rows) e) ≡ is_empty (event_agents rows e)
empty-same a e [] = refl
empty-same a e (x ∷ rows) = by (is_for e x) (empty-same a e rows)
  where
    by : (c : Bool) → is_empty (event_agents (with_holding a true rows) e) ≡ is_empty (event_agents rows e)
        → is_empty (cond c (agent_with_holding a true x ∷ event_agents (with_holding a true rows) e) (event_agents (with_holding a true rows) e))
        ≡ is_empty (cond c (x ∷ event_agents rows e) (event_agents rows e))
    by true same = refl
    by false same = same

idle-fewer : (a e : ℕ) (rows : List AgentRow)
    → list_all (λ (row : AgentRow). not row.holding) (event_agents (with_holding a true rows) e) ≡ true
    → list_all (λ (row : AgentRow). not row.holding) (event_agents rows e) ≡ true
idle-fewer a e [] all = refl
idle-fewer a e (x ∷ rows) all = by (is_for e x) (idle-fewer a e rows) all
  where
    holds : (b held : Bool) → not (cond b true held) ≡ true → not held ≡ true
    holds true held h = absurd (cc)
    holds false held h = h

    by : (c : Bool)
        → (list_all (λ (row : AgentRow). not row.holding) (event_agents (with_holding a true rows) e) ≡ true
        → list_all (λ (row : AgentRow). not row.holding) (event_agents rows e) ≡ true)
        → list_all (λ (row : AgentRow). not row.holding)
        (cond c (agent_with_holding a true x ∷ event_agents (with_holding a true rows) e) (event_agents (with_holding a true rows) e))
        ≡ true
        → list_all (λ (row : AgentRow). not row.holding) (cond c (x ∷ event_agents rows e) (event_agents rows e)) ≡ true
    by true rest all =
        let parts = and_parts (not (agent_with_holding a true x).holding)
        (list_all (λ (row : AgentRow). not row.holding) (event_agents (with_holding a true rows) e)) all in
        and_from _ _ (holds (is_agent_row a x) x.holding parts.0) (rest parts.1)
    by false rest all = rest all

-- so no other event waits
holding-fewer : (a e : ℕ) (rows : List AgentRow) → is_armed (with_holding a true rows) e ≡ true → is_armed rows e ≡ true
holding-fewer a e rows h =
    let parts = and_parts (not (is_empty (event_agents (with_holding a true rows) e)))
    (list_all (λ (row : AgentRow). not row.holding) (event_agents (with_holding a true rows) e)) h in
    and_from _ _ (ap not (sym (empty-same a e rows)) ∙ parts.0) (idle-fewer a e rows parts.1)

-- no event waits that didn't: not for its agent, and not for the clock
record Fewer (s u : State) : Type 0 where
  events : (e : ℕ) → is_armed u.agents e ≡ true → is_armed s.agents e ≡ true
  ended : u.ended ≡ s.ended
  later : s.now ≤ u.now

fewer-then : (s u v : State) → Fewer s u → Fewer u v → Fewer s v
fewer-then s u v one two = record { events = λ e h. one.events e (two.events e h); ended = two.ended ∙ one.ended; later = omega (arith, one.later, two.later) }

fewer-each : {A : Type 0} (change : A → State → Outcome) → ((x : A) (s : State) → Fewer s (change x s).after) → (xs : List A) (s : State)
    → Fewer s (for_each change xs s).after
unfolding for_each and_then
fewer-each change fewer [] s = record { events = λ e h. h; ended = refl; later = omega arith }
fewer-each change fewer (x ∷ xs) s = fewer-then s (change x s).after _ (fewer x s) (fewer-each change fewer xs (change x s).after)

-- a letter leaves the agents alone
post-fewer : (letter : Letter) (s : State) → Fewer s (post letter s).after
post-fewer letter s = by_taken (passes (λ row. takes_from letter.from row.block) (thread_of s letter.to))
  where
    by_taken : (b : Bool) → Fewer s (cond {A = Outcome} b
        (unblock (as_answer letter) letter.to (record s { letters = s.letters ++ as_received letter ∷ [] }))
        (still (record s { letters = s.letters ++ letter ∷ [] }))).after
    by_taken true = record { events = λ e h. h; ended = refl; later = omega arith }
    by_taken false = record { events = λ e h. h; ended = refl; later = omega arith }

holds-fewer : (a : ℕ) (s : State) → Fewer s (record s { agents = with_holding a true s.agents })
holds-fewer a s = record { events = λ e. holding-fewer a e s.agents; ended = refl; later = omega arith }

deliver_to-fewer : (text : List ℕ) (row : AgentRow) (s : State) → Fewer s (deliver_to text row s).after
unfolding and_then
deliver_to-fewer text row s =
    fewer-then s (record s { agents = with_holding row.number true s.agents }) _ (holds-fewer row.number s) (post-fewer (message text row) _)

-- a thread that goes on leaves the agents alone, and so does the clock
tick-fewer : (s : State) → Fewer s (tick s).after
unfolding and_then
tick-fewer s = fewer-then s (after_tick s) _ (record { events = λ e h. h; ended = refl; later = omega arith })
    (fewer-each time_out (λ t now. record { events = λ e h. h; ended = refl; later = omega arith }) (due_threads (after_tick s)) (after_tick s))

fewer-armed : (s u : State) → Fewer s u → (e : ℕ) → is_event_armed u e ≡ true → is_event_armed s e ≡ true
fewer-armed s u fewer e h = by_clock (eqb e 0) h
  where
    goes : (a b c d : Bool) → a ≡ b → (c ≡ true → d ≡ true) → (not a && c) ≡ true → (not b && d) ≡ true
    goes true true c d same f h = absurd (cc)
    goes true false c d same f h = absurd (cc)
    goes false true c d same f h = absurd (cc)
    goes false false c d same f h = f h

    by_clock : (b : Bool) → (not u.ended && cond b (may_tick u) (is_armed u.agents e)) ≡ true
        → (not s.ended && cond b (may_tick s) (is_armed s.agents e)) ≡ true
    by_clock true h = goes u.ended s.ended (may_tick u) (may_tick s) fewer.ended
        (λ may. lt-ltb s.now 4294967295 (omega (arith, fewer.later, ltb-true u.now 4294967295 may))) h
    by_clock false h = goes u.ended s.ended (is_armed u.agents e) (is_armed s.agents e) fewer.ended (fewer.events e) h

pub deliver-fewer : (s : State) (x : ℕ) (text : List ℕ) (e : ℕ) → is_event_armed (deliver s x text).after e ≡ true → is_event_armed s e ≡ true
unfolding deliver
deliver-fewer s x text e h = by_clock (eqb x 0) h
  where
    by_clock : (b : Bool) → is_event_armed (cond b (tick s) (for_each (deliver_to text) (event_agents s.agents x) s)).after e ≡ true → is_event_armed s e ≡ true
    by_clock true h = fewer-armed s _ (tick-fewer s) e h
    by_clock false h = fewer-armed s _ (fewer-each (deliver_to text) (deliver_to-fewer text) (event_agents s.agents x) s) e h

-- of a pod with its own events: while somebody may run, a take makes no event takeable that wasn't
pub take-fewer : (es : EventState) (x : ℕ) (text : List ℕ) (e : ℕ) → has_turn es.state ≡ true
    → is_takeable (take_event es x text).after e ≡ true → is_takeable es e ≡ true
unfolding take_event
take-fewer es x text e runs h = by_taken (is_trapped es.trapped x) h
  where
    by_event : (c : Bool)
        → cond c (may_trap (after_pass_on es (deliver es.state x text)).after) (nat_lt e rites_event && is_event_armed (deliver es.state x text).after e) ≡ true
        → cond c (may_trap es) (nat_lt e rites_event && is_event_armed es.state e) ≡ true
    by_event true h = and_from _ _ (and_parts (is_none es.pending) (has_turn (deliver es.state x text).after) h).0 runs
    by_event false h = and_from _ _ (and_parts (nat_lt e rites_event) (is_event_armed (deliver es.state x text).after e) h).0
        (deliver-fewer es.state x text e (and_parts (nat_lt e rites_event) (is_event_armed (deliver es.state x text).after e) h).1)

    by_trap : (c : Bool) → cond c (may_trap (after_take_trap es x).after) (nat_lt e rites_event && is_event_armed es.state e) ≡ true
        → cond c (may_trap es) (nat_lt e rites_event && is_event_armed es.state e) ≡ true
    by_trap true h = absurd (cc)
    by_trap false h = h

    by_taken : (b : Bool) → is_takeable (cond b (after_take_trap es x) (after_pass_on es (deliver es.state x text))).after e ≡ true → is_takeable es e ≡ true
    by_taken true h = by_trap (is_trapped es.trapped e) h
    by_taken false h = by_event (is_trapped es.trapped e) h
