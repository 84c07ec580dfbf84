-- Who owns an agent: the thread that asked for it, as long as it is there.
use Rattle.answer_laws.proofs.Fadings.{event_fades, take_fades}
use Rattle.lwp_types.specs.Choice.{choice}
use Rattle.lwp_types.specs.Counts.{goes_well, is_owners}
use Rattle.lwp_types.specs.Lawful.{Lawful}
use Rattle.lwp_types.specs.Messages.{is_letter_of, is_to, received_letter}
use Rattle.lwp_types.specs.State.{State, ThreadRow, agent_numbers, all_below, is_agent, is_agent_row, is_id, is_number, is_thread, numbers}
use Rattle.lwp_types.specs.declared.call.Call.{Call}
use Rattle.lwp_types.specs.declared.rows.AgentRow.{AgentRow}
use Rattle.lwp_types.specs.declared.rows.Letter.{Letter}
use Rattle.pod_events.proofs.Carried.{call_unborn, call_unjoined, take_unborn, take_unjoined}
use Rattle.pod_events.proofs.Mild.{AgentTest, NoSuchAgent, is_such}
use Rattle.pod_events.proofs.MildCalls.{NoSuchThread}
use Rattle.pod_events.specs.Events.{EventState, take_event}
use Rattle.pod_events.specs.Fates.{births_by}
use Rattle.pod_events.specs.Step.{event_step}
use Rattle.pod_laws.proofs.Elements.{differ}
use Rattle.std.proofs.Common.{Bool, List, None, Some, [], ap, arith, cond, eqb, false, filter, inl}
use Rattle.std.proofs.Common.{inr, not, refl, sym, true, ℕ, ◌&&◌, ◌<◌, ◌∙◌, ◌∷◌, ◌≡◌, ◌≤◌, ◌||◌}
use Rattle.std.proofs.lemmas.Bool.{and_parts, eq-eqb, eqb-true, ltb-true, ne_eqb, or_parts}
use Rattle.std.specs.List.{find, list_all, list_any}
use Rattle.std.specs.Prelude.{is_none, is_some, nat_lt}

-- of agent a, another than s is the owner
abbrev pub is_of_another : ℕ → ℕ → AgentTest
is_of_another s a n event owner = eqb n a && not (eqb owner s)

-- a is no thread, and no agent of another than s; and the number was given
pub record IsOwned (s a : ℕ) (st : State) : Type 0 where
  pub no_thread : NoSuchThread (λ n. eqb n a) st
  pub no_other : NoSuchAgent (is_of_another s a) st
  pub born : a < st.births

-- ---- a number that wasn't given

not_below : (n births a : ℕ) → nat_lt n births ≡ true → births ≤ a → eqb n a ≡ false
not_below n births a below high = ne_eqb n a (λ same. omega (arith, ltb-true n births below, high, same))

no_number : (births a : ℕ) (rows : List ThreadRow) → all_below births (numbers rows) ≡ true → births ≤ a → list_any (λ n. eqb n a) (numbers rows) ≡ false
no_number births a [] below high = refl
no_number births a (row ∷ rows) below high =
    let parts = and_parts (nat_lt row.number births) (all_below births (numbers rows)) below in
    rw (not_below row.number births a parts.0 high) (no_number births a rows parts.1 high)

no_owner : (s births a : ℕ) (rows : List AgentRow) → all_below births (agent_numbers rows) ≡ true → births ≤ a
    → list_any (is_such (is_of_another s a)) rows ≡ false
no_owner s births a [] below high = refl
no_owner s births a (row ∷ rows) below high =
    let parts = and_parts (nat_lt row.number births) (all_below births (agent_numbers rows)) below in
    rw (not_below row.number births a parts.0 high) (no_owner s births a rows parts.1 high)

-- ---- a number that was

-- no thread of that number is there
absent_thread : (a : ℕ) (rows : List ThreadRow) → list_any (λ n. eqb n a) (numbers rows) ≡ false → is_some (find (is_number a) rows) ≡ false
absent_thread a [] none = refl
absent_thread a (row ∷ rows) none =
    let parts = or_parts (eqb row.number a) (list_any (λ n. eqb n a) (numbers rows)) none in
    rw (parts.0) (absent_thread a rows parts.1)

pub owned_thread : (s a : ℕ) (st : State) → IsOwned s a st → is_thread st a ≡ false
owned_thread s a st owned = absent_thread a st.threads owned.no_thread

-- an agent that is there has one owner
one_owner : (s t a : ℕ) (rows : List AgentRow) → is_some (find (is_agent_row a) rows) ≡ true
    → list_any (is_such (is_of_another s a)) rows ≡ false → list_any (is_such (is_of_another t a)) rows ≡ false → t ≡ s
one_owner s t a [] there one two = differ (sym there)
one_owner s t a (row ∷ rows) there one two =
    let first = or_parts (is_such (is_of_another s a) row) (list_any (is_such (is_of_another s a)) rows) one in
    let second = or_parts (is_such (is_of_another t a) row) (list_any (is_such (is_of_another t a)) rows) two in
    by_test (eqb row.number a) refl there first.0 second.0 (λ later. one_owner s t a rows later first.1 second.1)
  where
    own : (n : ℕ) → eqb row.number a ≡ true → (eqb row.number a && not (eqb row.owner n)) ≡ false → row.owner ≡ n
    own n same other = eqb-true row.owner n (by_owner (eqb row.number a) (eqb row.owner n) same other)
      where
        by_owner : (b d : Bool) → b ≡ true → (b && not d) ≡ false → d ≡ true
        by_owner true true same other = refl
        by_owner true false same other = absurd (cc)
        by_owner false d same other = absurd (cc)

    by_test : (b : Bool) → eqb row.number a ≡ b → is_some (cond b (Some row) (find (is_agent_row a) rows)) ≡ true
        → is_such (is_of_another s a) row ≡ false → is_such (is_of_another t a) row ≡ false
        → (is_some (find (is_agent_row a) rows) ≡ true → t ≡ s) → t ≡ s
    by_test true same here first second later = sym (own t same second) ∙ own s same first
    by_test false other there first second later = later there

-- who is there under an agent's number is the agent, and has its owner
pub same_owner : (s t a : ℕ) (st : State) → is_id st a ≡ true → is_thread st a ≡ false → NoSuchAgent (is_of_another s a) st
    → NoSuchAgent (is_of_another t a) st → t ≡ s
same_owner s t a st there off one two = one_owner s t a st.agents (by_kind (is_thread st a) off there) one two
  where
    by_kind : (b : Bool) → b ≡ false → (b || is_agent st a) ≡ true → is_agent st a ≡ true
    by_kind true off there = absurd (cc)
    by_kind false off there = there

-- ---- a letter that was received

-- the letter is of v and for t: so if v is an agent, t is its owner
letters_owner : (t v : ℕ) (letter : Letter) (rows : List AgentRow) → eqb letter.to t ≡ true → eqb letter.from v ≡ true
    → list_all (is_owners letter) rows ≡ true → list_any (is_such (is_of_another t v)) rows ≡ false
letters_owner t v letter [] to from well = refl
letters_owner t v letter (row ∷ rows) to from well =
    let parts = and_parts (is_owners letter row) (list_all (is_owners letter) rows) well in
    rw (by_tests (eqb row.number v) (eqb row.owner t) (numbered ∙ parts.0)) (letters_owner t v letter rows to from parts.1)
  where
    numbered : (not (eqb row.number v) || eqb row.owner t) ≡ is_owners letter row
    numbered =
        ap (λ n. not (eqb row.number n) || eqb row.owner t) (sym (eqb-true letter.from v from))
        ∙ ap (λ n. not (eqb row.number letter.from) || eqb row.owner n) (sym (eqb-true letter.to t to))

    by_tests : (b d : Bool) → (not b || d) ≡ true → (b && not d) ≡ false
    by_tests true true h = refl
    by_tests true false h = absurd (cc)
    by_tests false d h = refl

mail_owner : (t v : ℕ) (st : State) (letters : List Letter) → list_all (goes_well st) letters ≡ true
    → is_none (find (λ (letter : Letter). letter.received && is_letter_of v letter) (filter (is_to t) letters)) ≡ false → NoSuchAgent (is_of_another t v) st
mail_owner t v st [] well found = absurd (cc)
mail_owner t v st (letter ∷ letters) well found =
    by_to (is_to t letter) refl (λ rest. mail_owner t v st letters (and_parts (goes_well st letter) (list_all (goes_well st) letters) well).1 rest) found
  where
    owners : list_all (is_owners letter) st.agents ≡ true
    owners = (and_parts (not (eqb letter.from letter.to)) (list_all (is_owners letter) st.agents)
        (and_parts (is_thread st letter.to) (not (eqb letter.from letter.to) && list_all (is_owners letter) st.agents)
        (and_parts (goes_well st letter) (list_all (goes_well st) letters) well).0).1).1

    by_test : is_to t letter ≡ true → (b : Bool) → (letter.received && is_letter_of v letter) ≡ b
        → (is_none (find (λ (letter : Letter). letter.received && is_letter_of v letter) (filter (is_to t) letters)) ≡ false
        → NoSuchAgent (is_of_another t v) st)
        → is_none (cond b (Some letter) (find (λ (letter : Letter). letter.received && is_letter_of v letter) (filter (is_to t) letters))) ≡ false
        → NoSuchAgent (is_of_another t v) st
    by_test to true is later here = letters_owner t v letter st.agents to (and_parts letter.received (is_letter_of v letter) is).1 owners
    by_test to false is later rest = later rest

    by_to : (b : Bool) → is_to t letter ≡ b
        → (is_none (find (λ (letter : Letter). letter.received && is_letter_of v letter) (filter (is_to t) letters)) ≡ false
        → NoSuchAgent (is_of_another t v) st)
        → is_none (find (λ (letter : Letter). letter.received && is_letter_of v letter) (cond b (letter ∷ filter (is_to t) letters) (filter (is_to t) letters)))
        ≡ false
        → NoSuchAgent (is_of_another t v) st
    by_to true to later here = by_test to (letter.received && is_letter_of v letter) refl later here
    by_to false away later rest = later rest

-- who has received an agent's letter owns the agent
pub receivers_own : (st : State) → Lawful st None → (t v : ℕ) → is_none (received_letter st.letters t v) ≡ false → NoSuchAgent (is_of_another t v) st
receivers_own st was t v found = mail_owner t v st st.letters was.nine.letters found

-- ---- from the birth on

-- by a call of s that bears no thread, the next number is owned by s, if it is given
pub owned_at_birth : (s t a : ℕ) (es : EventState) → Lawful es.state None → (c : Call) → choice es.state ≡ Some t → births_by c ≡ 0 → t ≡ s
    → es.state.births ≤ a → a < (event_step es c).after.state.births → IsOwned s a (event_step es c).after.state
owned_at_birth s t a es was c turn none caller high given = record {
  no_thread = call_unborn (λ n. eqb n a) es c (inl none) (no_number es.state.births a es.state.threads was.nine.numbers.1.0 high);
  no_other = call_unjoined (is_of_another s a) es c (λ u e chosen asks free. own u chosen)
      (no_owner s es.state.births a es.state.agents was.nine.numbers.1.1 high);
  born = given;
}
  where
    own : (u : ℕ) → choice es.state ≡ Some u → (eqb es.state.births a && not (eqb u s)) ≡ false
    own u chosen = by_test (eqb es.state.births a) (eqb u s) (let same : u ≡ s = cc in eq-eqb u s same)
      where
        by_test : (b d : Bool) → d ≡ true → (b && not d) ≡ false
        by_test true true h = refl
        by_test false true h = refl
        by_test true false h = absurd (cc)
        by_test false false h = refl

-- and stays so
pub owned_by_call : (s a : ℕ) (es : EventState) (c : Call) → IsOwned s a es.state → IsOwned s a (event_step es c).after.state
owned_by_call s a es c owned = record {
  no_thread = call_unborn (λ n. eqb n a) es c (inr given) owned.no_thread;
  no_other = call_unjoined (is_of_another s a) es c (λ u e chosen asks free. rw given refl) owned.no_other;
  born = omega (arith, owned.born, (event_fades a es c).births);
}
  where
    given : eqb es.state.births a ≡ false
    given = ne_eqb es.state.births a (λ same. omega (arith, same, owned.born))

pub owned_by_take : (s a : ℕ) (es : EventState) (e : ℕ) (text : List ℕ) → IsOwned s a es.state → IsOwned s a (take_event es e text).after.state
owned_by_take s a es e text owned = record {
  no_thread = take_unborn (λ n. eqb n a) es e text owned.no_thread;
  no_other = take_unjoined (is_of_another s a) es e text owned.no_other;
  born = omega (arith, owned.born, (take_fades a es e text).births);
}
