-- A delivery to an event's agents: one after the other, each that waits has the message.
use Rattle.agents.proofs.Standing.{numbers-holding}
use Rattle.agents.specs.Roster as roster
use Rattle.death_cleanup.proofs.Draining.{Draining, done, fewer, first_room, goes_on, starts}
use Rattle.death_cleanup.proofs.Keeping.{InStep-agents}
use Rattle.death_cleanup.specs.Comes.{CameTo}
use Rattle.death_cleanup.specs.Ties.{InStep, LawfulParts}
use Rattle.death_cleanup.specs.View.{state_of}
use Rattle.death_cleanup.specs.declared.parts.Parts.{Parts}
use Rattle.lwp_calls.specs.Deliveries.{deliver_to_found, waits_for}
use Rattle.lwp_types.specs.Agents.{deliver_to, event_agents, is_armed, is_for, message}
use Rattle.lwp_types.specs.Lawful.{NineParts}
use Rattle.lwp_types.specs.Messages.{post, with_holding}
use Rattle.lwp_types.specs.State.{Outcome, State, agent_numbers, agent_of, and_then, for_each, is_agent_row, passes}
use Rattle.lwp_types.specs.declared.call.Effect.{Effect}
use Rattle.lwp_types.specs.declared.call.Effect.TheVariants as effect
use Rattle.lwp_types.specs.declared.rows.AgentRow.{AgentRow}
use Rattle.lwp_types.specs.declared.rows.Letter.{Letter}
use Rattle.pod_laws.proofs.Delivery.{armed_idle, deliver_first, few_told, first_found, found_own, idle_agents, is_idle_for, post_agents}
use Rattle.pod_laws.proofs.Elements.{find_passes}
use Rattle.pod_laws.proofs.Numbers.{keys_once}
use Rattle.std.proofs.Common.{Bool, List, None, Option, Some, [], add-one, ap, arith, cond, count_by, drop, false, length, length-append}
use Rattle.std.proofs.Common.{not, refl, slice_get, subst, suc, sym, true, zero, ℕ, ◌&&◌, ◌++◌, ◌+◌, ◌<◌, ◌∙◌, ◌∷◌, ◌≡◌, ◌≤◌}
use Rattle.std.proofs.lemmas.Bool.{and_parts, eqb-true}
use Rattle.std.proofs.lemmas.List.{append_assoc, length-map}
use Rattle.std.proofs.lemmas.List.Sums.{count_by-le-length, length-filter}
use Rattle.std.specs.Prelude.{option_map}

-- ---- one agent

-- who is found and waits for the event
pub record Waits (rows : List AgentRow) (e a : ℕ) : Type 0 where
  pub row : AgentRow
  pub known : agent_of rows a ≡ Some row
  pub number : row.number ≡ a
  pub event : row.event ≡ e
  pub free : row.holding ≡ false

pub waiting : (rows : List AgentRow) (e a : ℕ) → waits_for e rows a ≡ true → Waits rows e a
waiting rows e a waits = by_found (agent_of rows a) refl waits
  where
    free_of : (b : Bool) → not b ≡ true → b ≡ false
    free_of true h = absurd (cc)
    free_of false h = refl

    by_found : (o : Option AgentRow) → agent_of rows a ≡ o → passes (λ row. is_for e row && not row.holding) o ≡ true → Waits rows e a
    by_found None found h = absurd (cc)
    by_found (Some row) found h =
        let parts = and_parts (is_for e row) (not row.holding) h in
        record {
          row = row;
          known = found;
          number = eqb-true row.number a (find_passes (is_agent_row a) rows row found);
          event = eqb-true row.event e parts.0;
          free = free_of row.holding parts.1;
        }

module _ (parts : Parts) (e a : ℕ) (text : List ℕ) (waits : waits_for e parts.agents.agents a ≡ true) where
  pub who : Waits parts.agents.agents e a
  who = waiting parts.agents.agents e a waits

  pub idle : roster.is_idle parts.agents.agents a ≡ true
  idle = ap (passes (λ (row : AgentRow). not row.holding)) who.known ∙ ap not who.free

  -- the agent under its own number
  pub own : agent_of parts.agents.agents who.row.number ≡ Some who.row
  own = ap (agent_of parts.agents.agents) who.number ∙ who.known

  -- its owner was looked up
  pub owned : (o : ℕ) (r : Option ℕ) → r ≡ option_map (λ (row : AgentRow). row.owner) (agent_of parts.agents.agents a) → r ≡ Some o → who.row.owner ≡ o
  owned o r is found =
      let same : Some who.row.owner ≡ Some o = sym (ap (option_map (λ (row : AgentRow). row.owner)) who.known) ∙ sym is ∙ found in
      cc

  pub unowned : {P : Type 0} (r : Option ℕ) → r ≡ option_map (λ (row : AgentRow). row.owner) (agent_of parts.agents.agents a) → r ≡ None → P
  unowned r is missing = absurd (let same : Some who.row.owner ≡ None = sym (ap (option_map (λ (row : AgentRow). row.owner)) who.known) ∙ sym is ∙ missing in
      cc)

  abbrev holding : Parts
  holding = record parts { agents = roster.after_hold parts.agents a }

  pub holding_step : InStep parts → InStep holding
  holding_step step = InStep-agents parts step (roster.after_hold parts.agents a)
      (omega (arith, length-map parts.agents.agents (λ (row : AgentRow). record row { holding = cond (is_agent_row a row) true row.holding })))

  -- the letter is posted where the agent holds the message
  pub came_found : (new : Parts) (before told after : List Effect) (o : ℕ) → who.row.owner ≡ o → told ≡ before ++ effect.Delivered a e ∷ []
      → CameTo holding new told after (post (record { from = a; to = o; text = text; room = 240; received = false }) (state_of holding))
      → CameTo parts new before after (deliver_to_found text (agent_of parts.agents.agents a) (state_of parts))
  unfolding and_then
  came_found new before told after o owner tells came = rw who.known (record {
    state = came.state ∙ posted (λ (out : Outcome). out.after);
    effects = came.effects ∙ ap (λ es. es ++ (post letter (state_of holding)).effects) tells
        ∙ append_assoc before (effect.Delivered a e ∷ []) (post letter (state_of holding)).effects
        ∙ ap (λ n. before ++ (effect.Delivered n e ∷ [] ++ (post letter (state_of holding)).effects)) (sym who.number)
        ∙ ap (λ n. before ++ (effect.Delivered who.row.number n ∷ [] ++ (post letter (state_of holding)).effects)) (sym who.event)
        ∙ ap (λ es. before ++ (effect.Delivered who.row.number who.row.event ∷ [] ++ es)) (posted (λ (out : Outcome). out.effects));
    step = came.step;
    dying = came.dying;
  })
    where
      letter : Letter
      letter = record { from = a; to = o; text = text; room = 240; received = false }

      posted : {R : Type 0} (f : Outcome → R)
          → f (post letter (state_of holding))
          ≡ f (post (message text who.row) (record (state_of parts) { agents = with_holding who.row.number true parts.agents.agents }))
      posted f =
          ap (λ n. f (post (record { from = n; to = o; text = text; room = 240; received = false })
          (record (state_of parts) { agents = with_holding n true parts.agents.agents })))
          (sym who.number)
          ∙ ap (λ n. f (post (record { from = who.row.number; to = n; text = text; room = 240; received = false })
          (record (state_of parts) { agents = with_holding who.row.number true parts.agents.agents })))
          (sym owner)

-- ---- one after the other

-- the number at a place, and those after it
at_place : (ns : List ℕ) (i a : ℕ) → slice_get ns i ≡ Some a → drop i ns ≡ a ∷ drop (suc i) ns
at_place [] i a found = absurd (cc)
at_place (n ∷ ns) zero a found = let same : n ≡ a = cc in ap (λ m. m ∷ ns) same
at_place (n ∷ ns) (suc i) a found = at_place ns i a found

within : (ns : List ℕ) (i a : ℕ) → slice_get ns i ≡ Some a → i < length ns
within [] i a found = absurd (cc)
within (n ∷ ns) zero a found = omega arith
within (n ∷ ns) (suc i) a found = let later = within ns i a found in omega (arith, later)

past_end : (ns : List ℕ) (i : ℕ) → slice_get ns i ≡ None → drop i ns ≡ []
past_end [] zero none = refl
past_end [] (suc i) none = refl
past_end (n ∷ ns) zero none = absurd (cc)
past_end (n ∷ ns) (suc i) none = past_end ns i none

-- the first of some agents, by its number
record First (rows : List AgentRow) (a : ℕ) (ns : List ℕ) : Type 0 where
  pub row : AgentRow
  pub rest : List AgentRow
  pub is : rows ≡ row ∷ rest
  pub number : row.number ≡ a
  pub numbers : agent_numbers rest ≡ ns

first_of : (rows : List AgentRow) (a : ℕ) (ns : List ℕ) → agent_numbers rows ≡ a ∷ ns → First rows a ns
first_of [] a ns e = absurd (cc)
first_of (row ∷ rest) a ns e = record {
  row = row;
  rest = rest;
  is = refl;
  number = cc;
  numbers = cc;
}

none_of : (rows : List AgentRow) → agent_numbers rows ≡ [] → rows ≡ []
none_of [] e = refl
none_of (row ∷ rest) e = absurd (cc)

module _ (e : ℕ) (text : List ℕ) (start : Parts) (before : List Effect) where
  abbrev Keeps : State → Type 0
  Keeps s = NineParts s None

  -- what is done and what is still to do are the whole; the agents from this place on have no message yet
  pub record Delivering (i : ℕ) (parts : Parts) (after : List Effect) : Type 0 where
    pub drains : Draining Keeps (idle_agents e) (deliver_to text) 1 start before parts after
    pub left : drop i (agent_numbers (event_agents parts.agents.agents e)) ≡ agent_numbers (idle_agents e (state_of parts))

  pub delivers : NineParts (state_of start) None → InStep start → before ≡ [] → is_armed start.agents.agents e ≡ true → Delivering 0 start before
  delivers nine step none arms = record {
    drains = starts Keeps (idle_agents e) (deliver_to text) 1 start before nine step
        (omega (
          arith,
          ap length none,
          few_told text (idle_agents e (state_of start)) (state_of start),
          length-filter (is_idle_for e) start.agents.agents,
          count_by-le-length (is_idle_for e) start.agents.agents,
          nine.owners.3,
        ));
    left = ap agent_numbers (sym (armed_idle e (state_of start) arms));
  }

  module _ (i : ℕ) (parts : Parts) (after : List Effect) (h : Delivering i parts after) where
    nine_now : NineParts (state_of parts) None
    nine_now = h.drains.keeps

    pub lawful_now : start.dying ≡ None → LawfulParts parts
    lawful_now alone = record { nine = subst (λ (d : Option ℕ). NineParts (state_of parts) d) (sym (h.drains.dying ∙ alone)) nine_now; step = h.drains.step }

    module _ (a : ℕ) (found : slice_get (agent_numbers (event_agents parts.agents.agents e)) i ≡ Some a) where
      first : First (idle_agents e (state_of parts)) a (drop (i + 1) (agent_numbers (event_agents parts.agents.agents e)))
      first = first_of (idle_agents e (state_of parts)) a _ (sym h.left ∙ at_place (agent_numbers (event_agents parts.agents.agents e)) i a found
          ∙ ap (λ n. a ∷ drop n (agent_numbers (event_agents parts.agents.agents e))) (sym (add-one i)))

      once : count_by (is_agent_row first.row.number) parts.agents.agents ≤ 1
      once = keys_once (λ (r : AgentRow). r.number) parts.agents.agents nine_now.numbers.0.1 first.row.number

      stands : agent_of parts.agents.agents first.row.number ≡ Some first.row
      stands = found_own (is_idle_for e) parts.agents.agents first.row (first_found (is_idle_for e) parts.agents.agents first.row first.rest first.is) once

      known : agent_of parts.agents.agents a ≡ Some first.row
      known = ap (agent_of parts.agents.agents) (sym first.number) ∙ stands

      pub next_waits : waits_for e parts.agents.agents a ≡ true
      next_waits = ap (passes (is_idle_for e)) known
          ∙ find_passes (is_idle_for e) parts.agents.agents first.row (first_found (is_idle_for e) parts.agents.agents first.row first.rest first.is)

      -- there are no more agents than 256
      pub next_count : i < 256
      next_count = omega (
        arith,
        within (agent_numbers (event_agents parts.agents.agents e)) i a found,
        length-map (event_agents parts.agents.agents e) (λ (row : AgentRow). row.number),
        length-filter (is_for e) parts.agents.agents,
        count_by-le-length (is_for e) parts.agents.agents,
        nine_now.owners.3,
      )

      -- an effect at least is told of it, and one may follow
      pub next_room : length after + 2 ≤ 2048
      unfolding and_then
      next_room = omega (
        arith,
        first_room Keeps (idle_agents e) (deliver_to text) (deliver_first e text) 1 start before parts after h.drains first.row first.rest first.is,
        length-append (effect.Delivered first.row.number first.row.event ∷ []) (post (message text first.row)
            (record (state_of parts) { agents = with_holding first.row.number true parts.agents.agents })).effects,
      )

      module _ (new : Parts) (now : List Effect)
          (came : CameTo parts new after now (deliver_to_found text (agent_of parts.agents.agents a) (state_of parts))) where
        moved : CameTo parts new after now (deliver_to text first.row (state_of parts))
        moved = subst (λ (o : Option AgentRow). CameTo parts new after now (deliver_to_found text o (state_of parts))) known came

        agents_now : new.agents.agents ≡ with_holding first.row.number true parts.agents.agents
        unfolding and_then
        agents_now = ap (λ (s : State). s.agents) moved.state
            ∙ post_agents (message text first.row) (record (state_of parts) { agents = with_holding first.row.number true parts.agents.agents })

        pub next_fewer : length (idle_agents e (state_of new)) < length (idle_agents e (state_of parts))
        next_fewer = fewer Keeps (idle_agents e) (deliver_to text) (deliver_first e text) 1 start before parts after h.drains first.row
            first.rest first.is new now moved

        pub next_delivers : Delivering (i + 1) new now
        next_delivers = record {
          drains = goes_on Keeps (idle_agents e) (deliver_to text) (deliver_first e text) 1 start before parts after h.drains first.row
              first.rest first.is new now moved;
          left = ap (λ rows. drop (i + 1) (agent_numbers (event_agents rows e))) agents_now
              ∙ ap (drop (i + 1)) (numbers-holding (is_for e) first.row.number true (λ row. refl) parts.agents.agents)
              ∙ sym first.numbers
              ∙ ap agent_numbers (sym (ap (idle_agents e) moved.state ∙ (deliver_first e text first.row first.rest (state_of parts) nine_now first.is).1));
        }

    pub delivered_all : is_armed start.agents.agents e ≡ true → slice_get (agent_numbers (event_agents parts.agents.agents e)) i ≡ None
        → CameTo start parts before after (for_each (deliver_to text) (event_agents start.agents.agents e) (state_of start))
    delivered_all arms none =
        subst (λ (rows : List AgentRow). CameTo start parts before after (for_each (deliver_to text) rows (state_of start)))
        (armed_idle e (state_of start) arms)
        (done Keeps (idle_agents e) (deliver_to text) (deliver_first e text) 1 start before parts after h.drains
        (none_of (idle_agents e (state_of parts)) (sym h.left ∙ past_end (agent_numbers (event_agents parts.agents.agents e)) i none)))
