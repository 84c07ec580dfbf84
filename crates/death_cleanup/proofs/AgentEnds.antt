-- Agents end, and their numbers are free.
use Rattle.death_cleanup.proofs.Notes.{noted-removed}
use Rattle.agents.specs.Roster.{after_destroy, first_of, without_first, without_found}
use Rattle.death_cleanup.proofs.Burials.{rows-removed}
use Rattle.death_cleanup.proofs.Draining.{Draining, came_then, done, fewer, first_room, goes_on}
use Rattle.death_cleanup.proofs.Fronts.{Front, found_first, found_none}
use Rattle.death_cleanup.proofs.Keeping.{InStep-agents}
use Rattle.death_cleanup.proofs.Looks.{find-row, same-some}
use Rattle.death_cleanup.specs.Comes.{CameTo, HasRoom}
use Rattle.death_cleanup.specs.Moves.{agent_over}
use Rattle.death_cleanup.specs.Ties.{HasLawfulThreads, InStep}
use Rattle.death_cleanup.specs.View.{rows_of, state_of}
use Rattle.death_cleanup.specs.Waits.{after_dismiss}
use Rattle.death_cleanup.specs.declared.parts.Parts.{Parts}
use Rattle.death_cleanup.specs.declared.rows.Awaited.TheVariants as awaited
use Rattle.lwp_types.specs.Agents.{agents_of, belongs_to, end_agent, without_agent}
use Rattle.lwp_types.specs.CountLaws.{count-cons, count_not_found, one}
use Rattle.lwp_types.specs.Death.{end_agents}
use Rattle.lwp_types.specs.Lawful.{is_same_option}
use Rattle.lwp_types.specs.Messages.{receivers_of, without_letter}
use Rattle.lwp_types.specs.State as machine
use Rattle.lwp_types.specs.State.{Outcome, State, ThreadRow, agent_of, and_then, for_each, is_agent, is_agent_row}
use Rattle.lwp_types.specs.State.{is_not_blocked, is_number, is_thread, passes, still, times_in}
use Rattle.lwp_types.specs.Unblock.{nonexist, unblock}
use Rattle.lwp_types.specs.declared.call.Answer.{Answer}
use Rattle.lwp_types.specs.declared.call.Effect.{Effect}
use Rattle.lwp_types.specs.declared.rows.AgentRow.{AgentRow}
use Rattle.lwp_types.specs.declared.rows.Block.TheVariants as block
use Rattle.pod_laws.proofs.DeathLoops.{Unowning, end_first}
use Rattle.pod_laws.proofs.Drains.{keys_times}
use Rattle.rendezvous.specs.MessageTable.{after_forget}
use Rattle.stale_ids.specs.Register.{after_remove, without}
use Rattle.std.proofs.Common.{Bool, List, None, Option, Some, [], ap, arith, cond, eqb, false, length, length-append}
use Rattle.std.proofs.Common.{not, refl, sym, true, ℕ, ◌&&◌, ◌++◌, ◌<◌, ◌∙◌, ◌∷◌, ◌≡◌, ◌≤◌}
use Rattle.std.proofs.lemmas.Bool.{eq-eqb}
use Rattle.std.proofs.lemmas.List.{append-nil}
use Rattle.std.specs.List.{count_by, filter, find}
use Rattle.std.specs.Prelude.{is_some, option_map}

-- while threads go on, agents don't matter

module _ (x : Answer) where
  agents-kept : (us : List ℕ) (s : State) → (for_each (unblock x) us s).after.agents ≡ s.agents
  unfolding for_each and_then
  agents-kept [] s = refl
  agents-kept (u ∷ us) s = agents-kept us (unblock x u s).after

  agents-moved : (rows : List AgentRow) (us : List ℕ) (s : State)
      → for_each (unblock x) us (record s { agents = rows })
      ≡ record { after = record (for_each (unblock x) us s).after { agents = rows }; effects = (for_each (unblock x) us s).effects }
  unfolding for_each and_then
  agents-moved rows [] s = refl
  agents-moved rows (u ∷ us) s =
      ap (λ (o : Outcome). record { after = o.after; effects = (unblock x u s).effects ++ o.effects }) (agents-moved rows us (unblock x u s).after)

  pub threads-kept : (a : ℕ) (us : List ℕ) (s : State) → is_thread (for_each (unblock x) us s).after a ≡ is_thread s a
  unfolding for_each and_then
  threads-kept a [] s = refl
  threads-kept a (u ∷ us) s = threads-kept a us (unblock x u s).after ∙ ap is_some (find-row u a block.Not s.threads)
      ∙ same-some (machine.row_with_block u block.Not) (find (is_number a) s.threads)

-- the agent may leave the list first
pub over-is-end : (a : ℕ) (s : State) → agent_over a (record s { agents = without_agent a s.agents }) ≡ end_agent a s
unfolding and_then
over-is-end a s =
    let us = receivers_of s a in
    ap (λ (o : Outcome). record { after = record o.after { letters = without_letter a o.after.letters }; effects = o.effects ++ [] })
    (agents-moved nonexist (without_agent a s.agents) us s)
    ∙ ap
    (λ rows.
    record {
      after = record (for_each (unblock nonexist) us s).after {
        letters = without_letter a (for_each (unblock nonexist) us s).after.letters;
        agents = without_agent a rows;
      };
      effects = (for_each (unblock nonexist) us s).effects ++ [];
    })
    (sym (agents-kept nonexist us s))

-- an agent's number goes

others-same : (a : ℕ) (rows : List ThreadRow) → is_some (find (is_number a) rows) ≡ false → filter (λ row. not (is_number a row)) rows ≡ rows
others-same a [] none = refl
others-same a (row ∷ rows) none = by_test (is_number a row) (others-same a rows) none
  where
    by_test : (c : Bool) → (is_some (find (is_number a) rows) ≡ false → filter (λ row. not (is_number a row)) rows ≡ rows)
        → is_some (cond c (Some row) (find (is_number a) rows)) ≡ false
        → cond (not c) (row ∷ filter (λ row. not (is_number a row)) rows) (filter (λ row. not (is_number a row)) rows) ≡ row ∷ rows
    by_test true rest none = absurd (cc)
    by_test false rest none = ap (λ rs. row ∷ rs) (rest none)

module _ (parts : Parts) (a : ℕ) (no_thread : is_thread (state_of parts) a ≡ false) where
  -- the parts without the agent's letter and its number
  abbrev pub cleared : Parts
  cleared = record parts { mail = after_forget parts.mail a; ids = after_remove parts.ids a }

  rows-same : rows_of parts.last_prio parts.sched.threads (without a parts.ids.live) ≡ (state_of parts).threads
  rows-same = rows-removed parts.last_prio a parts.sched.threads parts.ids.live ∙ others-same a (state_of parts).threads no_thread

  pub came_cleared : (effects : List Effect) → InStep parts
      → CameTo parts cleared effects effects (still (record (state_of parts) { letters = without_letter a parts.mail.letters }))
  came_cleared effects step = record {
    state = ap (λ rows. record (state_of parts) { threads = rows; letters = without_letter a parts.mail.letters }) rows-same;
    effects = sym (append-nil effects);
    step = record {
      tied = record {
        known = λ t. step.tied.known t ∙ ap (λ rows. is_some (find (is_number t) rows) && not (is_same_option parts.dying t)) (sym rows-same);
        waits = λ t. step.tied.waits t ∙ ap (λ rows. passes (λ (row : ThreadRow). not (is_not_blocked row.block)) (find (is_number t) rows)) (sym rows-same);
      };
      ranked = record {
        requests = rw rows-same step.ranked.requests;
        waits = rw rows-same step.ranked.waits;
      };
      roomy = record {
        letters = omega (arith, ap length rows-same, step.roomy.letters);
        threads = omega (arith, ap length rows-same, step.roomy.threads);
        requests = omega (arith, ap length rows-same, step.roomy.requests);
        waits = omega (arith, ap length rows-same, step.roomy.waits);
      };
      monitors = step.monitors;
      conditions = step.conditions;
      noted = noted-removed parts.named a parts.ids.live step.noted;
    };
    dying = refl;
  }

module _ (a : ℕ) (parts mid : Parts) (before now : List Effect) (no_thread : is_thread (state_of parts) a ≡ false)
    (came : CameTo parts mid before now (after_dismiss awaited.Letter a (state_of parts))) where
  pub came_over : CameTo parts
      (cleared mid a (ap (λ s. is_thread s a) came.state ∙ threads-kept nonexist a (receivers_of (state_of parts) a) (state_of parts) ∙ no_thread))
      before now (agent_over a (state_of parts))
  came_over = came_then parts mid _ before now now (after_dismiss awaited.Letter a (state_of parts))
      (λ after. still (record after { letters = without_letter a after.letters })) came
      (came_cleared mid a
      (ap (λ s. is_thread s a) came.state ∙ threads-kept nonexist a (receivers_of (state_of parts) a) (state_of parts) ∙ no_thread) now came.step)

-- the threads go on before the rest
pub over_room : (a : ℕ) (s : State) (effects : List Effect) → HasRoom effects (agent_over a s) 0 → HasRoom effects (after_dismiss awaited.Letter a s) 0
unfolding and_then
over_room a s effects room = omega (arith, room, length-append (after_dismiss awaited.Letter a s).effects [])

pub fewer-agents : (a : ℕ) (rows : List AgentRow) → length (without_agent a rows) ≤ length rows
fewer-agents a [] = omega arith
fewer-agents a (row ∷ rows) = by_test (is_agent_row a row) (fewer-agents a rows)
  where
    by_test : (c : Bool) → length (without_agent a rows) ≤ length rows
        → length (cond (not c) (row ∷ without_agent a rows) (without_agent a rows)) ≤ length (row ∷ rows)
    by_test true rest = omega arith
    by_test false rest = omega arith

module _ (parts : Parts) (a : ℕ) where
  -- the parts in which the agent isn't listed any more
  abbrev pub unlisted : Parts
  unlisted = record parts { agents = after_destroy parts.agents a }

  pub unlisted_step : InStep parts → InStep unlisted
  unlisted_step step = InStep-agents parts step (after_destroy parts.agents a) (fewer-agents a parts.agents.agents)

  pub unlisted_room : (effects : List Effect) → HasRoom effects (end_agent a (state_of parts)) 0 → HasRoom effects (agent_over a (state_of unlisted)) 0
  unlisted_room effects room = omega (arith, room, ap (λ (o : Outcome). length o.effects) (over-is-end a (state_of parts)))

  pub came_ended : (new : Parts) (before now : List Effect) → CameTo unlisted new before now (agent_over a (state_of unlisted))
      → CameTo parts new before now (end_agent a (state_of parts))
  came_ended new before now over = record {
    state = over.state ∙ ap (λ (o : Outcome). o.after) (over-is-end a (state_of parts));
    effects = over.effects ∙ ap (λ (o : Outcome). before ++ o.effects) (over-is-end a (state_of parts));
    step = over.step;
    dying = over.dying;
  }

-- the agents of a thread

module _ (t : ℕ) where
  abbrev pub list : State → List ℕ
  list s = agents_of s.agents t

  abbrev first : List AgentRow → Option ℕ
  first rows = option_map (λ (row : AgentRow). row.number) (first_of rows t)

  popped-some : (rows : List AgentRow) (a : ℕ) → first rows ≡ Some a → without_found (first_of rows t) rows ≡ without_agent a rows
  popped-some rows a h = by_found (first_of rows t) h
    where
      by_found : (o : Option AgentRow) → option_map (λ (row : AgentRow). row.number) o ≡ Some a → without_found o rows ≡ without_agent a rows
      by_found None h = absurd (cc)
      by_found (Some row) h = let same : row.number ≡ a = (let e : Some row.number ≡ Some a = h in cc) in ap (λ n. without_agent n rows) same

  popped-none : (rows : List AgentRow) → first rows ≡ None → without_found (first_of rows t) rows ≡ rows
  popped-none rows h = by_found (first_of rows t) h
    where
      by_found : (o : Option AgentRow) → option_map (λ (row : AgentRow). row.number) o ≡ None → without_found o rows ≡ rows
      by_found None h = refl
      by_found (Some row) h = absurd (cc)

  popped-fewer : (rows : List AgentRow) → length (without_found (first_of rows t) rows) ≤ length rows
  popped-fewer rows = by_found (first_of rows t)
    where
      by_found : (o : Option AgentRow) → length (without_found o rows) ≤ length rows
      by_found None = omega arith
      by_found (Some row) = fewer-agents row.number rows

  module _ (start : Parts) (before : List Effect) (parts : Parts) (after : List Effect)
      (h : Draining (Unowning t) list end_agent 0 start before parts after) where
    -- the parts without the agent that was found
    abbrev pub lighter : Parts
    lighter = record parts { agents = without_first parts.agents t }

    pub lighter_step : InStep lighter
    lighter_step = InStep-agents parts h.step (without_first parts.agents t) (popped-fewer parts.agents.agents)

    pub lighter_threads : HasLawfulThreads (state_of lighter)
    lighter_threads = record { lawful = state_of parts; dying = Some t; nine = h.keeps.nine; threads = refl }

    module _ (a : ℕ) (found : first parts.agents.agents ≡ Some a) where
      front : Front (list (state_of parts)) a
      front = found_first (λ (row : AgentRow). row.number) (belongs_to t) parts.agents.agents a found

      pub agent_no_thread : is_thread (state_of lighter) a ≡ false
      agent_no_thread = apart (is_thread (state_of parts) a) (by_row (agent_of parts.agents.agents a) refl) (h.keeps.nine.numbers.2 a)
        where
          some : 1 ≤ count_by (is_agent_row a) parts.agents.agents
          some = omega (
            arith,
            ap (λ ns. times_in ns a) front.is,
            count-cons (λ n. eqb n a) a front.rest,
            ap one (eq-eqb a a refl),
            keys_times (λ (row : AgentRow). row.number) (belongs_to t) a parts.agents.agents,
          )

          by_row : (o : Option AgentRow) → agent_of parts.agents.agents a ≡ o → is_some o ≡ true
          by_row None e = absurd (omega (arith, some, count_not_found (is_agent_row a) parts.agents.agents e))
          by_row (Some row) e = refl

          apart : (b : Bool) → is_agent (state_of parts) a ≡ true → not (b && is_agent (state_of parts) a) ≡ true → b ≡ false
          apart true e both = let bad : not (is_agent (state_of parts) a) ≡ true = both in absurd (let no : false ≡ true = (rw e at bad) in cc)
          apart false e both = refl

      ended : agent_over a (state_of lighter) ≡ end_agent a (state_of parts)
      ended = ap (λ rows. agent_over a (record (state_of parts) { agents = rows })) (popped-some parts.agents.agents a found) ∙ over-is-end a (state_of parts)

      pub agent_room : HasRoom after (agent_over a (state_of lighter)) 0
      agent_room = omega (
        arith,
        first_room (Unowning t) list end_agent (end_first t) 0 start before parts after h a front.rest front.is,
        ap (λ (o : Outcome). length o.effects) ended,
      )

      module _ (new : Parts) (now : List Effect) (over : CameTo lighter new after now (agent_over a (state_of lighter))) where
        came : CameTo parts new after now (end_agent a (state_of parts))
        came = record {
          state = over.state ∙ ap (λ (o : Outcome). o.after) ended;
          effects = over.effects ∙ ap (λ (o : Outcome). after ++ o.effects) ended;
          step = over.step;
          dying = over.dying;
        }

        pub agent_fewer : length (list (state_of new)) < length (list (state_of parts))
        agent_fewer = fewer (Unowning t) list end_agent (end_first t) 0 start before parts after h a front.rest front.is new now came

        pub agent_on : Draining (Unowning t) list end_agent 0 start before new now
        agent_on = goes_on (Unowning t) list end_agent (end_first t) 0 start before parts after h a front.rest front.is new now came

    pub agents_over : first parts.agents.agents ≡ None → CameTo start lighter before after (end_agents t (state_of start))
    agents_over none =
        let all = done (Unowning t) list end_agent (end_first t) 0 start before parts after h
        (found_none (λ (row : AgentRow). row.number) (belongs_to t) parts.agents.agents none) in
        record {
          state = ap (λ rows. record (state_of parts) { agents = rows }) (popped-none parts.agents.agents none) ∙ all.state;
          effects = all.effects;
          step = lighter_step;
          dying = all.dying;
        }
