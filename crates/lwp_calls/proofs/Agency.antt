-- An agent is born.
use Rattle.death_cleanup.proofs.Notes.{noted-born}
use Rattle.conditions.specs.declared.waits.WaitRec.{WaitRec}
use Rattle.death_cleanup.specs.Comes.{CameTo}
use Rattle.death_cleanup.specs.Ties.{InStep}
use Rattle.death_cleanup.specs.View.{state_of}
use Rattle.death_cleanup.specs.declared.parts.Parts.{Parts}
use Rattle.death_cleanup.specs.declared.rows.Kind.TheVariants as kind
use Rattle.agents.specs.Roster as roster
use Rattle.death_cleanup.proofs.Looks.{waits}
use Rattle.lwp_calls.proofs.ThreadAndAgentBirths.{rows-agent}
use Rattle.lwp_calls.specs.Asks.{HasAgentPlaces}
use Rattle.lwp_types.specs.Agents.{after_agent_birth, new_agent}
use Rattle.lwp_types.specs.Lawful.{is_same_option}
use Rattle.lwp_types.specs.declared.rows.AgentRow.{AgentRow}
use Rattle.lwp_types.specs.ListLaws.{All-weaker}
use Rattle.lwp_types.specs.State.{ThreadRow, is_number, passes, priority_in, still}
use Rattle.monitors.specs.declared.requests.EntryRequest.{EntryRequest}
use Rattle.stale_ids.specs.Register.{after_insert}
use Rattle.std.proofs.Common.{Bool, None, Option, Some, [], ap, arith, length, length-append, not, refl, sym, ℕ, ◌&&◌, ◌∙◌, ◌∷◌, ◌≡◌}
use Rattle.std.specs.List.{find}
use Rattle.std.specs.Prelude.{is_some, option_map, unwrap_or}

-- the parts with one agent more
abbrev pub with_agent : Parts → ℕ → ℕ → Parts
with_agent parts e t = record parts { ids = after_insert parts.ids kind.Agent; agents = roster.after_create parts.agents parts.ids.births e t }

module _ (parts : Parts) (e t : ℕ) where
  same : (state_of (with_agent parts e t)).threads ≡ (state_of parts).threads
  same = rows-agent parts.last_prio parts.ids.births parts.sched.threads parts.ids.live

  pub agent-is : state_of (with_agent parts e t) ≡ after_agent_birth (state_of parts) t e
  agent-is = rw same refl

  ranks : (u : ℕ) → priority_in (state_of (with_agent parts e t)) u ≡ priority_in (state_of parts) u
  ranks u = ap (λ rows. unwrap_or (option_map (λ (row : ThreadRow). row.priority) (find (is_number u) rows)) 0) same

  pub came_agent : InStep parts → HasAgentPlaces parts → CameTo parts (with_agent parts e t) [] [] (still (after_agent_birth (state_of parts) t e))
  came_agent step places =
      let as_many : length (state_of (with_agent parts e t)).threads ≡ length (state_of parts).threads = ap length same in
      record {
        state = agent-is;
        effects = refl;
        step = record {
          tied = record {
            known = λ u. step.tied.known u ∙ ap (λ b. b && not (is_same_option parts.dying u)) (sym (ap (λ rows. is_some (find (is_number u) rows)) same));
            waits = λ u. step.tied.waits u ∙ sym (ap (λ rows. passes waits (find (is_number u) rows)) same);
          };
          ranked = record {
            requests = All-weaker (λ (r : EntryRequest). r.prio ≡ priority_in (state_of parts) r.tid)
                (λ r. r.prio ≡ priority_in (state_of (with_agent parts e t)) r.tid) (λ r is. is ∙ sym (ranks r.tid)) parts.mons.requests step.ranked.requests;
            waits = All-weaker (λ (w : WaitRec). w.prio ≡ priority_in (state_of parts) w.tid)
                (λ w. w.prio ≡ priority_in (state_of (with_agent parts e t)) w.tid) (λ w is. is ∙ sym (ranks w.tid)) parts.conds.waits step.ranked.waits;
          };
          roomy = record {
            letters = omega (arith, as_many, places.letters, length-append parts.agents.agents (new_agent parts.ids.births e t ∷ []));
            threads = omega (arith, as_many, step.roomy.threads);
            requests = omega (arith, as_many, step.roomy.requests);
            waits = omega (arith, as_many, step.roomy.waits);
          };
          monitors = step.monitors;
          conditions = step.conditions;
          noted = noted-born parts.named parts.ids.births kind.Agent refl parts.ids.live step.noted (omega (arith, step.noted.room));
        };
        dying = refl;
      }

-- an event has an agent where that has a number
pub event-asked : (o : Option AgentRow) (r : Option ℕ) (b : Bool) → r ≡ option_map (λ (row : AgentRow). row.number) o → is_some r ≡ b → is_some o ≡ b
event-asked None r b is there = sym (ap is_some is) ∙ there
event-asked (Some row) r b is there = sym (ap is_some is) ∙ there
