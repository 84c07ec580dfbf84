-- What a pod is asked as a machine: how a thread was made, and whether an event has an agent.
use Rattle.agents.specs.Roster.{nth_of}
use Rattle.death_cleanup.proofs.Looks.{row_under, rows-under}
use Rattle.death_cleanup.specs.View.{state_of}
use Rattle.death_cleanup.specs.declared.parts.Parts.{Parts}
use Rattle.death_cleanup.specs.declared.rows.Kind.{Kind}
use Rattle.lwp_types.specs.Agents.{event_agents, is_for}
use Rattle.lwp_types.specs.State.{ThreadRow, agent_numbers}
use Rattle.lwp_types.specs.declared.rows.AgentRow.{AgentRow}
use Rattle.pod_events.specs.Rites.{flags_of}
use Rattle.stale_ids.specs.Register.{AreRising, value_of}
use Rattle.std.proofs.Common.{Bool, List, Option, [], ap, arith, cond, false, length, option_map, refl, true, ℕ, ◌||◌, ◌∙◌, ◌∷◌, ◌≡◌}
use Rattle.std.specs.List.{list_any}
use Rattle.std.specs.Prelude.{is_some, slice_get}

-- by who lives under the number
pub flags-under : (parts : Parts) (t : ℕ) (o : Option Kind) → AreRising parts.ids.live → value_of t parts.ids.live ≡ o
    → flags_of (state_of parts) t ≡ option_map (λ (row : ThreadRow). row.flags) (row_under parts.last_prio parts.sched.threads t o)
flags-under parts t o rising e = ap (option_map (λ (row : ThreadRow). row.flags))
    (rows-under parts.last_prio parts.sched.threads t parts.ids.live rising ∙ ap (row_under parts.last_prio parts.sched.threads t) e)

-- where there are no agents, no event has one
pub any-none : (e : ℕ) (rows : List AgentRow) → length rows ≡ 0 → list_any (is_for e) rows ≡ false
any-none e [] none = refl
any-none e (row ∷ rows) none = absurd (omega (arith, none))

-- an event has an agent where it has a first one
pub any-first : (e : ℕ) (rows : List AgentRow) → list_any (is_for e) rows ≡ is_some (nth_of rows e 0)
any-first e [] = refl
any-first e (row ∷ rows) = by_test (is_for e row) (any-first e rows)
  where
    by_test : (b : Bool) → list_any (is_for e) rows ≡ is_some (nth_of rows e 0)
        → (b || list_any (is_for e) rows) ≡ is_some (slice_get (agent_numbers (cond b (row ∷ event_agents rows e) (event_agents rows e))) 0)
    by_test true rest = refl
    by_test false rest = rest
