-- Last rites: deaths are reported to the agents of an event that is kept for them.
use Rattle.lwp_types.specs.Agents.{deliver, is_event_armed}
use Rattle.lwp_types.specs.State.{State, passes, thread_of}
use Rattle.lwp_types.specs.declared.call.Effect.{Effect}
use Rattle.lwp_types.specs.declared.call.Effect.TheVariants as effect
use Rattle.lwp_types.specs.declared.call.Flags.{Flags}
use Rattle.pod_events.specs.Events.{has_agent, rites_event}
use Rattle.std.specs.Fmt.{decimal}
use Rattle.std.specs.List.{filter, filter_map}
use Rattle.std.specs.Prelude.{Bool, List, None, Option, Some, [], codes, if◌then◌else◌, map, not, option_map, ℕ, ◌++◌, ◌∷◌}

-- who died by this effect
abbrev pub dead_in : Effect → Option ℕ
dead_in (effect.Died t) = Some t
dead_in _ = None

-- who died, in this order
abbrev pub deaths : List Effect → List ℕ
deaths es = filter_map dead_in es

-- how a live thread was created
abbrev pub flags_of : State → ℕ → Option Flags
flags_of s t = option_map (λ row. row.flags) (thread_of s t)

-- the thread wasn't created to die unreported
abbrev pub is_reported : State → ℕ → Bool
is_reported s t = passes (λ flags. not flags.nolastrites) (flags_of s t)

-- the dead that are to be reported, of those that died since this state
abbrev pub dead_to_report : State → List ℕ → List ℕ
dead_to_report before dead = filter (is_reported before) dead

-- what is to be reported after a call; nothing, if there is nobody to report it to
abbrev pub reports_after : State → State → List ℕ → List Effect → List ℕ
reports_after before now reports es = if has_agent now rites_event then reports ++ dead_to_report before (deaths es)
    else []

-- the text of a report: t and the number of the dead
abbrev pub report_text : ℕ → List ℕ
report_text dead = codes "t" ++ decimal dead

-- the agent that this effect delivers to
abbrev pub agent_reached : Effect → Option ℕ
agent_reached (effect.Delivered agent event) = Some agent
agent_reached _ = None

-- a letter to an agent is a report
abbrev pub as_rites : ℕ → Effect → Effect
as_rites dead (effect.Delivered agent event) = effect.Rites agent dead
as_rites dead (effect.Answered t a) = effect.Answered t a
as_rites dead (effect.Called t c) = effect.Called t c
as_rites dead (effect.Exited t reg c a) = effect.Exited t reg c a
as_rites dead (effect.Died t) = effect.Died t
as_rites dead (effect.Ticked now) = effect.Ticked now
as_rites dead (effect.Ended status) = effect.Ended status
as_rites dead (effect.Trapped t e) = effect.Trapped t e
as_rites dead (effect.Rites agent other) = effect.Rites agent other

-- the machine after a report, what is to be reported still, and the effects so far
pub record Reporting : Type 0 where
  pub state : State
  pub reports : List ℕ
  pub effects : List Effect

-- the death is reported to each agent of the event
abbrev pub after_report : State → List Effect → ℕ → List ℕ → Reporting
after_report s es dead later = let sent = deliver s rites_event (report_text dead) in record {
  state = sent.after;
  reports = later;
  effects = es ++ map (as_rites dead) sent.effects;
}

-- the first of these is reported, if there is one
abbrev pub after_first_report : State → List Effect → List ℕ → Reporting
after_first_report s es [] = record { state = s; reports = []; effects = es }
after_first_report s es (dead ∷ later) = after_report s es dead later

-- the first of these is reported, if the agents of the event wait for it
abbrev pub after_rites : State → List Effect → List ℕ → Reporting
after_rites s es reports = if is_event_armed s rites_event then after_first_report s es reports
    else record { state = s; reports = reports; effects = es }
