-- Each death that is to be reported is reported once, in order, to every agent that event 32 has at that moment, or waits,
-- or is dropped with the last agent.
use Rattle.lwp_types.specs.Agents.{is_event_armed}
use Rattle.lwp_types.specs.Choice.{choice}
use Rattle.lwp_types.specs.declared.call.Call.{Call}
use Rattle.pod_events.specs.Events.{EventState, has_agent, rites_event, take_event}
use Rattle.pod_events.specs.Laws.{IsTold, reports_due_of_move, reports_of_call}
use Rattle.pod_events.specs.Moves.{EventMove, ToCall, ToTake, event_move}
use Rattle.pod_events.specs.Rites.{deaths}
use Rattle.pod_events.specs.Step.{event_step}
use Rattle.promise_laws.specs.EachStep.{Sentence}
use Rattle.std.specs.Prelude.{List, MatchBool, None, Option, Some, [], false, slice_get, suc, true, zero, ℕ, ◌++◌, ◌∷◌, ◌≡◌}

-- nothing waits to be reported where nobody hears
abbrev pub WaitsOnlyWhereHeard : EventState → Type 0
WaitsOnlyWhereHeard pod = has_agent pod.state rites_event ≡ false → pod.reports ≡ []

-- ---- a step

-- a call of the thread that was chosen
pub record ReportsInCall (pod : EventState) (c : Call) : Type 0 where
  -- where the event has an agent after it: who waited and who died in the call are who is reported now, and who waits
  -- then, in this order
  pub heard : has_agent (event_step pod c).after.state rites_event ≡ true → pod.reports ++ reports_due_of_move pod (ToCall c)
      ≡ reports_of_call (event_step pod c).effects ++ (event_step pod c).after.reports
  -- where it has none, all are dropped
  pub unheard : has_agent (event_step pod c).after.state rites_event ≡ false → (event_step pod c).after.reports ≡ []
  -- who is reported is reported to every agent that the event has then, by one delivery
  pub told : (dead : ℕ) → reports_of_call (event_step pod c).effects ≡ dead ∷ [] → IsTold pod c dead
  -- nobody waits where all these agents wait for a report
  pub none_waits : is_event_armed (event_step pod c).after.state rites_event ≡ true → (event_step pod c).after.reports ≡ []

-- a take reports nobody, nobody dies in it, and who waits to be reported waits on
pub record LeavesReports (pod : EventState) (e : ℕ) (text : List ℕ) : Type 0 where
  pub none_reported : reports_of_call (take_event pod e text).effects ≡ []
  pub none_dies : deaths (take_event pod e text).effects ≡ []
  pub same : (take_event pod e text).after.reports ≡ pod.reports

-- of a step
abbrev pub ReportsDeaths : Sentence
ReportsDeaths pod (ToCall c) later = (t : ℕ) → choice pod.state ≡ Some t → ReportsInCall pod c
ReportsDeaths pod (ToTake e text) later = LeavesReports pod e text

-- ---- what becomes of one of them

-- the move reports n, to every agent that the event has then
abbrev pub IsToldBy : EventState → EventMove → ℕ → Type 0
IsToldBy pod (ToCall c) n = IsTold pod c n
IsToldBy pod (ToTake e text) n = ⊥

-- n stands in line with k others before it, when a move reports these, one at most: where it reports nobody, all stay; else
-- the first is reported, which is n where nobody stands before it, and which n comes one place nearer to where somebody does
abbrev pub LineMoves : EventState → EventMove → ℕ → (ℕ → Type 0) → List ℕ → ℕ → Type 0
LineMoves pod move n StandsAt [] k = StandsAt k
LineMoves pod move n StandsAt (dead ∷ others) zero = (dead ≡ n) × IsToldBy pod move n
LineMoves pod move n StandsAt (dead ∷ others) (suc k) = StandsAt k

-- n stands in line with k others before it, and by these moves it is reported in its turn, or waits on, or is dropped with
-- all others at a move after which the event has no agent
abbrev pub ComesInTurn : ℕ → ℕ → EventState → List (Option EventMove) → Type 0
ComesInTurn n k pod [] = slice_get pod.reports k ≡ Some n
ComesInTurn n k pod (None ∷ later) = ComesInTurn n k pod later
ComesInTurn n k pod (Some move ∷ later) = MatchBool (has_agent (event_move pod move).after.state rites_event)
    (LineMoves pod move n (λ j. ComesInTurn n j (event_move pod move).after later) (reports_of_call (event_move pod move).effects) k)
    ((event_move pod move).after.reports ≡ [])

-- of a step: each that waits before it, and each that is to be reported because it dies in it, comes in turn
abbrev pub ReportsComeInTurn : Sentence
ReportsComeInTurn pod move later = (n k : ℕ) → slice_get (pod.reports ++ reports_due_of_move pod move) k ≡ Some n
    → ComesInTurn n k pod (Some move ∷ later)
