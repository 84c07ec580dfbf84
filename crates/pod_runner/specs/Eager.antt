-- Sessions in which all lines are there from the start, and each is taken as soon as it can be.
use Rattle.event_gate.specs.Shelves.{Shelves, after_take_from, first_left, left_in_all}
use Rattle.lwp_types.specs.Choice.{choice}
use Rattle.pod_events.specs.Events.{EventState, is_takeable}
use Rattle.lwp_types.specs.declared.call.Line.{Line}
use Rattle.pod_runner.specs.Over.{events, over}
use Rattle.trace_text.specs.declared.ends.Halt.{Halt}
use Rattle.pod_runner.specs.Session.{Made, Session, Setting, call_step, opening_session, take_step}
use Rattle.pod_runner.specs.declared.session.Took.{Took}
use Rattle.std.specs.List.{fold}
use Rattle.std.specs.Prelude.{Bool, List, None, Option, Some, [], false, is_some, suc, true, zero, ℕ, ◌++◌, ◌+◌, ◌∷◌, ◌≡◌, ◌≤◌}

-- how far such a session has come
pub record Plan (B : Type 0) : Type 0 where
  pub session : Session B
  pub calls : ℕ
  -- of each event, the lines that were taken and those that are left
  pub left : Shelves
  -- the oldest first
  pub takes : List Took

-- what such a session is given: a program, and how many calls are allowed
pub record Planned (B : Type 0) : Type 0 where
  pub setting : Setting B
  pub turns : ℕ

-- the pod of the session
abbrev pub pod_of : {B : Type 0} → Plan B → EventState
pod_of plan = plan.session.live.pod

-- a line, as it is taken now
abbrev pub took_of : {B : Type 0} → ℕ → Line → Plan B → Took
took_of e line plan = record { turn = plan.calls; event = e; line = line }

-- the first line left of an event is this one, and is taken
abbrev pub after_take : {B : Type 0} → Planned B → ℕ → Line → Plan B → Plan B
after_take planned e line plan = let took = took_of e line plan in record {
  session = take_step planned.setting took plan.session;
  calls = plan.calls;
  left = after_take_from plan.left e;
  takes = plan.takes ++ took ∷ [];
}

-- the first line left of an event is taken, if there is one
abbrev pub after_offer_by : {B : Type 0} → Planned B → ℕ → Plan B → Option Line → Plan B
after_offer_by planned e plan None = plan
after_offer_by planned e plan (Some line) = after_take planned e line plan

-- the first line left of an event is taken, if there is one and it can be delivered
abbrev pub after_offer : {B : Type 0} → Planned B → ℕ → Plan B → Plan B
after_offer planned e plan =
    elim (is_takeable (pod_of plan) e) [ true ↦ after_offer_by planned e plan (first_left plan.left e) | false ↦ plan ]

-- between two calls, each event in turn may have one line taken
abbrev pub boundary : {B : Type 0} → Planned B → Plan B → Plan B
boundary planned plan = fold (λ now e. after_offer planned e now) plan events

-- a call is made
abbrev pub one_call : {B : Type 0} → Planned B → Plan B → Plan B
one_call planned plan = record plan { session = call_step planned.setting plan.session; calls = plan.calls + 1 }

-- somebody may run
abbrev pub has_choice : {B : Type 0} → Plan B → Bool
has_choice plan = is_some (choice (pod_of plan).state)

-- how it has ended, if it has
abbrev pub plan_over : {B : Type 0} → Planned B → Plan B → Option Halt
plan_over planned plan = over planned.turns (pod_of plan) plan.calls plan.left

-- lines are taken, and then, if somebody may run, a call is made
abbrev pub after_advance : {B : Type 0} → Planned B → Plan B → Plan B
after_advance planned plan =
    elim (has_choice plan) [ true ↦ one_call planned (boundary planned plan) | false ↦ boundary planned plan ]

-- lines are taken and a call is made, unless the run has ended
abbrev pub round : {B : Type 0} → Planned B → Plan B → Plan B
round planned plan = elim (plan_over planned plan) [ None ↦ after_advance planned plan | Some halt ↦ plan ]

-- on and on, until it has ended; the number bounds the rounds
unfoldable pub to_the_end : {B : Type 0} → Planned B → ℕ → Plan B → Plan B
to_the_end planned zero plan = plan
to_the_end planned (suc n) plan =
    elim (plan_over planned plan) [ None ↦ to_the_end planned n (after_advance planned plan) | Some halt ↦ plan ]

-- to the end, with as many rounds as suffice, since each makes a call or takes a line
abbrev pub after_finish : {B : Type 0} → Planned B → Plan B → Plan B
after_finish planned plan = to_the_end planned (planned.turns + left_in_all plan.left) plan

-- before the first step, where these lines are in place
abbrev pub opening_plan : {B : Type 0} → Planned B → Shelves → Plan B
opening_plan planned left = record { session = opening_session planned.setting; calls = 0; left = left; takes = [] }

-- the session whole
unfoldable pub plan_whole : {B : Type 0} → Planned B → Shelves → Plan B
plan_whole planned left = after_finish planned (opening_plan planned left)

-- what was done so far is the first part of what is done in the end: the first steps, the first takes, and no more
-- calls
pub record IsFirstPart {B : Type 0} (plan whole : Plan B) : Type 0 where
  pub rest : List Made
  pub steps : whole.session.steps ≡ plan.session.steps ++ rest
  pub later : List Took
  pub takes : whole.takes ≡ plan.takes ++ later
  pub calls_up : plan.calls ≤ whole.calls
