-- What a session can do next, by its core alone.
use Rattle.event_gate.specs.Clients.{of}
use Rattle.lwp_types.specs.declared.call.Call.TheVariants as call
use Rattle.lwp_types.specs.declared.call.Effect.{Effect}
use Rattle.lwp_types.specs.declared.call.Line.{Line}
use Rattle.pod_events.specs.Events.{has_turn, is_takeable}
use Rattle.pod_runner.specs.Session.{Live, Setting, move, opening_session, take_move}
use Rattle.pod_runner.specs.declared.session.Row.{Row}
use Rattle.pod_runner.specs.declared.session.Took.{Took}
use Rattle.session_cores.specs.Core.{Core, Mind, core_of}
use Rattle.std.specs.Prelude.{List, None, Option, Some, [], false, if◌then◌else◌, length, map, replicate}
use Rattle.std.specs.Prelude.{slice_get, slice_index_or, slice_set, ℕ, ◌++◌, ◌+◌, ◌∷◌}

-- a program of bodies, and what its clients post
pub record World (B : Type 0) : Type 0 where
  pub setting : Setting B
  -- the event of each client
  pub events : List ℕ
  -- the lines of all clients; those of each are in order
  pub posts : List Line

-- ---- a session that stands as a core does

-- a thread that stands so; the procedure that it began in and the call that it gave last are any
abbrev pub row_of_mind : {B : Type 0} → Mind B → Row B
row_of_mind mind = record {
  tid = mind.number;
  proc = 0;
  body = mind.body;
  answer = mind.answer;
  called = false;
  call = call.Return;
}

-- a session that has this core
abbrev pub live_of : {B : Type 0} → Core B → Live B
live_of core = record { pod = core.pod; rows = map row_of_mind core.minds; names = core.names }

-- ---- the lines of clients

-- how many lines of client c were taken
abbrev pub count_at : List ℕ → ℕ → ℕ
count_at taken c = slice_index_or taken c 0

-- one more of client c was taken
abbrev pub with_taken : List ℕ → ℕ → List ℕ
with_taken taken c = slice_set taken c (count_at taken c + 1)

-- the next line of client c, if it has one left
abbrev pub next_line : {B : Type 0} → World B → Core B → ℕ → Option Line
next_line world core c = slice_get (of c world.posts) (count_at core.taken c)

-- ---- steps

-- a step: the line that it takes, if it takes one, the core that it leads to, and what it does
pub record Step (B : Type 0) : Type 0 where
  pub take : Option Took
  pub to : Core B
  pub effects : List Effect

-- a line of client c is taken
abbrev pub take_made : {B : Type 0} → World B → Core B → ℕ → Took → Step B
take_made world core c took = let m = take_move world.setting.bodies took (live_of core) in
    record { take = Some took; to = core_of m.live (with_taken core.taken c); effects = m.effects }

-- a call is made
abbrev pub call_made : {B : Type 0} → World B → Core B → Step B
call_made world core = let m = move world.setting.next world.setting.bodies (live_of core) in
    record { take = None; to = core_of m.live core.taken; effects = m.effects }

-- the next line of client c is taken, if one is left and its event is armed
abbrev pub take_if : {B : Type 0} → World B → Core B → ℕ → ℕ → Option Line → List (Step B)
take_if world core c e None = []
take_if world core c e (Some line) = if is_takeable core.pod e then take_made world core c (record { turn = 0; event = e; line = line }) ∷ []
    else []

-- the takes of clients with these events, counted from c
abbrev pub takes_from : {B : Type 0} → World B → Core B → ℕ → List ℕ → List (Step B)
takes_from world core c [] = []
takes_from world core c (e ∷ events) = take_if world core c e (next_line world core c) ++ takes_from world core (c + 1) events

-- the takes that can be made, by client
abbrev pub takes_at : {B : Type 0} → World B → Core B → List (Step B)
takes_at world core = takes_from world core 0 world.events

-- the call that can be made, if there is a choice and the pod has not ended
abbrev pub calls_at : {B : Type 0} → World B → Core B → List (Step B)
calls_at world core = if has_turn core.pod.state then call_made world core ∷ [] else []

-- the steps from a core: the takes, and then the call
abbrev pub steps_at : {B : Type 0} → World B → Core B → List (Step B)
steps_at world core = takes_at world core ++ calls_at world core

-- the cores to which they lead
abbrev pub after : {B : Type 0} → World B → Core B → List (Core B)
after world core = map (λ step. step.to) (steps_at world core)

-- before the first step
abbrev pub first_core : {B : Type 0} → World B → Core B
first_core world = core_of (opening_session world.setting).live (replicate (length world.events) 0)
