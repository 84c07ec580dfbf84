-- Each line that is taken as a trap is raised once, in the thread that is chosen at the next call, or is still to be.
use Rattle.lwp_types.specs.Choice.{choice}
use Rattle.lwp_types.specs.declared.call.Call.{Call}
use Rattle.pod_events.specs.Events.{EventState, is_trapped, take_event}
use Rattle.pod_events.specs.Laws.{RaisesFirst, is_raised, pends}
use Rattle.pod_events.specs.Moves.{EventMove, ToCall, ToTake}
use Rattle.pod_events.specs.Step.{event_step}
use Rattle.promise_laws.specs.EachStep.{Sentence}
use Rattle.std.specs.List.{count_by}
use Rattle.std.specs.Prelude.{List, MatchOption, None, Option, Some, [], false, true, ℕ, ◌∷◌, ◌≡◌}

-- The trap of event e is to be raised: the first of these moves that is a call of some thread raises it, in that thread and
-- before all else; and where there is none, it is still to be raised.
abbrev pub ComesNext : ℕ → EventState → List (Option EventMove) → Type 0
ComesNext e pod [] = pod.pending ≡ Some e
ComesNext e pod (None ∷ later) = ComesNext e pod later
ComesNext e pod (Some (ToTake f text) ∷ later) = ComesNext e (take_event pod f text).after later
ComesNext e pod (Some (ToCall c) ∷ later) =
    MatchOption (choice pod.state) (ComesNext e (event_step pod c).after later) (λ t. RaisesFirst pod c t e)

-- a call raises what was to be raised and no other trap, and then none is to be
pub record RaisesAll (pod : EventState) (c : Call) : Type 0 where
  pub raised : (e : ℕ) → count_by (is_raised e) (event_step pod c).effects ≡ pends e pod
  pub none_left : (event_step pod c).after.pending ≡ None

-- a take raises none; a line of a trapped event is raised next; one of another event leaves what is to be raised
pub record TakesTrap (pod : EventState) (e : ℕ) (text : List ℕ) (later : List (Option EventMove)) : Type 0 where
  pub none_raised : (f : ℕ) → count_by (is_raised f) (take_event pod e text).effects ≡ 0
  pub next : is_trapped pod.trapped e ≡ true → ComesNext e (take_event pod e text).after later
  pub other : is_trapped pod.trapped e ≡ false → (take_event pod e text).after.pending ≡ pod.pending

-- of a step
abbrev pub RaisesTraps : Sentence
RaisesTraps pod (ToCall c) later = (t : ℕ) → choice pod.state ≡ Some t → RaisesAll pod c
RaisesTraps pod (ToTake e text) later = TakesTrap pod e text later
