-- How the inlets and the threads that post to them belong together.
use Rattle.event_gate.specs.Inlet.{EachInlet, Intake}
use Rattle.event_gate.specs.Port.{is_told, lines_in_pass}
use Rattle.event_gate.specs.Shelves.{event_of}
use Rattle.event_gate.specs.Texts.{lines_from}
use Rattle.script_run.specs.Ends.{IsEnd, posting_of}
use Rattle.script_run.specs.Inlets.{intake_of, is_lane}
use Rattle.script_run.specs.Served.{AreFor, AreServed, FellShort, Gave, texts_of}
use Rattle.script_run.specs.declared.inlet.AnyInlet.{AnyInlet}
use Rattle.script_run.specs.declared.outside.Client.{Client}
use Rattle.script_run.specs.declared.outside.Outside.{Outside}
use Rattle.script_run.specs.declared.outside.Work.{Work}
use Rattle.script_run.specs.declared.outside.Work.TheVariants.{Here, There}
use Rattle.std.specs.List.{All, slice_index_or}
use Rattle.std.specs.Prelude.{Bool, List, [], false, length, map, take, true, ℕ, ◌<◌, ◌≡◌, ◌≤◌}

-- an inlet as any runner's end
abbrev pub any_intake : AnyInlet → Intake
any_intake inlet = intake_of inlet.end

-- the inlets as any runner's ends
abbrev pub intakes : Outside → List Intake
intakes o = map any_intake o.inlets.items

-- of each client its event
abbrev pub events_of : Outside → List ℕ
events_of o = o.events.now

-- of each client its texts
abbrev pub all_texts : Outside → List (List (List ℕ))
all_texts o = map (λ v. v.items) o.texts.now

-- a client's work is that of this inlet, client and texts
abbrev pub IsWork : List ℕ → ℕ → List (List ℕ) → Work → Type 0
IsWork place client texts (There h) = ((posting_of h.promise.poster.value).place ≡ place)
    × ((posting_of h.promise.poster.value).client ≡ client) × (h.promise.texts.value.items ≡ texts)
IsWork place client texts (Here e) = IsEnd place client texts e

-- a client that is still out, by the inlet of its event
pub record IsOut (events : List ℕ) (texts : List (List (List ℕ))) (inlets : List Intake) (c : ℕ)
    (out : Client) : Type 0 where
  pub inside : out.inlet < length inlets
  pub event : (d : Intake) → (slice_index_or inlets out.inlet d).event ≡ event_of events c
  pub work : (d : Intake) → IsWork (slice_index_or inlets out.inlet d).place c (texts_of texts c) out.work

-- what a client has posted is known to the inlet: the first of its texts, and all of them where `all` is true or it is
-- a lane
pub record IsKnown (texts : List (List (List ℕ))) (all : Bool) (c : ℕ) (t : Intake) : Type 0 where
  pub told : is_told c t.known ≡ true
  pub count : ℕ
  pub posted : lines_in_pass c t.known ≡ lines_from c 0 (take count (texts_of texts c))
  pub whole : all ≡ true → take count (texts_of texts c) ≡ texts_of texts c
  pub sole : is_lane t.place ≡ true → take count (texts_of texts c) ≡ texts_of texts c

-- the first clients are out, each with its inlet, and what the others have posted is known to theirs; where `all` is
-- false, one of these others has not posted all its lines
pub record AreTied (events : List ℕ) (texts : List (List (List ℕ))) (all : Bool) (out : List Client)
    (inlets : List Intake) : Type 0 where
  pub are_for : AreFor events inlets
  pub small : length events ≤ 16
  pub as_many : length texts ≡ length events
  pub few : All (λ ts. length ts ≤ 20000) texts
  pub out_of : length out ≤ length events
  pub at_work : (c : ℕ) (d : Client) → c < length out → IsOut events texts inlets c (slice_index_or out c d)
  pub back : (c : ℕ) → length out ≤ c → c < length events
      → All (λ t. t.event ≡ event_of events c → IsKnown texts all c t) inlets
  pub short : all ≡ false → FellShort events texts (length out) inlets

-- a run of the pod keeps this: it only takes lines from the inlets, or none
abbrev pub IsTied : Outside → Type 0
IsTied o = AreTied (events_of o) (all_texts o) o.all o.out.items (intakes o)

-- the same clients, events and texts
pub record IsSameOutside (o p : Outside) : Type 0 where
  pub events : p.events.now ≡ o.events.now
  pub texts : all_texts p ≡ all_texts o

-- inlets that only give lines, or none, stay tied
abbrev pub DrawsKeepTies : Type 0
DrawsKeepTies = (events : List ℕ) (texts : List (List (List ℕ))) (all : Bool) (out : List Client)
    (before after : List Intake)
    → AreTied events texts all out before → EachInlet Gave before after → AreTied events texts all out after

-- all threads have been joined
abbrev pub IsClosed : Outside → Type 0
IsClosed o = o.out.items ≡ []

-- once all threads have been joined, the inlets have of each client the first of what it posted, and then comes the
-- rest
abbrev pub ClosedAreServed : Type 0
ClosedAreServed = (o : Outside) → IsTied o → IsClosed o → AreServed (events_of o) (all_texts o) o.all (intakes o)
