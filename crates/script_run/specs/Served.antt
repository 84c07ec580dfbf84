-- What inlets have of the lines that clients post, once all of these have posted.
use Rattle.event_gate.specs.Inlet.{EventsRise, HasEvent, Intake, IsInletTaken, IsInletTold, after_draws}
use Rattle.event_gate.specs.Port.{IsNumbered, of, lines_in_pass}
use Rattle.event_gate.specs.Shelves.{event_of}
use Rattle.event_gate.specs.Texts.{lines_from}
use Rattle.script_run.specs.Inlets.{is_lane}
use Rattle.lwp_types.specs.declared.call.Line.{Line}
use Rattle.std.specs.List.{All, filter, range_with_len, slice_index_or}
use Rattle.std.specs.Prelude.{Bool, List, [], ◌++◌, eqb, false, length, sum_by, take, true, ℕ, ◌<◌, ◌≡◌, ◌≤◌}

-- the clients that post to an event, in order
abbrev pub clients_of : List ℕ → ℕ → List ℕ
clients_of events e = filter (λ c. eqb (event_of events c) e) (range_with_len 0 (length events))

-- the texts of a client
abbrev pub texts_of : List (List (List ℕ)) → ℕ → List (List ℕ)
texts_of texts c = slice_index_or texts c []

-- how many texts all clients have
abbrev pub lines_in_all : List (List (List ℕ)) → ℕ
lines_in_all texts = sum_by length texts

-- there is an inlet of each event that has a client, for just the clients of this event: a lane where there is one, and
-- else a port
pub record AreFor (events : List ℕ) (inlets : List Intake) : Type 0 where
  pub rise : All (λ t. t.event ≤ 31) inlets × EventsRise inlets
  pub clients : All (λ t. t.noted ≡ clients_of events t.event) inlets
  pub found : All (HasEvent inlets) events
  pub lanes : All (λ t. is_lane t.place ≡ eqb (length t.noted) 1) inlets

-- an inlet gave lines, and so often none
pub record Gave (t u : Intake) : Type 0 where
  pub lines : List Line
  pub nothing : ℕ
  pub after : u ≡ after_draws t lines nothing

-- more is known of what its clients have posted in all
abbrev pub Hears : Intake → Intake → Type 0
Hears t u = u ≡ record t { known = u.known }

-- What an inlet has of a client of its event: the client posted the first of its texts, and all of them where `all` is
-- true or it is a lane. The lines taken are the first of these, and then come the rest.
pub record HasLines (client : ℕ) (texts : List (List ℕ)) (all : Bool) (t : Intake) : Type 0 where
  pub count : ℕ
  pub posted : lines_in_pass client t.known ≡ lines_from client 0 (take count texts)
  pub whole : all ≡ true → take count texts ≡ texts
  pub sole : is_lane t.place ≡ true → take count texts ≡ texts
  pub rest : List Line
  pub lines : of client t.taken ++ rest ≡ lines_from client 0 (take count texts)
  pub done : IsInletTaken t → rest ≡ []

-- All passes came back to the inlet. It has given lines of clients of its event alone, each client's in order.
pub record IsServed (events : List ℕ) (texts : List (List (List ℕ))) (all : Bool) (t : Intake) : Type 0 where
  pub told : IsInletTold t
  pub mine : All (λ line. (line.client < length events) × (event_of events line.client ≡ t.event)) t.taken
  pub lines : (c : ℕ) → c < length events → event_of events c ≡ t.event → HasLines c (texts_of texts c) all t
  pub numbered : (c : ℕ) → IsNumbered 0 (of c t.taken)

-- a client from n on has not posted all its lines, as the inlet of its event knows
pub record FellShort (events : List ℕ) (texts : List (List (List ℕ))) (n : ℕ) (inlets : List Intake) : Type 0 where
  pub client : ℕ
  pub high : n ≤ client
  pub low : client < length events
  pub short : All
      (λ t. t.event ≡ event_of events client → length (lines_in_pass client t.known) < length (texts_of texts client))
      inlets

-- so it is of each inlet, and each client's event has one; where `all` is false, some client has not posted all its
-- lines
pub record AreServed (events : List ℕ) (texts : List (List (List ℕ))) (all : Bool) (inlets : List Intake) : Type 0 where
  pub are_for : AreFor events inlets
  pub served : All (IsServed events texts all) inlets
  pub short : all ≡ false → FellShort events texts 0 inlets
