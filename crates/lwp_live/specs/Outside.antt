-- The inlets of a run that is fed, the ends that its clients post to, and what is known of them once all is posted.
use Rattle.event_gate.specs.Inlet.{Intake, inlet_left}
use Rattle.event_gate.specs.Shelves.{event_of}
use Rattle.lwp_live.specs.Reading.{HavePosted, texts_by}
use Rattle.lwp_live.specs.declared.arrival.Arrival.{Arrival}
use Rattle.lwp_live.specs.declared.outside.Ends.{Ends}
use Rattle.script_run.specs.Ends.{AnyPosting, posting_of}
use Rattle.script_run.specs.Inlets.{fresh}
use Rattle.script_run.specs.Served.{AreFor}
use Rattle.script_run.specs.Ties.{any_intake}
use Rattle.std.specs.List.{All, range_with_len, slice_index_or}
use Rattle.std.specs.Prelude.{List, [], length, map, ℕ, ◌+◌, ◌<◌, ◌∷◌, ◌≡◌}

-- the inlets as any runner's ends
abbrev pub inlets_of : Ends → List Intake
inlets_of e = map any_intake e.inlets.items

-- the clients' ends, as what they have posted
abbrev pub posted_by : Ends → List AnyPosting
posted_by e = map posting_of e.posters.items

-- to which inlet each of these ends belongs
abbrev pub places_of : List AnyPosting → List (List ℕ)
places_of ends = map (λ (p : AnyPosting). p.place) ends

-- Each client's end is one of the inlet that stands in its place, which is that of its event.
pub record AreAt (events places_in : List ℕ) (places : List (List ℕ)) (inlets : List Intake) : Type 0 where
  pub many : length places ≡ length events
  pub as_many : length places_in ≡ length events
  pub inside : (c : ℕ) → c < length events → slice_index_or places_in c 0 < length inlets
  pub event_is : (c : ℕ) (d : Intake) → c < length events
      → (slice_index_or inlets (slice_index_or places_in c 0) d).event ≡ event_of events c
  pub place_is : (c : ℕ) (d : Intake) → c < length events
      → (slice_index_or inlets (slice_index_or places_in c 0) d).place ≡ slice_index_or places c []

-- there is an inlet of each event that has a client, and nobody has posted
pub record AreEnds (events : List ℕ) (e : Ends) : Type 0 where
  pub are_for : AreFor events (inlets_of e)
  pub new : All (λ t. t ≡ fresh t.place t.event t.noted) (inlets_of e)
  pub at : AreAt events e.places.items (places_of (posted_by e)) (inlets_of e)
  pub posted : HavePosted (places_of (posted_by e)) [] (posted_by e)

-- of each of so many clients, its texts among these
abbrev pub all_texts : ℕ → List Arrival → List (List (List ℕ))
all_texts clients arrivals = map (λ c. texts_by c arrivals) (range_with_len 0 clients)

-- how many lines of each client are left, by the inlet that stands in its place, counted from c
abbrev pub lefts_from : ℕ → List ℕ → List Intake → List ℕ
lefts_from c [] inlets = []
lefts_from c (k ∷ places) inlets = inlet_left c (slice_index_or inlets k nowhere) ∷ lefts_from (c + 1) places inlets
  where
    nowhere : Intake
    nowhere = record { place = []; event = 0; taken = []; finds = 0; noted = []; known = [] }
