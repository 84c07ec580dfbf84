-- Two talks, worked out by hand. The session is thread 2, its agent 3, and another thread that sends to the store is 4.
use Rattle.answer_laws.specs.Talks.{Event, Event.Line, Event.OtherLetter, Event.OwnLetter, Event.SessionDies}
use Rattle.answer_laws.specs.Talks.{Event.SessionTurn, Event.StoreTurn, after_events, opening_talk}
use Rattle.lwp_types.specs.Names.{null_names}
use Rattle.std.specs.Prelude.{List, None, [], codes, ℕ, ◌++◌, ◌∷◌, ◌≡◌}

-- the session's turn, and the store's
abbrev pub session : Event
session = SessionTurn (null_names 1 0 0)

abbrev pub store : Event
store = StoreTurn None (null_names 1 0 0)

-- another's letter, and the store's reply
abbrev pub other : List ℕ → List Event
other text = OtherLetter 4 text 240 ∷ store ∷ store ∷ []

-- a line that is answered without the store, and one that goes to it
abbrev pub alone : List ℕ → List Event
alone text = Line text ∷ session ∷ session ∷ []

abbrev pub store_line : List ℕ → List Event
store_line text = Line text ∷ session ∷ OwnLetter ∷ store ∷ session ∷ session ∷ store ∷ []

-- after these events the session has received these lines, and its client was told so
abbrev pub Comes : List Event → List (List ℕ) → List (List ℕ) → Type 0
Comes events lines told = ((after_events 2 3 (opening_talk 1 0) events).lines ≡ lines)
    × ((after_events 2 3 (opening_talk 1 0) events).told ≡ told)

-- both are at their start; another puts a key, and asks for it between the client's lines
abbrev pub talk_of_a : List Event
talk_of_a = store ∷ session ∷ session
    ∷ (other (codes "put k zz")
    ++ (store_line (codes "get k")
    ++ (other (codes "get k")
    ++ (alone (codes "what")
    ++ (store_line (codes "put k v") ++ (store_line (codes "get k") ++ alone (codes "quit")))))))

abbrev pub lines_of_a : List (List ℕ)
lines_of_a = codes "get k" ∷ codes "what" ∷ codes "put k v" ∷ codes "get k" ∷ codes "quit" ∷ []

abbrev pub answers_of_a : List (List ℕ)
answers_of_a = codes "none" ∷ codes "bad" ∷ codes "ok" ∷ codes "is v" ∷ codes "bye" ∷ []

-- the session dies while the store reads its second line
abbrev pub talk_of_b : List Event
talk_of_b = session ∷ session ∷ store
    ∷ (store_line (codes "del k") ++ Line (codes "get k") ∷ session ∷ OwnLetter ∷ SessionDies
    ∷ store ∷ session ∷ Line (codes "what") ∷ store ∷ [])

abbrev pub lines_of_b : List (List ℕ)
lines_of_b = codes "del k" ∷ codes "get k" ∷ []

abbrev pub answers_of_b : List (List ℕ)
answers_of_b = codes "none" ∷ []
