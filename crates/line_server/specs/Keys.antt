-- The built-in procedures as numbers.
use Rattle.keys.specs.Numbers.{counted, list_numbers, turned}
use Rattle.line_server.specs.Sessions.{SessionBody}
use Rattle.line_server.specs.Stores.{StoreBody}
use Rattle.line_server.specs.Tables.{Table}
use Rattle.line_server.specs.declared.session.SessionPlace.{SessionPlace}
use Rattle.line_server.specs.declared.session.SessionPlace.TheVariants as session
use Rattle.line_server.specs.declared.store.StorePlace.{StorePlace}
use Rattle.line_server.specs.declared.store.StorePlace.TheVariants as store
use Rattle.std.specs.Prelude.{List, [], ℕ, ◌++◌, ◌∷◌}

-- what a session's last call was, in the order of declaration
abbrev pub session_place_number : SessionPlace → ℕ
session_place_number session.Start = 0
session_place_number session.Agent = 1
session_place_number session.Recv = 2
session_place_number session.Send = 3
session_place_number session.Reply = 4
session_place_number session.Bye = 5
session_place_number session.End = 6

-- a session
abbrev pub session_numbers : SessionBody → List ℕ
session_numbers body = body.event ∷ body.store ∷ turned body.agent ∷ session_place_number body.place ∷ []

-- what a store's last call was, in the order of declaration
abbrev pub store_place_number : StorePlace → ℕ
store_place_number store.Start = 0
store_place_number store.Recv = 1
store_place_number store.Reply = 2
store_place_number store.Empty = 3

-- a key, and what a get of it is told
abbrev pub entry_numbers : List ℕ × List ℕ → List ℕ
entry_numbers entry = counted entry.0 ++ counted entry.1

-- a sender, and its table
abbrev pub table_numbers : ℕ × Table → List ℕ
table_numbers sent = sent.0 ∷ list_numbers entry_numbers sent.1

-- a store
abbrev pub store_numbers : StoreBody → List ℕ
store_numbers body = turned body.client ∷ store_place_number body.place ∷ list_numbers table_numbers body.tables
