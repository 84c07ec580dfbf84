-- The numbers of built-in procedures tell them apart.
use Rattle.keys.specs.NumberLaws.{alone_is_code, also, counted_is_code, lists_of, made_of, numbered, turned_apart}
use Rattle.keys.specs.Numbers.{TellsApart, turned}
use Rattle.line_server.specs.Keys.{entry_numbers, session_numbers, session_place_number, store_numbers, store_place_number, table_numbers}
use Rattle.line_server.specs.Sessions.{SessionBody}
use Rattle.line_server.specs.Stores.{StoreBody, Tables}
use Rattle.line_server.specs.declared.session.SessionPlace.{SessionPlace}
use Rattle.line_server.specs.declared.session.SessionPlace.TheVariants as session
use Rattle.line_server.specs.declared.store.StorePlace.{StorePlace}
use Rattle.line_server.specs.declared.store.StorePlace.TheVariants as store
use Rattle.std.proofs.Common.{[], ap, refl, sym, ℕ, ◌∙◌, ◌∷◌, ◌≡◌}
use Rattle.std.specs.Prelude.{slice_index_or}

-- the place of a number, read back
abbrev session_place_at : ℕ → SessionPlace
session_place_at n =
    slice_index_or (session.Start ∷ session.Agent ∷ session.Recv ∷ session.Send ∷ session.Reply ∷ session.Bye ∷ session.End ∷ []) n session.Start

session_place_back : (p : SessionPlace) → session_place_at (session_place_number p) ≡ p
session_place_back session.Start = refl
session_place_back session.Agent = refl
session_place_back session.Recv = refl
session_place_back session.Send = refl
session_place_back session.Reply = refl
session_place_back session.Bye = refl
session_place_back session.End = refl

session_place_is_code : TellsApart (λ p. session_place_number p ∷ [])
session_place_is_code =
    numbered session_place_number (λ p q e. sym (session_place_back p) ∙ ap session_place_at e ∙ session_place_back q)

turned_is_code : TellsApart (λ n. turned n ∷ [])
turned_is_code = numbered turned turned_apart

-- what a session is made of
abbrev session_parts : SessionBody → ℕ × (ℕ × (ℕ × SessionPlace))
session_parts body = (body.event, (body.store, (body.agent, body.place)))

pub session_is_code : TellsApart session_numbers
session_is_code =
    made_of (also alone_is_code (also alone_is_code (also turned_is_code session_place_is_code)))
    session_parts (λ a b e i. record { event = (e i).0; store = (e i).1.0; agent = (e i).1.1.0; place = (e i).1.1.1 })

abbrev store_place_at : ℕ → StorePlace
store_place_at n = slice_index_or (store.Start ∷ store.Recv ∷ store.Reply ∷ store.Empty ∷ []) n store.Start

store_place_back : (p : StorePlace) → store_place_at (store_place_number p) ≡ p
store_place_back store.Start = refl
store_place_back store.Recv = refl
store_place_back store.Reply = refl
store_place_back store.Empty = refl

store_place_is_code : TellsApart (λ p. store_place_number p ∷ [])
store_place_is_code = numbered store_place_number (λ p q e. sym (store_place_back p) ∙ ap store_place_at e ∙ store_place_back q)

pub entry_is_code : TellsApart entry_numbers
entry_is_code = also counted_is_code counted_is_code

pub table_is_code : TellsApart table_numbers
table_is_code = also alone_is_code (lists_of entry_is_code)

-- what a store is made of
abbrev store_parts : StoreBody → ℕ × (StorePlace × Tables)
store_parts body = (body.client, (body.place, body.tables))

pub store_is_code : TellsApart store_numbers
store_is_code =
    made_of (also turned_is_code (also store_place_is_code (lists_of table_is_code)))
    store_parts (λ a b e i. record { client = (e i).0; place = (e i).1.0; tables = (e i).1.1 })
