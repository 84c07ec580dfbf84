-- A store keeps a table for each thread that sends to it.
use Rattle.line_server.specs.Tables.{Table, ServedTable, replies, served_text}
use Rattle.line_server.specs.Turns.{Turn, after_reply, kept-lengths, stops, with_names}
use Rattle.line_server.specs.declared.store.StorePlace.{StorePlace}
use Rattle.line_server.specs.declared.store.StorePlace.TheVariants as at
use Rattle.lwp_types.specs.Names.{KeepsLengths, Names, null_id}
use Rattle.lwp_types.specs.Poll.{Next}
use Rattle.lwp_types.specs.declared.call.Answer.{Answer}
use Rattle.lwp_types.specs.declared.call.Answer.TheVariants as answer
use Rattle.lwp_types.specs.declared.call.Call.TheVariants as call
use Rattle.lwp_types.specs.declared.call.LwpErr.TheVariants as error
use Rattle.lwp_types.specs.declared.call.Mode.TheVariants as mode
use Rattle.std.specs.BTreeMap.{insert_entry, is_at}
use Rattle.std.specs.Map.{lookup}
use Rattle.std.specs.Ordering.{nat_cmp}
use Rattle.std.specs.Option.{unwrap_or}
use Rattle.std.specs.Prelude.{Bool, List, None, [], false, filter, if◌then◌else◌, map, nat_eq, true, ℕ, ◌≡◌, ◌∷◌}

-- the tables by their senders, in the order of these
abbrev pub Tables : Type 0
Tables = List (ℕ × Table)

-- a store: its tables, and whom it replies to
pub record StoreBody : Type 0 where
  pub tables : Tables
  pub client : ℕ
  -- what its last call was
  pub place : StorePlace

-- a store at its start
abbrev pub store_opening : StoreBody
store_opening = record { tables = []; client = null_id; place = at.Start }

-- the table of this sender; who never sent has an empty one
abbrev pub table_of : ℕ → Tables → Table
table_of x tables = unwrap_or (lookup (is_at (nat_cmp x)) tables) []

-- what a sender's text is told, and its table then
abbrev pub served_sender : ℕ → List ℕ → Tables → ServedTable
served_sender x text tables = served_text text (table_of x tables)

-- the tables then: no other sender's has changed
abbrev pub tables_after : ℕ → List ℕ → Tables → Tables
tables_after x text tables = insert_entry nat_cmp tables x (served_sender x text tables).table

-- it waits for anybody
abbrev pub store_receives : StoreBody → Turn StoreBody
store_receives body = (call.Recv None mode.Block, record body { place = at.Recv })

-- it replies to x, and keeps what became of x's table
abbrev pub store_tells : StoreBody → ℕ → List ℕ → Turn StoreBody
store_tells body x text = (
  call.Reply x (served_sender x text body.tables).reply,
  record { tables = tables_after x text body.tables; client = x; place = at.Reply },
)

-- a text was received
abbrev pub store_turn_after_letter : StoreBody → Answer → Turn StoreBody
store_turn_after_letter body (answer.Letter from text room) = store_tells body from text
store_turn_after_letter body (answer.Refused e) = store_receives body
store_turn_after_letter body _ = stops body

-- the reply was too long
abbrev pub is_invalid : Answer → Bool
is_invalid (answer.Refused error.InvalidArg) = true
is_invalid _ = false

-- a reply that is too long is made once more, empty
abbrev pub store_turn_after_reply : StoreBody → Answer → Turn StoreBody
store_turn_after_reply body a = if is_invalid a
    then (call.Reply body.client [], record body { place = at.Empty })
    else after_reply body (store_receives body) a

-- what it does next, by its last call
abbrev pub store_by : StoreBody → Answer → StorePlace → Turn StoreBody
store_by body a at.Start = store_receives body
store_by body a at.Recv = store_turn_after_letter body a
store_by body a at.Reply = store_turn_after_reply body a
store_by body a at.Empty = after_reply body (store_receives body) a

-- the meaning of a store
unfoldable pub store_next : Next StoreBody
store_next body names a = with_names (store_by body a body.place) names

pub store_next-keeps_lengths : (body : StoreBody) (names : Names) (a : Answer)
    → KeepsLengths names (store_next body names a).2
unfolding store_next
store_next-keeps_lengths body names a = kept-lengths names

-- ---- what one sender is told

-- a letter: its sender and its text
abbrev pub Letters : Type 0
Letters = List (ℕ × List ℕ)

-- the texts of this sender
abbrev pub texts_of : ℕ → Letters → List (List ℕ)
texts_of x letters = map (λ l. l.1) (filter (λ l. nat_eq x l.0) letters)

-- what this sender is told, where a store takes all these letters in turn
abbrev pub replies_among : ℕ → Tables → Letters → List (List ℕ)
replies_among x tables [] = []
replies_among x tables (l ∷ ls) =
    let later = replies_among x (tables_after l.0 l.1 tables) ls in
    if nat_eq x l.0 then (served_sender x l.1 tables).reply ∷ later else later

-- a sender is told what its own texts are told on its own table, whatever others send
abbrev pub SendersAreApart : Type 0
SendersAreApart = (x : ℕ) (tables : Tables) (letters : Letters)
    → replies_among x tables letters ≡ replies (table_of x tables) (texts_of x letters)
