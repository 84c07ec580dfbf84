-- The thread that keeps items: what it holds, and what it does with each letter.
use Rattle.lwp_types.specs.declared.call.Answer.{Answer}
use Rattle.lwp_types.specs.declared.call.Answer.TheVariants as answer
use Rattle.lwp_types.specs.declared.call.Call.{Call}
use Rattle.lwp_types.specs.declared.call.Call.TheVariants as call
use Rattle.lwp_types.specs.declared.call.Flags.{Flags}
use Rattle.lwp_types.specs.declared.call.Mode.TheVariants as mode
use Rattle.std.specs.Prelude.{List, None, [], false, if◌then◌else◌, length, nat_lt, ℕ, ◌++◌, ◌+◌, ◌-◌, ◌==◌, ◌∷◌}

-- a thread, and a text for it or from it
abbrev pub Letter : Type 0
Letter = ℕ × List ℕ

pub record Buffer : Type 0 where
  -- how many of the other threads it is to create, and how many it has created
  pub crew : ℕ
  pub created : ℕ
  -- how many items it may hold, and those that it holds, the oldest first
  pub room : ℕ
  pub items : List (List ℕ)
  -- the producers whose item found no room, with the item
  pub waiting : List Letter
  -- the consumers that found no item
  pub asking : List ℕ
  -- the replies that it has still to make
  pub replies : List Letter
  -- how many items are still to be handed out
  pub left : ℕ

-- ---- what it does with a letter

-- a reply is appended to those to be made
abbrev pub after_reply : ℕ → List ℕ → Buffer → Buffer
after_reply to text buffer = record buffer { replies = buffer.replies ++ (to, text) ∷ [] }

-- a producer hears that its item was taken
abbrev pub after_thank : ℕ → Buffer → Buffer
after_thank producer buffer = after_reply producer [] buffer

-- a consumer gets an item
abbrev pub after_hand : ℕ → List ℕ → Buffer → Buffer
after_hand consumer item buffer = after_reply consumer item (record buffer { left = buffer.left - 1 })

-- an item is appended to the others
abbrev pub after_store : List ℕ → Buffer → Buffer
after_store item buffer = record buffer { items = buffer.items ++ item ∷ [] }

-- an item for which nobody asks is stored where there is room; else its producer waits
abbrev pub after_keep : ℕ → List ℕ → Buffer → Buffer
after_keep producer item buffer = if nat_lt (length buffer.items) buffer.room
    then after_thank producer (after_store item buffer)
    else record buffer { waiting = buffer.waiting ++ (producer, item) ∷ [] }

-- an item comes: the consumer that has asked longest gets it, if one has
abbrev pub after_put_by : ℕ → List ℕ → Buffer → List ℕ → Buffer
after_put_by producer item buffer [] = after_keep producer item buffer
after_put_by producer item buffer (consumer ∷ others) =
    after_thank producer (after_hand consumer item (record buffer { asking = others }))

abbrev pub after_put : ℕ → List ℕ → Buffer → Buffer
after_put producer item buffer = after_put_by producer item buffer buffer.asking

-- there is room again: the item that has waited longest is stored, if one has
abbrev pub after_refill_by : Buffer → List Letter → Buffer
after_refill_by buffer [] = buffer
after_refill_by buffer (letter ∷ others) =
    after_thank letter.0 (after_store letter.1 (record buffer { waiting = others }))

abbrev pub after_refill : Buffer → Buffer
after_refill buffer = after_refill_by buffer buffer.waiting

-- a consumer asks: it gets the oldest item, or waits for one
abbrev pub after_get_by : ℕ → Buffer → List (List ℕ) → Buffer
after_get_by consumer buffer [] = record buffer { asking = buffer.asking ++ consumer ∷ [] }
after_get_by consumer buffer (item ∷ others) =
    after_refill (after_hand consumer item (record buffer { items = others }))

abbrev pub after_get : ℕ → Buffer → Buffer
after_get consumer buffer = after_get_by consumer buffer buffer.items

-- an empty letter asks for an item, any other is one
abbrev pub after_take_letter : ℕ → List ℕ → Buffer → Buffer
after_take_letter from [] buffer = after_get from buffer
after_take_letter from (byte ∷ bytes) buffer = after_put from (byte ∷ bytes) buffer

-- what it makes of an answer: only letters tell it something
abbrev pub after_answer : Answer → Buffer → Buffer
after_answer (answer.Letter from text room) buffer = after_take_letter from text buffer
after_answer _ buffer = buffer

-- ---- what it calls

-- a thread like any other
abbrev pub plain : Flags
plain = record { suspended = false; nolastrites = false; server = false }

-- with no reply to be made, it waits for a letter, until all items were handed out
abbrev pub rests : Buffer → Call × Buffer
rests buffer = (if buffer.left == 0 then call.Return else call.Recv None mode.Block, buffer)

-- the first reply is made, if there is one
abbrev pub replies_or_rests : Buffer → List Letter → Call × Buffer
replies_or_rests buffer [] = rests buffer
replies_or_rests buffer (letter ∷ others) = (call.Reply letter.0 letter.1, record buffer { replies = others })

-- first it creates the others, one of each procedure in turn
abbrev pub calls : Buffer → Call × Buffer
calls buffer = if nat_lt buffer.created buffer.crew
    then (call.Create (buffer.created + 1) 1 plain, record buffer { created = buffer.created + 1 })
    else replies_or_rests buffer buffer.replies

-- its next call, and what it holds then
abbrev pub buffer_next : Buffer → Answer → Call × Buffer
buffer_next buffer got = calls (after_answer got buffer)

-- before its first call: it is to create so many threads, holds at most `room` items, and hands out `left` in all
abbrev pub opening : ℕ → ℕ → ℕ → Buffer
opening crew room left =
    record { crew = crew; created = 0; room = room; items = []; waiting = []; asking = []; replies = []; left = left }
