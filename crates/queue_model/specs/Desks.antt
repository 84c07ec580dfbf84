-- The thread that customers come to: what it holds, and what it does with each answer.
use Rattle.lwp_types.specs.TextFields.{is_text}
use Rattle.lwp_types.specs.declared.call.Answer.{Answer}
use Rattle.lwp_types.specs.declared.call.Answer.TheVariants as answer
use Rattle.lwp_types.specs.declared.call.Call.{Call}
use Rattle.lwp_types.specs.declared.call.Call.TheVariants as call
use Rattle.lwp_types.specs.declared.call.LwpErr.TheVariants as error
use Rattle.lwp_types.specs.declared.call.Mode.TheVariants as mode
use Rattle.queue_model.specs.Chance.{after_draw, ticks_drawn}
use Rattle.queue_model.specs.Stamps.{stamp, time_of}
use Rattle.queue_model.specs.Tallies.{after_arrival, after_begin, after_end, after_loss, capped, no_tally, summary}
use Rattle.queue_model.specs.Threads.{word_to_host}
use Rattle.queue_model.specs.declared.chance.Chance.{Chance}
use Rattle.queue_model.specs.declared.tally.Tally.{Tally}
use Rattle.std.specs.Prelude.{Bool, List, None, Option, Some, [], false, if◌then◌else◌, length, min, nat_lt, not, true, ℕ, ◌&&◌, ◌++◌, ◌-◌, ◌==◌, ◌∷◌}

pub record Desk : Type 0 where
  pub tally : Tally
  -- what time it is, when the next customer comes, and how many are still to come
  pub now : ℕ
  pub next : ℕ
  pub left : ℕ
  pub gaps : Chance
  -- when those came who wait, the oldest first, and how many may wait
  pub waiting : List ℕ
  pub room : ℕ
  -- the servers that are free, the one that has been free longest first, and how many serve
  pub free : List ℕ
  pub serving : ℕ
  -- the server that is still to be told to begin
  pub begins : Option ℕ
  -- the host was told that all were served
  pub closed : Bool

-- before its first call
abbrev pub opening : ℕ → Chance → ℕ → ℕ → Desk
opening customers gaps room width = record {
  tally = no_tally width;
  now = 0;
  next = ticks_drawn gaps;
  left = customers;
  gaps = after_draw gaps;
  waiting = [];
  room = room;
  free = [];
  serving = 0;
  begins = None;
  closed = false;
}

-- the customer who came then is served by this server from now on
abbrev pub after_start : ℕ → ℕ → Desk → Desk
after_start server came desk = record desk {
  tally = after_begin came desk.now desk.tally;
  serving = capped desk.serving 1;
  begins = Some server;
}

-- ---- a customer comes

-- it is the time at which the next one comes, and another comes later
abbrev pub coming : Desk → Desk
coming desk = record desk {
  now = desk.next;
  left = desk.left - 1;
  next = capped desk.next (ticks_drawn desk.gaps);
  gaps = after_draw desk.gaps;
  tally = after_arrival desk.next desk.tally;
}

-- who finds no server free waits, or is lost where the room is full
abbrev pub after_come_by : Desk → List ℕ → Desk
after_come_by desk [] = if nat_lt (length desk.waiting) desk.room
    then record desk { waiting = desk.waiting ++ desk.now ∷ [] }
    else record desk { tally = after_loss desk.tally }
after_come_by desk (server ∷ others) = after_start server desk.now (record desk { free = others })

abbrev pub after_come : Desk → Desk
after_come desk = after_come_by (coming desk) desk.free

-- ---- a server is free

-- it serves the customer who has waited longest, if one waits
abbrev pub after_offer_by : ℕ → Desk → List ℕ → Desk
after_offer_by server desk [] = record desk { free = desk.free ++ server ∷ [] }
after_offer_by server desk (came ∷ others) = after_start server came (record desk { waiting = others })

abbrev pub after_offer : ℕ → Desk → Desk
after_offer server desk = after_offer_by server desk desk.waiting

-- a server tells when it has ended; at first it says nothing
abbrev pub told_end : List ℕ → Desk → Desk
told_end [] desk = desk
told_end (byte ∷ bytes) desk = record desk {
  now = time_of (byte ∷ bytes);
  serving = desk.serving - 1;
  tally = after_end (time_of (byte ∷ bytes)) desk.tally;
}

-- ---- what it makes of an answer, and what it calls

-- a letter is a server's, and where none came in time, a customer does
abbrev pub heard : Answer → Desk → Desk
heard (answer.Letter from text room) desk = after_offer from (told_end text desk)
heard (answer.Refused error.Timeout) desk = after_come desk
heard _ desk = desk

-- what isn't a text is left out
abbrev pub as_text : List ℕ → List ℕ
as_text bytes = if is_text bytes then bytes else []

-- it tells the host what was counted
abbrev pub closes : Desk → Call × Desk
closes desk = (word_to_host (as_text (summary desk.tally)), record desk { closed = true })

-- nobody waits or is served
abbrev pub is_deserted : Desk → Bool
is_deserted desk = length desk.waiting == 0 && desk.serving == 0

-- it waits for the next customer, or for a server; once nobody comes, waits or is served any more, it says so
abbrev pub waits : Desk → Call × Desk
waits desk = if nat_lt 0 desk.left
    then (call.Recv None (mode.Until (min (desk.next - desk.now) 4294967295)), desk)
    else (if is_deserted desk && not desk.closed
    then closes desk
    else (call.Recv None mode.Block, desk))

-- first it tells a server to begin
abbrev pub calls_by : Desk → Option ℕ → Call × Desk
calls_by desk None = waits desk
calls_by desk (Some server) = (call.Reply server (stamp desk.now), record desk { begins = None })

-- its next call, and what it holds then
abbrev pub desk_next : Desk → Answer → Call × Desk
desk_next desk got = let after = heard got desk in calls_by after after.begins
