-- A session carries its client's commands to a store, and the store's replies back.
use Rattle.line_server.specs.Commands.{Command, command_of}
use Rattle.line_server.specs.Tables.{is_quit}
use Rattle.line_server.specs.Turns.{Turn, after_reply, kept-lengths, stops, with_names}
use Rattle.line_server.specs.declared.session.SessionPlace.{SessionPlace}
use Rattle.line_server.specs.declared.session.SessionPlace.TheVariants as at
use Rattle.lwp_types.specs.Names.{KeepsLengths, Names, id_at, null_id}
use Rattle.lwp_types.specs.Poll.{Next}
use Rattle.lwp_types.specs.declared.call.Answer.{Answer}
use Rattle.lwp_types.specs.declared.call.Answer.TheVariants as answer
use Rattle.lwp_types.specs.declared.call.Call.TheVariants as call
use Rattle.lwp_types.specs.declared.call.Mode.TheVariants as mode
use Rattle.std.specs.Prelude.{List, None, Option, Some, codes, if◌then◌else◌, ℕ}

-- a session: its event, and what it knows of the store and of its own agent
pub record SessionBody : Type 0 where
  pub event : ℕ
  -- the place of the store's name among the threads
  pub store : ℕ
  pub agent : ℕ
  -- what its last call was
  pub place : SessionPlace

-- a session at its start
abbrev pub session_opening : ℕ → ℕ → SessionBody
session_opening event store = record { event = event; store = store; agent = null_id; place = at.Start }

-- the session, after another call
abbrev pub session_at : SessionBody → SessionPlace → SessionBody
session_at body place = record body { place = place }

-- it waits for a line
abbrev pub session_receives : SessionBody → Turn SessionBody
session_receives body = (call.Recv (Some body.agent) mode.Block, session_at body at.Recv)

-- it is done
abbrev pub session_returns : SessionBody → Turn SessionBody
session_returns body = (call.Return, session_at body at.End)

-- it answers the line
abbrev pub session_replies : SessionBody → List ℕ → Turn SessionBody
session_replies body text = (call.Reply body.agent text, session_at body at.Reply)

-- a command goes to the store, and anything else is answered at once
abbrev pub session_sends : SessionBody → Names → List ℕ → Option Command → Turn SessionBody
session_sends body names text None = session_replies body (codes "bad")
session_sends body names text (Some c) = (call.Send (id_at names.threads body.store) 240 text, session_at body at.Send)

-- a line was received
abbrev pub session_reads : SessionBody → Names → List ℕ → Turn SessionBody
session_reads body names text = if is_quit text
    then (call.Reply body.agent (codes "bye"), session_at body at.Bye)
    else session_sends body names text (command_of text)

-- it has an agent now, or gives up
abbrev pub session_turn_after_agent : SessionBody → Answer → Turn SessionBody
session_turn_after_agent body (answer.Thread a) = session_receives (record body { agent = a })
session_turn_after_agent body (answer.Refused e) = session_returns body
session_turn_after_agent body _ = stops body

-- a line has come, or none ever will
abbrev pub session_turn_after_letter : SessionBody → Names → Answer → Turn SessionBody
session_turn_after_letter body names (answer.Letter from text room) = session_reads body names text
session_turn_after_letter body names (answer.Refused e) = session_returns body
session_turn_after_letter body names _ = stops body

-- the store has replied, or isn't there
abbrev pub session_turn_after_reply : SessionBody → Answer → Turn SessionBody
session_turn_after_reply body (answer.Reply text) = session_replies body text
session_turn_after_reply body (answer.Refused e) = session_replies body (codes "down")
session_turn_after_reply body _ = stops body

-- what it does next, by its last call
abbrev pub session_by : SessionBody → Names → Answer → SessionPlace → Turn SessionBody
session_by body names a at.Start = (call.Agent body.event, session_at body at.Agent)
session_by body names a at.Agent = session_turn_after_agent body a
session_by body names a at.Recv = session_turn_after_letter body names a
session_by body names a at.Send = session_turn_after_reply body a
session_by body names a at.Reply = after_reply body (session_receives body) a
session_by body names a at.Bye = after_reply body (session_returns body) a
session_by body names a at.End = stops body

-- the meaning of a session
unfoldable pub session_next : Next SessionBody
session_next body names a = with_names (session_by body names a body.place) names

pub session_next-keeps_lengths : (body : SessionBody) (names : Names) (a : Answer)
    → KeepsLengths names (session_next body names a).2
unfolding session_next
session_next-keeps_lengths body names a = kept-lengths names
