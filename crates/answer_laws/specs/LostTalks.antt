-- A session and its store as they talk, until the store dies: what the client is told then.
use Rattle.answer_laws.specs.Talks.{AreFirst, Event, Mail.Nothing, Stand, Stand.AwaitsReply, Stand.Hears, Stand.IsOver, Talk}
use Rattle.answer_laws.specs.Talks.{after_events, opening_talk, talk_on}
use Rattle.line_server.specs.Commands.{Command, command_of}
use Rattle.line_server.specs.Tables.{is_quit, replies}
use Rattle.lwp_types.specs.Unblock.{nonexist}
use Rattle.std.specs.List.{before_first, fold, list_any}
use Rattle.std.specs.Prelude.{List, None, Option, Some, [], codes, drop, if◌then◌else◌, length, map, take, ℕ, ◌+◌, ◌++◌, ◌∷◌, ◌≤◌}

-- what a line is answered once the store is gone: a command can't be carried out, and anything else is none, as before
abbrev pub lost_answer : Option Command → List ℕ
lost_answer None = codes "bad"
lost_answer (Some c) = codes "down"

abbrev pub lost_answers : List (List ℕ) → List (List ℕ)
lost_answers texts = map (λ text. lost_answer (command_of text)) texts

-- what a client's lines are answered, up to and with the first `quit`: the first n by the table, and the others without
abbrev pub answers_till : ℕ → List (List ℕ) → List (List ℕ)
answers_till n texts = replies [] (take n (before_first is_quit texts))
    ++ (lost_answers (drop n (before_first is_quit texts)) ++ (if list_any is_quit texts then codes "bye" ∷ [] else []))

-- who waits for a reply of the store is told that it isn't there
abbrev pub without_reply : Stand → Stand
without_reply AwaitsReply = Hears nonexist
without_reply stand = stand

-- the store is gone, and the session's letter with it
abbrev pub store_lost : Talk → Talk
store_lost talk = record talk { client = without_reply talk.client; keeper = IsOver; mail = Nothing }

-- something happens after that: what the session sends is refused at once
abbrev pub lost_on : ℕ → ℕ → Talk → Event → Talk
lost_on s a talk e = store_lost (talk_on s a talk e)

-- the store dies, and then these happen in turn
abbrev pub after_loss : ℕ → ℕ → Talk → List Event → Talk
after_loss s a talk events = fold (lost_on s a) (store_lost talk) events

-- Of the lines that the session received before its store died, the table answers all, or all but the last; and what the
-- client is told in all is a first part of these answers, and of those without a store.
pub record IsAnsweredTillLost (before after : Talk) : Type 0 where
  pub carried : ℕ
  pub most : carried ≤ length before.lines
  pub least : length before.lines ≤ carried + 1
  pub first : AreFirst after.told (answers_till carried after.lines)

-- So it is whatever happens before the store dies and after.
abbrev pub LostTalksAreAnswers : Type 0
LostTalksAreAnswers = (s a event store : ℕ) (before after : List Event)
    → IsAnsweredTillLost (after_events s a (opening_talk event store) before)
    (after_loss s a (after_events s a (opening_talk event store) before) after)
