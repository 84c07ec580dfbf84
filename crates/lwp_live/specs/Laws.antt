-- Laws of what clients are told, and of scripts with the lines that were posted.
use Rattle.event_gate.specs.Shelves.{event_of}
use Rattle.lwp_live.specs.Answers.{Known, answers_in, event_in, holder_of, known_after, nothing_known, replies_in}
use Rattle.lwp_live.specs.Input.{posts_of}
use Rattle.lwp_live.specs.Reading.{with_line}
use Rattle.lwp_live.specs.Recorded.{recorded, recorded_text, standing_of}
use Rattle.lwp_live.specs.declared.arrival.Arrival.{Arrival}
use Rattle.lwp_live.specs.declared.notes.Reply.{Reply}
use Rattle.lwp_serve.specs.Answers.Replies as Replies
use Rattle.lwp_types.specs.declared.call.Call.{Call}
use Rattle.lwp_types.specs.declared.call.Call.TheVariants as call
use Rattle.pod_runner.specs.Session as Sessions
use Rattle.pod_runner.specs.declared.session.Made.{Made}
use Rattle.pod_runner.specs.declared.session.Took.{Took}
use Rattle.script_session.specs.SoFar.{AreDue, session_at}
use Rattle.script_text.specs.Grammar.{Spells}
use Rattle.script_text.specs.Script.{lines_posted}
use Rattle.script_text.specs.declared.script.ExitStmt.{ExitStmt}
use Rattle.script_text.specs.declared.script.ExitStmt.TheVariants as exit
use Rattle.script_text.specs.declared.script.Post.{Post}
use Rattle.script_text.specs.declared.script.Proc.{Proc}
use Rattle.script_text.specs.declared.script.Script.{Script}
use Rattle.script_text.specs.declared.script.Stmt.{Stmt}
use Rattle.script_text.specs.declared.script.Stmt.TheVariants as stmt
use Rattle.std.specs.List.{AllByRecursion, filter, flat_map, fold}
use Rattle.std.specs.Prelude.{Bool, IfSome, IsTrue, List, None, Option, Some, [], eqb, is_none, is_some, length, not, take, true, ℕ, ◌++◌, ◌<◌, ◌||◌, ◌∷◌, ◌≡◌}

-- ---- answers and *Replies*

-- an agent is new, if the call has made one
abbrev pub is_fresh : Known → Option ℕ → Option ℕ → Bool
is_fresh known (Some e) (Some t) = is_none (event_in known.agents t)
is_fresh known None t = true
is_fresh known (Some e) None = true

-- a reply to an agent is to one that holds a line
abbrev pub is_held : Known → Call → Bool
is_held known (call.Reply t text) = is_none (event_in known.agents t) || is_some (holder_of known.takes (event_in known.agents t))
is_held known _ = true

-- what a call has to keep: an agent that it makes is new, and if it is a reply that was accepted, to an agent, that holds a
-- line
abbrev pub KeepsRules : Known → Option Made → Type 0
KeepsRules known None = Unit {0}
KeepsRules known (Some made) = IsTrue (is_fresh known (Replies.agent_event made.call) made.thread)
    × IsTrue (not made.zero || is_held known made.call)

-- what a take has to keep: it is of its client's event
abbrev pub IsOfItsEvent : List ℕ → Sessions.Made → Type 0
IsOfItsEvent clients step = IfSome step.take (λ took. event_of clients took.line.client ≡ took.event)

-- each of these steps, after what is known, keeps both
abbrev pub AllKeep : List ℕ → Known → List Sessions.Made → Type 0
AllKeep clients known [] = Unit {0}
AllKeep clients known (step ∷ steps) = IsOfItsEvent clients step
    × KeepsRules known (Replies.call_in step.take step.effects)
    × AllKeep clients (known_after known step) steps

-- the texts that clients of an event were told, each on a line
abbrev pub texts_told_on : List ℕ → ℕ → List Reply → List ℕ
texts_told_on clients e replies = flat_map (λ (r : Reply). r.text ++ 10 ∷ [])
    (filter (λ (r : Reply). eqb (event_of clients r.client) e) replies)

-- The answers to the clients of an event are the replies of that event, in steps in which each line taken is of its
-- client's event, an agent is new when it is made, and one that is replied to holds a line.
abbrev pub AnswersAreReplies : Type 0
AnswersAreReplies = (clients : List ℕ) (e : ℕ) (steps : List Sessions.Made) → AllKeep clients nothing_known steps
    → texts_told_on clients e (replies_in steps) ≡ Replies.replies_in (Some e) steps

-- What was told stays, whatever steps come: the answers of a session begin with those of each of its first parts.
abbrev pub AnswersGrow : Type 0
AnswersGrow = (steps more : List Sessions.Made) → (rest : List ℕ) × (answers_in (steps ++ more) ≡ answers_in steps ++ rest)

-- ---- scripts with the lines that were posted

-- the text of each line that the clients post is there
abbrev pub HasPostTexts : Script → Type 0
HasPostTexts script = AllByRecursion (λ (p : Post). p.text < length script.texts) script.posts

-- a script with these lines after its own posts its own lines, and then these
abbrev pub RecordedPosts : Type 0
RecordedPosts = (script : Script) (arrivals : List Arrival) → HasPostTexts script
    → lines_posted (recorded script arrivals) ≡ fold with_line (lines_posted script) arrivals

-- the text of what an exit procedure is to do is there, if it has one, where there are so many
abbrev pub IsExitWithin : ℕ → ExitStmt → Type 0
IsExitWithin n (exit.Reply to k) = k < n
IsExitWithin n (exit.Note k) = k < n
IsExitWithin n _ = Unit {0}

-- so is that of a statement
abbrev pub IsWithin : ℕ → Stmt → Type 0
IsWithin n (stmt.Send to room k) = k < n
IsWithin n (stmt.Reply to k) = k < n
IsWithin n (stmt.Say k) = k < n
IsWithin n (stmt.OnExit x) = IsExitWithin n x
IsWithin n _ = Unit {0}

-- and those of all statements of a script
abbrev pub HasTexts : Script → Type 0
HasTexts script = AllByRecursion (λ (p : Proc). AllByRecursion (IsWithin (length script.texts)) p.stmts) script.procs

-- With lines after its own a script has the same sessions: after the same takes and calls the pod stands as it does without
-- them, and the steps are the same; and each session that there is without them there is with them.
abbrev pub RecordedSessions : Type 0
RecordedSessions = (script : Script) (arrivals : List Arrival) → HasTexts script → (takes : List Took) (n : ℕ)
    → ((session_at (recorded script arrivals) takes n).live.pod ≡ (session_at script takes n).live.pod)
    × ((session_at (recorded script arrivals) takes n).steps ≡ (session_at script takes n).steps)
    × (AreDue script takes n → AreDue (recorded script arrivals) takes n)

-- The text of a script and the first of the posts of an input, each on a line of its own, spell the script with those posts.
abbrev pub RecordedSpelt : Type 0
RecordedSpelt = (text : List ℕ) (script : Script) (bytes : List ℕ) (count : ℕ) → Spells text script
    → Spells (recorded_text text (take count (posts_of (standing_of script text) bytes)))
    (recorded script (take count (posts_of (standing_of script text) bytes)))
