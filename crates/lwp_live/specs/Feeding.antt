-- A run of any program that is fed while it goes on: what it has come to, over the lines that were posted.
use Rattle.event_gate.specs.History.{IsClientHistory}
use Rattle.event_gate.specs.Shelves.{full_shelves}
use Rattle.lwp_live.specs.Input.{Standing, post_line, posts_of, said_of}
use Rattle.lwp_live.specs.Reading.{AreWritten, lines_of_posts}
use Rattle.lwp_live.specs.Answers.{answers_in}
use Rattle.lwp_live.specs.Telling.{steps_of}
use Rattle.lwp_live.specs.declared.arrival.Arrival.{Arrival}
use Rattle.lwp_live.specs.declared.program.Fed.{Fed}
use Rattle.lwp_live.specs.declared.reader.Supply.{Supply}
use Rattle.lwp_live.specs.declared.stop.Stop.{Stop}
use Rattle.lwp_live.specs.declared.stop.Stop.TheVariants as stop
use Rattle.lwp_types.specs.Poll.{Next}
use Rattle.lwp_types.specs.Streams.{AppendsPrefix, after_append}
use Rattle.lwp_types.specs.declared.call.Line.{Line}
use Rattle.pod_runner.specs.Due.{IsDefined}
use Rattle.pod_runner.specs.Over.{is_wanted, over}
use Rattle.pod_runner.specs.Session.{Made}
use Rattle.pod_runner.specs.Run.{AppendsCut, GoesOn, Played, session_of, setting_of, trace_before, trace_of}
use Rattle.script_session.specs.History.{counts_from, pairs_of}
use Rattle.streams.specs.Streams.{IsFaultless, IsFaulty, Stream, sides}
use Rattle.std.specs.List.{flat_map}
use Rattle.trace_text.specs.Lines.{end_text}
use Rattle.trace_text.specs.declared.ends.Halt.{Halt}
use Rattle.trace_text.specs.declared.ends.Halt.TheVariants as halts
use Rattle.std.specs.Prelude.{Err, List, Ok, OnErr, OnOk, Option, Result, Some, [], false, length, take, ℕ, ◌++◌, ◌-◌, ◌≡◌, ◌≤◌, ◌⊎◌}

-- a sink of answers has failed only where that is what stopped the run
abbrev pub AnswersEnd : {T : Type 0} → Stream → Result T Stop → Type 0
AnswersEnd answers (Ok x) = IsFaultless answers
AnswersEnd answers (Err stop.NoMemory) = IsFaultless answers
AnswersEnd answers (Err stop.TraceFault) = IsFaultless answers
AnswersEnd answers (Err stop.AnswerFault) = IsFaulty answers
AnswersEnd answers (Err stop.RecordFault) = IsFaultless answers

-- what a sink of answers has taken of a run with these steps: all that they tell, or after an error the first part
pub record IsAnswered {T : Type 0} (answers : Stream) (steps : List Made) (result : Result T Stop) : Type 0 where
  pub whole : OnOk result (answers.new ≡ after_append answers.old (answers_in steps))
  pub part : OnErr result (AppendsPrefix answers.old answers.new (answers_in steps))
  pub cause : AnswersEnd answers result

module _ {B P : Type 0} (next : Next B) (bodies : P → List B) (proc_names : P → List (List ℕ)) where
  -- There is such a session: each call and each take was due, and no more calls were made than are allowed. Of each
  -- client, the lines taken are the first of those that were posted, in order, and then come those left.
  pub record IsFedSoFar (events : List ℕ) (posts : List Line) (run : Played P) (left : List Line) : Type 0 where
    pub made : IsDefined (setting_of next bodies run) run.takes run.calls
    pub room : run.calls ≤ run.turns
    pub history : IsClientHistory events posts (pairs_of run.takes) left

  -- with these lines left it is over, and has ended so
  abbrev pub EndsWith : List ℕ → Played P → List Line → Halt → Type 0
  EndsWith events run left halt = over run.turns (session_of next bodies run).live.pod run.calls (full_shelves events left)
      ≡ Some halt

  -- the lines of its steps, and then its end
  abbrev pub told_to_end : List ℕ → Played P → List Line → Halt → List ℕ
  told_to_end events run left halt = trace_of next bodies proc_names run
      ++ end_text run.turns (counts_from 0 events left) halt

  -- to its end, whole and nothing else; where it is stuck, no line that is left could be taken
  pub record IsFedOut (events : List ℕ) (posts : List Line) (trace : Stream) (run : Played P) (halt : Halt) : Type 0 where
    pub left : List Line
    pub so_far : IsFedSoFar events posts run left
    pub halted : EndsWith events run left halt
    pub written : trace.new ≡ after_append trace.old (told_to_end events run left halt)
    pub stuck : halt ≡ halts.Stuck
        → is_wanted (session_of next bodies run).live.pod (full_shelves events left) ≡ false

  -- it stopped between two steps
  pub record IsFedStopped (events : List ℕ) (posts : List Line) (trace : Stream) (run : Played P) : Type 0 where
    pub left : List Line
    pub so_far : IsFedSoFar events posts run left
    pub written : trace.new ≡ after_append trace.old (trace_of next bodies proc_names run)

  -- it broke off in a write of the trace, in the lines of its last step; or in what stands after them, where all lines were
  -- posted
  pub record IsFedBroken (events : List ℕ) (posts : List Line) (all : Type 0) (trace : Stream) (run : Played P) : Type 0 where
    pub left : List Line
    pub so_far : IsFedSoFar events posts run left
    pub cut : AppendsCut trace.old trace.new (trace_before next bodies proc_names run) (trace_of next bodies proc_names run)
        ⊎ (all × (halt : Halt) × EndsWith events run left halt
        × AppendsCut trace.old trace.new (trace_of next bodies proc_names run) (told_to_end events run left halt))

  -- what each end says
  abbrev pub FedSays : List ℕ → List Line → Type 0 → Stream → Played P → Result Halt Stop → Type 0
  FedSays events posts all trace run (Ok halt) = IsFaultless trace × all × IsFedOut events posts trace run halt
  FedSays events posts all trace run (Err stop.TraceFault) = IsFaulty trace × IsFedBroken events posts all trace run
  FedSays events posts all trace run (Err _) = IsFaultless trace × IsFedStopped events posts trace run

  -- What a run comes to that begins as new, with these lines to be posted first, where the input has given these bytes
  -- and the desk stood so: the lines posted are the first of these and of the input's posts, and all of them if it comes to
  -- its own end.
  pub record HasFed (events : List ℕ) (s : Standing) (first : List Arrival) (bytes : List ℕ)
      (trace answers posts said : Stream) (old new : Played P) (halt : Result Halt Stop) : Type 0 where
    pub count : ℕ
    pub says : FedSays events (lines_of_posts (take count (first ++ posts_of s bytes)))
        (take count (first ++ posts_of s bytes) ≡ first ++ posts_of s bytes) trace new halt
    pub goes_on : GoesOn old new
    pub written : AreWritten posts.old posts.new (posts_of s bytes) (count - length first)
    pub all_written : OnOk halt (posts.new ≡ after_append posts.old (flat_map post_line (posts_of s bytes)))
    pub record_cause : halt ≡ Err stop.RecordFault → IsFaulty posts
    pub said_all : IsFaulty said ⊎ OnOk halt (said.new ≡ after_append said.old (said_of s bytes))
    pub answered : IsAnswered answers (steps_of next bodies new) halt

  -- the same of a supply, by what it tells
  abbrev pub HasFedFrom : {I Q C : Type 0} → (I → List ℕ) → (Q → Option (List ℕ)) → (Q → ℕ) → (C → Option (List ℕ)) → (C → ℕ)
      → List ℕ → Standing → List Arrival → Stream → Stream → Played P → Played P → Supply I Q C → Fed I Q C → Type 0
  HasFedFrom given written faults said misses events s first trace answers old new before fed = (bytes : List ℕ)
      × (given fed.supply.input ≡ given before.input ++ bytes)
      × HasFed events s first bytes trace answers (sides written faults before.posts fed.supply.posts)
      (sides said misses before.said fed.supply.said) old new fed.halt
