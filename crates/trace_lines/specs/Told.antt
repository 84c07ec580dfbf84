-- What the picture needs of an effect, and the laws that its line is read back so.
use Rattle.lwp_types.specs.Names.{null_id}
use Rattle.lwp_types.specs.declared.call.Answer.{Answer}
use Rattle.lwp_types.specs.declared.call.Answer.TheVariants as answer
use Rattle.lwp_types.specs.declared.call.Call.{Call}
use Rattle.lwp_types.specs.declared.call.Call.TheVariants as call
use Rattle.lwp_types.specs.declared.call.Effect.TheVariants as effect
use Rattle.lwp_types.specs.declared.call.ExitCall.{ExitCall}
use Rattle.lwp_types.specs.declared.call.ExitCall.TheVariants as exit
use Rattle.lwp_types.specs.declared.call.Line.{Line}
use Rattle.std.specs.Fmt.{decimal}
use Rattle.std.specs.Prelude.{Bool, IsTrue, List, None, Option, Some, codes, false, length, negsuc, pos, ℤ, true, ℕ, ◌++◌, ◌<◌, ◌==◌, ◌≡◌, ◌≤◌, ◌^◌}
use Rattle.trace_lines.specs.Entries.{entry_of}
use Rattle.trace_lines.specs.Words.{reach}
use Rattle.trace_lines.specs.declared.entry.Entry.TheVariants as entry
use Rattle.trace_lines.specs.declared.entry.Gain.{Gain}
use Rattle.trace_lines.specs.declared.entry.Gain.TheVariants as gain
use Rattle.trace_lines.specs.declared.entry.Verb.{Verb}
use Rattle.trace_lines.specs.declared.entry.Verb.TheVariants as verb
use Rattle.trace_text.specs.Lines.{line_text, proc_text}

-- what is called
abbrev pub verb_of_call : Call → Verb
verb_of_call (call.Create number prio flags) = verb.Create
verb_of_call (call.Destroy t) = verb.Destroy
verb_of_call (call.Suspend t) = verb.Suspend
verb_of_call (call.Resume t) = verb.Resume
verb_of_call (call.Join t) = verb.Join
verb_of_call (call.Sleep ticks) = verb.Sleep
verb_of_call (call.Send t room text) = verb.Send
verb_of_call (call.Recv from mode) = verb.Receive
verb_of_call (call.Enter m) = verb.Enter
verb_of_call (call.CondEnter m) = verb.CondEnter
verb_of_call (call.MonExit m) = verb.MonExit
verb_of_call (call.MonBreak m) = verb.MonBreak
verb_of_call (call.Wait c) = verb.Wait
verb_of_call (call.Agent e) = verb.Agent
verb_of_call (call.OnExit x) = verb.OnExit
verb_of_call (call.Say text) = verb.Say
verb_of_call _ = verb.Other

abbrev pub somebody : Option ℕ → ℕ
somebody None = null_id
somebody (Some t) = t

-- whom or what it names
abbrev pub target_of_call : Call → ℕ
target_of_call (call.Destroy t) = t
target_of_call (call.Suspend t) = t
target_of_call (call.Resume t) = t
target_of_call (call.Join t) = t
target_of_call (call.Send t room text) = t
target_of_call (call.Recv from mode) = somebody from
target_of_call (call.Enter m) = m
target_of_call (call.CondEnter m) = m
target_of_call (call.MonExit m) = m
target_of_call (call.MonBreak m) = m
target_of_call (call.Wait c) = c
target_of_call (call.Agent e) = e
target_of_call _ = null_id

-- whether a new thread begins suspended
abbrev pub is_created_suspended : Call → Bool
is_created_suspended (call.Create number prio flags) = flags.suspended
is_created_suspended _ = false

-- a procedure's name has no space
abbrev pub IsOneWord : List ℕ → Type 0
IsOneWord name = reach 32 name ≡ length name

-- the numbers of the call fit their types, and the name of a new thread's procedure is a word
abbrev pub IsPrinted : List (List ℕ) → Call → Type 0
IsPrinted procs (call.Create number prio flags) = IsOneWord (proc_text procs number) × (prio < 2 ^ 32)
IsPrinted procs c = target_of_call c ≤ null_id

-- a call of a thread is read back
abbrev pub CallsAreRead : List (List ℕ) → Option Line → ℕ → Call → Type 0
CallsAreRead procs took t c = t < null_id → IsPrinted procs c
    → entry_of (line_text procs took (effect.Called t c))
    ≡ Some (entry.Called t (verb_of_call c) (target_of_call c) (is_created_suspended c))

abbrev pub gain_in_value : ℤ → Gain
gain_in_value (pos n) = gain.Value n
gain_in_value (negsuc n) = gain.Other

-- what a thread is answered
abbrev pub gain_in_answer : Answer → Gain
gain_in_answer (answer.Value v) = gain_in_value v
gain_in_answer (answer.Thread t) = gain.Thread t
gain_in_answer (answer.Letter from text room) = gain.Letter from
gain_in_answer (answer.Reply text) = gain.Reply
gain_in_answer (answer.Caught depth mark p) = gain.Caught
gain_in_answer (answer.Refused e) = gain.Refused
gain_in_answer _ = gain.Other

-- the numbers of the answer fit their types, and a new thread is somebody
abbrev pub IsAnswer : Answer → Type 0
IsAnswer (answer.Value (pos n)) = n < 2 ^ 63
IsAnswer (answer.Thread t) = t < null_id
IsAnswer (answer.Letter from text room) = from ≤ null_id
IsAnswer _ = Unit {0}

-- an answer is read back
abbrev pub AnswersAreRead : List (List ℕ) → Option Line → ℕ → Answer → Type 0
AnswersAreRead procs took t a = t < null_id → IsAnswer a
    → entry_of (line_text procs took (effect.Answered t a)) ≡ Some (entry.Answered t (gain_in_answer a))

-- a death is read back
abbrev pub DeathsAreRead : List (List ℕ) → Option Line → ℕ → Type 0
DeathsAreRead procs took t = t < null_id → entry_of (line_text procs took (effect.Died t)) ≡ Some (entry.Died t)

-- what an exit procedure does
abbrev pub exit_verb : ExitCall → Verb
exit_verb (exit.MonExit m) = verb.MonExit
exit_verb (exit.MonBreak m) = verb.MonBreak
exit_verb (exit.Resume t) = verb.Resume
exit_verb _ = verb.Other

abbrev pub exit_target : ExitCall → ℕ
exit_target (exit.MonExit m) = m
exit_target (exit.MonBreak m) = m
exit_target (exit.Resume t) = t
exit_target _ = null_id

abbrev pub is_refused : Answer → Bool
is_refused (answer.Refused e) = true
is_refused _ = false

-- what becomes of an exit procedure: it is done, or refused
abbrev pub is_outcome : Answer → Bool
is_outcome (answer.Value (pos n)) = n == 0
is_outcome (answer.Refused e) = true
is_outcome _ = false

-- an exit procedure is read back, with what becomes of it
abbrev pub ExitsAreRead : List (List ℕ) → Option Line → ℕ → ℕ → ExitCall → Answer → Type 0
ExitsAreRead procs took t reg x a = reg < 2 ^ 64 → exit_target x ≤ null_id → IsTrue (is_outcome a)
    → entry_of (line_text procs took (effect.Exited t reg x a))
    ≡ Some (entry.Exited reg (exit_verb x) (exit_target x) (is_refused a))

-- a line that was taken is read back
abbrev pub EventsAreRead : List (List ℕ) → Line → ℕ → ℕ → Type 0
EventsAreRead procs line agent e = e < 2 ^ 8 → line.client < 2 ^ 8 → line.seq < 2 ^ 32
    → entry_of (line_text procs (Some line) (effect.Delivered agent e)) ≡ Some (entry.Event e line.client line.seq)

-- a later delivery of a step is read back as its agent
abbrev pub AlsoIsRead : List (List ℕ) → ℕ → ℕ → Type 0
AlsoIsRead procs agent e = agent < null_id
    → entry_of (line_text procs None (effect.Delivered agent e)) ≡ Some (entry.Also agent)

-- a tick is read back, with the line that was taken for it
abbrev pub TicksAreRead : List (List ℕ) → Line → ℕ → Type 0
TicksAreRead procs line now = now < 2 ^ 64 → line.client < 2 ^ 8 → line.seq < 2 ^ 32
    → entry_of (line_text procs (Some line) (effect.Ticked now)) ≡ Some (entry.Tick now line.client line.seq)

-- a trap that is raised is read back
abbrev pub TrapsAreRead : List (List ℕ) → Option Line → ℕ → ℕ → Type 0
TrapsAreRead procs took t e = t < null_id → e < 2 ^ 8
    → entry_of (line_text procs took (effect.Trapped t e)) ≡ Some (entry.Trapped t e)

-- a report is read back as its agent and the dead
abbrev pub RitesAreRead : List (List ℕ) → Option Line → ℕ → ℕ → Type 0
RitesAreRead procs took agent dead = agent < null_id → dead < null_id
    → entry_of (line_text procs took (effect.Rites agent dead)) ≡ Some (entry.Rites agent dead)

-- the lines after the last step are read back; each is what `end_text` prints, without its newline
pub record EndsAreRead : Type 0 where
  pub pod : (procs : List (List ℕ)) (took : Option Line) (status : ℕ)
      → entry_of (line_text procs took (effect.Ended status)) ≡ Some entry.Closing
  pub stuck : entry_of (codes "stuck") ≡ Some entry.Closing
  pub spent : (turns : ℕ) → entry_of (codes "spent " ++ decimal turns) ≡ Some entry.Closing
  pub left : (client count : ℕ)
      → entry_of (codes "left client " ++ (decimal client ++ (codes " " ++ decimal count))) ≡ Some entry.Closing
