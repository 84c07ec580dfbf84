-- A run goes on to its end once its reader has ended.
use Rattle.event_gate.specs.Inlet.{Intake}
use Rattle.lwp_live.specs.Outside.{lefts_from}
use Rattle.lwp_live.specs.Telling.{as_run}
use Rattle.lwp_live.specs.declared.stop.Stop.{Stop}
use Rattle.lwp_live.specs.declared.stop.Stop.TheVariants as stop
use Rattle.lwp_types.specs.Poll.{Next}
use Rattle.pod_runner.specs.Due.{IsDefined}
use Rattle.pod_runner.specs.Live.{Draws, Halts, may_lose}
use Rattle.pod_runner.specs.Run.{GoesOn, Played, WritesCut, Wrote, setting_of, trace_before, trace_of}
use Rattle.streams.specs.Streams.{IsFaulty, Stream}
use Rattle.trace_text.specs.Lines.{end_text}
use Rattle.trace_text.specs.declared.ends.Halt.{Halt}
use Rattle.std.specs.Prelude.{Err, IfOk, List, Ok, Result, ℕ, ◌++◌, ◌≤◌, ◌⊎◌}

module _ {B P : Type 0} (next : Next B) (bodies : P → List B) (proc_names : P → List (List ℕ)) where
  -- the lines of its steps, and then its end, with so many lines left of each client
  abbrev pub trace_to_end : ℕ → List ℕ → Played P → Halt → List ℕ
  trace_to_end turns left run halt = trace_of next bodies proc_names run ++ end_text turns left halt

  -- it broke off in the lines of its last step, or in what stands after them
  abbrev pub BreaksOff : ℕ → List ℕ → Stream → Played P → Played P → List Intake → Type 0
  BreaksOff turns left trace old new after = WritesCut trace.old trace.new (trace_of next bodies proc_names old)
      (trace_before next bodies proc_names new) (trace_of next bodies proc_names new)
      ⊎ ((halt : Halt) × Halts next bodies new after halt
      × WritesCut trace.old trace.new (trace_of next bodies proc_names old)
      (trace_of next bodies proc_names new) (trace_to_end turns left new halt))

  -- what was written of it, by how it has ended
  abbrev pub WritesEnd : ℕ → List ℕ → Stream → Played P → Played P → List Intake → Result Halt Stop → Type 0
  WritesEnd turns left trace old new after (Ok halt) =
      Wrote trace (trace_of next bodies proc_names old) (trace_to_end turns left new halt)
  WritesEnd turns left trace old new after (Err stop.NoMemory) =
      Wrote trace (trace_of next bodies proc_names old) (trace_of next bodies proc_names new)
  WritesEnd turns left trace old new after (Err stop.TraceFault) = BreaksOff turns left trace old new after × IsFaulty trace
  WritesEnd turns left trace old new after (Err stop.AnswerFault) =
      Wrote trace (trace_of next bodies proc_names old) (trace_of next bodies proc_names new)
  WritesEnd turns left trace old new after (Err stop.RecordFault) =
      Wrote trace (trace_of next bodies proc_names old) (trace_of next bodies proc_names new)

  -- A run has gone on by what its inlets gave, to its end unless an error came; the inlet of each client stands in one of
  -- these places.
  pub record RunsOut (turns : ℕ) (places : List ℕ) (trace : Stream) (old new : Played P) (before after : List Intake)
      (result : Result Halt Stop) : Type 0 where
    pub same : GoesOn old new
    pub made : IsDefined (setting_of next bodies new) new.takes new.calls
    pub room : new.calls ≤ new.turns
    pub draws : Draws next bodies old new before after (may_lose (as_run result))
    pub halts : IfOk result (Halts next bodies new after)
    pub told : WritesEnd turns (lefts_from 0 places after) trace old new after result
