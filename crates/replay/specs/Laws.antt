-- That recorded lines leave no choice.
use Rattle.lwp_types.specs.declared.call.Line.{Line}
use Rattle.replay.specs.Asked.{Asked}
use Rattle.replay.specs.Recorded.{Agree}
use Rattle.replay.specs.Verdict.{take_text}
use Rattle.replay.specs.Walk.{Due, Forced, IsFit, IsNext, IsPeopled, Moment, Stands, after_move, move_lines, session_of}
use Rattle.trace_text.specs.Lines.{ended_line}
use Rattle.std.specs.Prelude.{List, None, Some, ℕ, ◌+◌}

-- where every session that begins with the first n recorded lines goes through this moment, and the next recorded line
-- is that of a take of some client's next line, every session that begins with one line more makes this take now
abbrev pub TheLinesForceTakes : Type 0 → Type 0
TheLinesForceTakes B = (asked : Asked B) → IsFit asked → IsPeopled asked.setting
    → (bytes : List ℕ) (n : ℕ) (p : Moment) (rest : List ℕ) → Stands asked bytes n p rest
    → (t : ℕ × Line) → IsNext asked p t
    → Agree 1 rest (ended_line (take_text (session_of asked.setting p).live.pod.state.now t.0 t.1))
    → Forced asked bytes (n + 1) (after_move p (Some t))

-- and where it is the first line of the next call, every such session makes this call now
abbrev pub TheLinesForceCalls : Type 0 → Type 0
TheLinesForceCalls B = (asked : Asked B) → IsFit asked → IsPeopled asked.setting
    → (bytes : List ℕ) (n : ℕ) (p : Moment) (rest : List ℕ) → Stands asked bytes n p rest
    → Due asked.setting p None → Agree 1 rest (move_lines asked.setting asked.procs p None)
    → Forced asked bytes (n + 1) (after_move p None)
