-- What the program's calls say of a session.
use Rattle.script_session.specs.History.{taken_of}
use Rattle.script_session.specs.declared.session.Session.{Session}
use Rattle.script_session.specs.declared.session.SessionEnd.{SessionEnd}
use Rattle.script_session.specs.declared.session.SessionEnd.TheVariants as end
use Rattle.pod_runner.specs.declared.session.Took.{Took}
use Rattle.trace_text.specs.declared.ends.Halt.{Halt}
use Rattle.trace_text.specs.declared.ends.Halt.TheVariants as halt
use Rattle.std.specs.Prelude.{List, map, ℕ}

-- the exit status of the program, by the end
abbrev pub status_of : SessionEnd → ℕ
status_of (end.Ended status) = status
status_of end.Usage = 100
status_of end.ReadFault = 101
status_of end.WriteFault = 102
status_of (end.Script line reason) = 103
status_of end.Stuck = 104
status_of end.Spent = 105
status_of end.NoMemory = 106
status_of (end.Input part) = 108
status_of end.Reported = 0
status_of end.Same = 0
status_of (end.Differs line) = 107

-- a session of this end, with these lines taken and so many calls made
abbrev pub outcome_of : SessionEnd → List Took → ℕ → Session
outcome_of e takes turns = record { status = status_of e; end = e; taken = map taken_of takes; turns = turns }

-- the end of a session that has come to its end
abbrev pub end_of : Halt → SessionEnd
end_of (halt.Ended status) = end.Ended status
end_of halt.Stuck = end.Stuck
end_of halt.Spent = end.Spent
