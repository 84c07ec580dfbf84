-- The status of the program, and what it says on standard error.
use Rattle.lwp_explore.specs.declared.ending.Ending.{Ending}
use Rattle.lwp_explore.specs.declared.ending.Ending.TheVariants as ending
use Rattle.script_session.specs.Outcome.{status_of as status_of_end}
use Rattle.script_session.specs.Texts.{reason_text}
use Rattle.script_session.specs.declared.session.SessionEnd.{SessionEnd}
use Rattle.script_session.specs.declared.session.SessionEnd.TheVariants as end
use Rattle.std.specs.Prelude.{List, [], codes, decimal, ℕ, ◌++◌}

-- the status
abbrev pub status_of : Ending → ℕ
status_of ending.Well = 0
status_of ending.Told = 109
status_of ending.Cut = 110
status_of ending.Missing = 111
status_of (ending.Other e) = status_of_end e

-- what is said of an end that no search came to, on a line of its own
abbrev pub end_text : SessionEnd → List ℕ
end_text end.Usage = codes "lwpexplore: usage: ends [CORES] | trace K [CORES] | line LINE [CORES]\n"
end_text end.ReadFault = codes "lwpexplore: read fault\n"
end_text end.WriteFault = codes "lwpexplore: write fault\n"
end_text (end.Script line why) = codes "lwpexplore: script line " ++ decimal line ++ codes ": " ++ reason_text why ++ codes "\n"
end_text end.NoMemory = codes "lwpexplore: no memory\n"
end_text _ = []

-- what is said; nothing of what a search came to
abbrev pub fault_text : Ending → List ℕ
fault_text (ending.Other e) = end_text e
fault_text _ = []
