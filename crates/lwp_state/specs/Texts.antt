-- What the program says on standard error.
use Rattle.script_session.specs.Texts.{reason_text}
use Rattle.script_session.specs.declared.session.SessionEnd.{SessionEnd}
use Rattle.script_session.specs.declared.session.SessionEnd.TheVariants as end
use Rattle.std.specs.Prelude.{List, [], codes, decimal, ℕ, ◌++◌}

-- what is said of an end, on a line of its own; nothing, where a text was written
abbrev pub fault_text : SessionEnd → List ℕ
fault_text end.Usage = codes "lwpstate: usage: plan [CALLS] | replay [LINE]\n"
fault_text end.ReadFault = codes "lwpstate: read fault\n"
fault_text end.WriteFault = codes "lwpstate: write fault\n"
fault_text (end.Script line why) = codes "lwpstate: script line " ++ decimal line ++ codes ": "
    ++ reason_text why ++ codes "\n"
fault_text end.NoMemory = codes "lwpstate: no memory\n"
fault_text (end.Input part) = codes "lwpstate: input part " ++ decimal part ++ codes "\n"
fault_text _ = []
