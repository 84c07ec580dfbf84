-- What the program says on standard error.
use Rattle.script_session.specs.Texts.{reason_text}
use Rattle.script_session.specs.declared.session.SessionEnd.{SessionEnd}
use Rattle.script_session.specs.declared.session.SessionEnd.TheVariants as end
use Rattle.std.specs.Prelude.{List, [], codes, decimal, ℕ, ◌++◌}

-- what is said of an end, on a line of its own; nothing, where the pod has ended or no more calls are made
abbrev pub fault_text : SessionEnd → List ℕ
fault_text end.Usage = codes "lwplive: usage: SCRIPT [CALLS] [--record BASE]\n"
fault_text end.ReadFault = codes "lwplive: read fault\n"
fault_text end.WriteFault = codes "lwplive: write fault\n"
fault_text (end.Script line why) = codes "lwplive: script line " ++ decimal line ++ codes ": "
    ++ reason_text why ++ codes "\n"
fault_text end.NoMemory = codes "lwplive: no memory\n"
fault_text (end.Input part) = codes "lwplive: input part " ++ decimal part ++ codes "\n"
fault_text _ = []
