-- What is said of a session that didn't go well.
use Rattle.script_session.specs.declared.session.SessionEnd.{SessionEnd}
use Rattle.script_session.specs.declared.session.SessionEnd.TheVariants as end
use Rattle.script_text.specs.declared.reason.Reason.{Reason}
use Rattle.script_text.specs.declared.reason.Reason.TheVariants as reason
use Rattle.std.specs.Prelude.{List, [], codes, decimal, ℕ, ◌++◌}

-- why a line is bad
abbrev pub reason_text : Reason → List ℕ
reason_text reason.TooLarge = codes "TooLarge"
reason_text reason.Unended = codes "Unended"
reason_text reason.Bytes = codes "Bytes"
reason_text reason.Header = codes "Header"
reason_text reason.Pod = codes "Pod"
reason_text reason.Limit = codes "Limit"
reason_text reason.Client = codes "Client"
reason_text reason.Native = codes "Native"
reason_text reason.Proc = codes "Proc"
reason_text reason.Post = codes "Post"
reason_text reason.Again = codes "Again"
reason_text reason.Statement = codes "Statement"
reason_text reason.Missing = codes "Missing"

-- what is said of an end, on a line of its own; nothing, where the pod has ended or no more calls are made
abbrev pub fault_text : SessionEnd → List ℕ
fault_text (end.Ended status) = []
fault_text end.Usage = codes "lwpserve: usage: run [TURNS] | plan [TURNS] | make SEED THREADS LINES\n"
fault_text end.ReadFault = codes "lwpserve: read fault\n"
fault_text end.WriteFault = codes "lwpserve: write fault\n"
fault_text (end.Script line why) = codes "lwpserve: script line " ++ decimal line ++ codes ": "
    ++ reason_text why ++ codes "\n"
fault_text end.Stuck = []
fault_text end.Spent = []
fault_text end.NoMemory = codes "lwpserve: no memory\n"
fault_text (end.Input part) = codes "lwpserve: input part " ++ decimal part ++ codes "\n"
fault_text end.Reported = []
fault_text end.Same = []
fault_text (end.Differs line) = []
