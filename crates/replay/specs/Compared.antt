-- What a recorded trace is compared with: the sessions of a program whose clients are those of a script.
use Rattle.lwp_types.specs.Names.{Names}
use Rattle.lwp_types.specs.Poll.{Next}
use Rattle.lwp_types.specs.declared.call.PodParams.{PodParams}
use Rattle.pod_runner.specs.Run.{Played}
use Rattle.replay.specs.Asked.{Asked}
use Rattle.replay.specs.Replayed.{asked_of}
use Rattle.script_text.specs.Script.{lines_posted}
use Rattle.script_text.specs.declared.script.Script.{Script}
use Rattle.std.specs.Prelude.{List, [], false, length, ℕ}

-- the pod: the script's greatest priority and limit on births, and as many procedures as the program has
abbrev pub params_for : Script → ℕ → PodParams
params_for script procs = record { maxpri = script.maxpri; births = script.births; procs = procs }

-- a run of a program before its first call
abbrev pub opening_of : {B P : Type 0} → (P → List B) → Script → P → Names → ℕ → Played P
opening_of bodies script program names turns =
    record {
      program = program;
      params = params_for script (length (bodies program));
      names = names;
      turns = turns;
      calls = 0;
      takes = [];
      failed = false;
    }

-- that program, with the clients of the script and the lines that they post
abbrev pub asked_for : {B P : Type 0} → Next B → (P → List B) → (P → List (List ℕ)) → Script → P → Names → ℕ → Asked B
asked_for next bodies proc_names script program names turns =
    asked_of next bodies proc_names (opening_of bodies script program names turns) script.clients (lines_posted script)
