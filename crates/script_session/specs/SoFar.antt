-- A session of a script, and a run of it before its first call.
use Rattle.script_body.specs.Bodies.{bodies_of, body_next}
use Rattle.script_body.specs.declared.thread_body.ThreadBody.{ThreadBody}
use Rattle.lwp_types.specs.Names.{null_names, Names}
use Rattle.pod_runner.specs.Session.{Setting}
use Rattle.pod_runner.specs.declared.session.Took.{Took}
use Rattle.script_text.specs.Script.{lines_posted, params_of, proc_names}
use Rattle.script_text.specs.declared.script.Script.{Script}
use Rattle.std.specs.Prelude.{List, length, ℕ, [], false}
use Rattle.script_session.specs.History.{pairs_of}
use Rattle.event_gate.specs.History.{IsClientHistory}
use Rattle.lwp_types.specs.declared.call.Line.{Line}
use Rattle.pod_runner.specs.Due.{IsDefined}
use Rattle.pod_runner.specs.Play.{play}
use Rattle.pod_runner.specs.Run.{Played, but_last}
use Rattle.pod_runner.specs.Session as Sessions
use Rattle.pod_runner.specs.Trace.{lines}

-- a script as a program of bodies
abbrev pub setting_of : Script → Setting ThreadBody
setting_of script = record {
  next = body_next;
  bodies = bodies_of script;
  params = params_of script;
  names = null_names (length script.names.threads) (length script.names.mons) (length script.names.conds);
}

-- the session of a script with these takes, after its first calls
abbrev pub session_at : Script → List Took → ℕ → Sessions.Session ThreadBody
session_at script takes n = play (setting_of script) takes n

-- there is such a session: at each call somebody's turn had come and the pod had not ended, at each take the event
-- could be delivered
abbrev pub AreDue : Script → List Took → ℕ → Type 0
AreDue script takes n = IsDefined (setting_of script) takes n

-- the lines of its steps
unfoldable pub lines_after : Script → List Took → ℕ → List ℕ
lines_after script takes n = lines (proc_names script) (session_at script takes n).steps

-- the lines of all its steps but the last
unfoldable pub lines_before : Script → List Took → ℕ → List ℕ
lines_before script takes n = lines (proc_names script) (but_last (session_at script takes n).steps)

-- of each client, the lines taken are its first, in order, and then come those left
abbrev pub IsHistory : Script → List Took → List Line → Type 0
IsHistory script takes left = IsClientHistory script.clients (lines_posted script) (pairs_of takes) left

-- a script's names, which mean nothing yet
abbrev pub opening_names : Script → Names
opening_names script = null_names (length script.names.threads) (length script.names.mons) (length script.names.conds)

-- the run, with so many turns allowed
abbrev pub opening_run : Script → ℕ → Played Script
opening_run script turns =
    record {
      program = script;
      params = params_of script;
      names = opening_names script;
      turns = turns;
      calls = 0;
      takes = [];
      failed = false;
    }
