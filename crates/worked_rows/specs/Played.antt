-- Sessions in which lines are taken later than they could be.
use Rattle.script_session.specs.SoFar.{setting_of}
use Rattle.pod_runner.specs.Due.{IsDefined, armed_calls}
use Rattle.pod_runner.specs.Play.{play}
use Rattle.pod_runner.specs.Trace.{lines}
use Rattle.pod_runner.specs.declared.session.Took.{Took}
use Rattle.script_text.specs.Script.{proc_names}
use Rattle.script_text.specs.declared.script.Script.{Script}
use Rattle.std.specs.Prelude.{List, None, Some, [], codes, ℕ, ◌≡◌, ◌∷◌}
use Rattle.worked_rows.specs.Words.{line, named, plain, pod, posted, procedure, speaking, took}
use Rattle.lwp_types.specs.declared.call.Mode.TheVariants as mode
use Rattle.script_text.specs.declared.script.Stmt.TheVariants as stmt
use Rattle.script_text.specs.declared.script.Who.TheVariants as who

-- with these takes and so many calls, a session of the script comes to these lines
abbrev pub Shows : Script → List Took → ℕ → List ℕ → Type 0
Shows script takes n text = lines (proc_names script) (play (setting_of script) takes n).steps ≡ text

-- there is such a session
abbrev pub Is : Script → List Took → ℕ → Type 0
Is script takes n = IsDefined (setting_of script) takes n

-- before these calls of it, by their numbers, a line of the event could be taken
abbrev pub Armed : Script → List Took → ℕ → ℕ → List ℕ → Type 0
Armed script takes n e calls = armed_calls (setting_of script) takes n e ≡ calls

-- An owner receives two letters of its agent, and replies to none.
--   lwp 1 / pod 1
--   client 0 5
--   proc main / agent g 5 / recv g wait / recv g wait
--   post 0 one / post 0 two
abbrev pub no_reply : Script
no_reply = posted (5 ∷ []) (line 0 0 (codes "one") ∷ line 0 1 (codes "two") ∷ [])
    (pod 1 (named (codes "main" ∷ []) (codes "g" ∷ []) [] [])
    (procedure 0 (stmt.Agent 0 5 ∷ stmt.Recv (Some (who.Named 0)) mode.Block
    ∷ stmt.Recv (Some (who.Named 0)) mode.Block ∷ [])
    ∷ []))

-- its first line
abbrev pub one : ℕ → Took
one turn = took turn 5 (line 0 0 (codes "one"))

-- its second line
abbrev pub two : ℕ → Took
two turn = took turn 5 (line 0 1 (codes "two"))

-- An owner waits for a thread by name, and not for its agent.
--   lwp 1 / pod 1
--   client 0 5
--   proc main / create a w 1 - / agent g 5 / recv a wait / recv any wait
--   proc w / say up / send first 9 hi
--   post 0 one
abbrev pub another_awaited : Script
another_awaited = posted (5 ∷ []) (line 0 0 (codes "one") ∷ [])
    (speaking (codes "up" ∷ codes "hi" ∷ [])
    (pod 1 (named (codes "main" ∷ codes "w" ∷ []) (codes "a" ∷ codes "g" ∷ []) [] [])
    (procedure 0 (stmt.Create 0 1 1 plain ∷ stmt.Agent 1 5
    ∷ stmt.Recv (Some (who.Named 0)) mode.Block ∷ stmt.Recv None mode.Block ∷ [])
    ∷ procedure 1 (stmt.Say 0 ∷ stmt.Send who.First 9 1 ∷ [])
    ∷ [])))
