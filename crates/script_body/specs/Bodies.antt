-- The threads of a script: each runs a procedure of statements, or one of the two that are built in.
use Rattle.line_server.specs.Sessions.{session_next, session_opening}
use Rattle.line_server.specs.Stores.{store_next, store_opening}
use Rattle.script_body.specs.declared.thread_body.ThreadBody.{ThreadBody}
use Rattle.script_body.specs.declared.thread_body.ThreadBody.TheVariants.{Scripted, Serving, Storing}
use Rattle.lwp_types.specs.Poll.{Next, Polled}
use Rattle.script_body.specs.ScriptBody.{script_next, script_opening}
use Rattle.script_text.specs.declared.script.NativeKind.{NativeKind}
use Rattle.script_text.specs.declared.script.Proc.{Proc}
use Rattle.script_text.specs.declared.script.Script.{Script}
use Rattle.std.specs.Prelude.{List, [], map, ℕ, ◌++◌, ◌+◌, ◌∷◌}
use Rattle.script_text.specs.declared.script.NativeKind.TheVariants as native

-- what one kind of body gives, among all kinds
abbrev pub as_body : {B : Type 0} → (B → ThreadBody) → Polled B → Polled ThreadBody
as_body wrap reply = (reply.0, wrap reply.1, reply.2)

-- what each of them means
abbrev pub body_next : Next ThreadBody
body_next (Scripted body) names a = as_body Scripted (script_next body names a)
body_next (Serving body) names a = as_body Serving (session_next body names a)
body_next (Storing body) names a = as_body Storing (store_next body names a)

-- a built-in procedure at its start
abbrev pub native_body : NativeKind → ThreadBody
native_body native.Store = Storing store_opening
native_body (native.Session event store) = Serving (session_opening event store)

-- each procedure of statements at its start, with numbers from n on
abbrev pub proc_bodies : Script → ℕ → List Proc → List ThreadBody
proc_bodies script n [] = []
proc_bodies script n (p ∷ ps) = Scripted (script_opening script n) ∷ proc_bodies script (n + 1) ps

-- every procedure at its start, by number
abbrev pub bodies_of : Script → List ThreadBody
bodies_of script = proc_bodies script 0 script.procs ++ map (λ n. native_body n.kind) script.natives
