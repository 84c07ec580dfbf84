-- The names keep their lengths, whatever a thread runs.
use Rattle.script_body.specs.Bodies.{bodies_of, body_next, native_body, proc_bodies}
use Rattle.script_body.specs.declared.thread_body.ThreadBody.{ThreadBody}
use Rattle.script_body.specs.declared.thread_body.ThreadBody.TheVariants.{Scripted, Serving, Storing}
use Rattle.line_server.specs.Sessions.{session_next-keeps_lengths}
use Rattle.line_server.specs.Stores.{store_next-keeps_lengths}
use Rattle.lwp_types.specs.Names.{KeepsLengths, Names}
use Rattle.lwp_types.specs.declared.call.Answer.{Answer}
use Rattle.script_body.specs.NameLaws.{script_next-keeps_lengths}
use Rattle.std.specs.Prelude.{List, [], length, map, refl, slice_index_or, suc, ℕ, ◌+◌, ◌∷◌, ◌≡◌}
use Rattle.std.proofs.Common.{ap, arith, length-append}
use Rattle.std.proofs.lemmas.List.{length-map}
use Rattle.script_text.specs.Script.{proc_names, proc_places}
use Rattle.script_text.specs.declared.script.Proc.{Proc}
use Rattle.script_text.specs.declared.script.Script.{Script}

pub body_next-keeps_lengths : (body : ThreadBody) (names : Names) (a : Answer)
    → KeepsLengths names (body_next body names a).2
body_next-keeps_lengths (Scripted body) names a = script_next-keeps_lengths body names a
body_next-keeps_lengths (Serving body) names a = session_next-keeps_lengths body names a
body_next-keeps_lengths (Storing body) names a = store_next-keeps_lengths body names a

-- ---- the program of a script has as many names as bodies

pub length-proc_bodies : (script : Script) (n : ℕ) (ps : List Proc) → length (proc_bodies script n ps) ≡ length ps
length-proc_bodies script n [] = refl
length-proc_bodies script n (p ∷ ps) = ap suc (length-proc_bodies script (n + 1) ps)

pub as_many-of : (script : Script) → length (proc_names script) ≡ length (bodies_of script)
as_many-of script = omega (
  arith,
  length-map (proc_places script) (λ place. slice_index_or script.names.procs place []),
  length-append (map (λ p. p.name) script.procs) (map (λ n. n.name) script.natives),
  length-map script.procs (λ p. p.name),
  length-map script.natives (λ n. n.name),
  length-append (proc_bodies script 0 script.procs) (map (λ n. native_body n.kind) script.natives),
  length-proc_bodies script 0 script.procs,
  length-map script.natives (λ n. native_body n.kind),
)
