-- What a script brings to a replay: a procedure at least, and names that mean nothing yet.
use Rattle.lwp_types.specs.Names.{Names, null_names}
use Rattle.pod_runner.specs.Run.{names_like}
use Rattle.script_body.specs.Bodies.{bodies_of, native_body, proc_bodies}
use Rattle.script_body.specs.BodyLaws.{length-proc_bodies}
use Rattle.script_session.specs.SoFar.{opening_names}
use Rattle.script_text.specs.Limits.{IsWithinLimits}
use Rattle.script_text.specs.declared.script.Script.{Script}
use Rattle.std.proofs.Common.{ap, arith, length, length-append, map, subst, sym, ℕ, ◌∙◌, ◌≡◌, ◌≤◌}
use Rattle.std.proofs.lemmas.List.{length-replicate}

pub some-bodies : (script : Script) → IsWithinLimits script → 1 ≤ length (bodies_of script)
some-bodies script within =
    omega (
      arith,
      within.some_procs,
      length-append (proc_bodies script 0 script.procs) (map (λ n. native_body n.kind) script.natives),
      length-proc_bodies script 0 script.procs,
    )

like-null : (threads mons conds : ℕ) → names_like (null_names threads mons conds) ≡ null_names threads mons conds
like-null threads mons conds =
    ap (λ n. null_names n (length (null_names threads mons conds).monitors) (length (null_names threads mons conds).conditions)) (length-replicate threads _)
    ∙ (ap (λ n. null_names threads n (length (null_names threads mons conds).conditions)) (length-replicate mons _)
    ∙ ap (λ n. null_names threads mons n) (length-replicate conds _))

pub like-opening : (script : Script) (names : Names) → names ≡ opening_names script → names ≡ names_like names
like-opening script names is =
    subst (λ (n : Names). n ≡ names_like n) (sym is) (sym (like-null (length script.names.threads) (length script.names.mons) (length script.names.conds)))
