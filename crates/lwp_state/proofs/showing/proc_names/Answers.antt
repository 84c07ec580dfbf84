use Rattle.std.proofs.Common.{[], ap, arith, length, sym, take_all, ◌++◌, ◌∙◌, ◌∷◌}
use Rattle.pod_runner.proofs.RowLemmas.{take_next}
use Rattle.script_text.specs.Script.{proc_names}
use Rattle.lwp_state.proofs.ReplayLaws.{named-all}
use Rattle.lwp_state.proofs.showing.proc_names.Goals as goal

pub loop-proc-preserved : goal.loop-proc-preserved
loop-proc-preserved c = c.in_ok-push.ensures.ok ∙ ap (λ names. names ++ c.proc_name.result.now ∷ []) c.loop-proc.invariant
    ∙ sym (take_next (proc_names c.new-program.result) c.loop-proc.proc c.proc_name.result.now c.proc_name.ensures.same)

pub returns : goal.returns
returns c =
    c.loop-proc.invariant
    ∙ take_all c.loop-proc.proc (proc_names c.new-program.result)
    (omega (arith, c.loop-proc-test.false, c.procs-proc-end.ensures, named-all c.new-program.result))
    ∙ ap proc_names c.new-program.ensures
