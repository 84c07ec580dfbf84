use Rattle.std.proofs.Common.{◌∙◌, ap, sym, ◌++◌, ◌∷◌, []}
use Rattle.pod_runner.proofs.RowLemmas.{take_next}
use Rattle.pod_runner.proofs.playing.names_of.Goals as goal

pub loop-proc-preserved : goal.loop-proc-preserved
loop-proc-preserved g c = c.in_ok-push.ensures.ok ∙ ap (λ names. names ++ c.proc_name.result.now ∷ []) c.loop-proc.invariant
    ∙ sym (take_next (g.P.Program.proc_names c.args.program.now) c.loop-proc.proc c.proc_name.result.now c.proc_name.ensures.same)
