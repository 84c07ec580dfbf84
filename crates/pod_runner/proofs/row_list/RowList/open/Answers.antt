use Rattle.std.proofs.Common.{ap, arith}
use Rattle.pod_runner.proofs.RowLemmas.{row_opened_past}
use Rattle.pod_runner.proofs.row_list.RowList.open.Goals as goal

pub returns-else-proc-procs : goal.returns-else-proc-procs
returns-else-proc-procs g c = ap (λ rows. record c.args.self.now { rows = rows })
    (row_opened_past c.args.self.now.rows (g.P.Program.bodies c.args.program.now) c.args.tid c.args.proc (omega (arith, c.procs.ensures)))
