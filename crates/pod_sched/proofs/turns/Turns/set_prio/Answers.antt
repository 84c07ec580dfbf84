use Rattle.pod_sched.proofs.OpLemmas.{prio_back, prio_nothing, prio_out}
use Rattle.pod_sched.proofs.turns.Turns.set_prio.Goals as goal
use Rattle.std.proofs.Common.{sym, ◌∙◌}

pub returns-then-not-runs-clause-after : goal.returns-then-not-runs-clause-after
returns-then-not-runs-clause-after c = c.put_out.ensures
    ∙ prio_out c.args.self.now c.args.tid c.row-row.result c.row-row.ensures.ordered c.row-row.ensures.value c.args.prio
    (sym c.may_run-runs.ensures ∙ c.if-not-runs.true)

pub returns-then-row-prio-clause-after : goal.returns-then-row-prio-clause-after
returns-then-row-prio-clause-after c = c.put_back.ensures
    ∙ prio_back c.args.self.now c.args.tid c.row-row.result c.row-row.ensures.ordered c.row-row.ensures.value c.args.prio
    (sym c.may_run-runs.ensures ∙ c.if-not-runs.false) c.if-row-prio.true

pub returns-else-row-prio-clause-after : goal.returns-else-row-prio-clause-after
returns-else-row-prio-clause-after c = prio_nothing c.args.self.now c.args.tid c.row-row.result c.row-row.ensures.ordered
    c.row-row.ensures.value c.args.prio (sym c.may_run-runs.ensures ∙ c.if-not-runs.false) c.if-row-prio.false
