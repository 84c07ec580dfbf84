use Rattle.pod_runner.proofs.Results.{on_ok}
use Rattle.pod_runner.proofs.RowCalls.{kept_rows}
use Rattle.pod_runner.proofs.row_list.RowList.push.Goals as goal
use Rattle.pod_runner.proofs.row_list.RowList.push.Goals.{then-self, else-self}

pub invariant_of-self : goal.invariant_of-self
invariant_of-self g c = elim c.if-self.branch [
  | then-self w
      ↦ λ up.
      c.add_row.ensures.rising (c.self.invariant w.if-self.true) (w.are_older-self-inside.ensures (rw w.self-is at up) (c.self.invariant w.if-self.true))
  | else-self w ↦ λ up. absurd (let none = (rw w.self-is at up) in cc)
]

pub returns : goal.returns
returns g c = rw (← c.self.view_is) (on_ok c.add_row.result (λ h. kept_rows _ _ _ _ h.0 (h.1 c.self.inside.gone)) c.add_row.ensures.after)
