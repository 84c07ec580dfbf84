use Rattle.std.proofs.Common.{arith}
use Rattle.pod_runner.proofs.Rising.{rising_push}
use Rattle.pod_runner.proofs.RowCalls.{call_more}
use Rattle.pod_runner.proofs.row_list.add_row.Goals as goal

pub returns-clause-after : goal.returns-clause-after
returns-clause-after g c = (
  c.in_ok-push.ensures.items,
  λ other. call_more other c.args.rows.now.items c.push.new.self.items _ c.args.last.now c.len-before.result c.len-after.result c.place_or_past-kept.result
      c.in_ok-push.ensures.items (omega (arith, c.len-before.ensures)) (omega (arith, c.len-after.ensures)) c.place_or_past-kept.ensures,
)

pub returns-clause-rising : goal.returns-clause-rising
returns-clause-rising g c = λ up last. rw c.in_ok-push.ensures.items (rising_push c.args.rows.now.items _ up last)
