use Rattle.std.proofs.Common.{◌≡◌, ◌<◌, ◌-◌, ◌∙◌, ap, arith, rules, suc}
use Rattle.pod_runner.specs.Polls.{call_at}
use Rattle.pod_runner.proofs.RowCalls.{call_above, call_below, call_kept, call_taken}
use Rattle.pod_runner.proofs.row_list.part_from.Goals as goal

pub returns-then-i-last-clause-call : goal.returns-then-i-last-clause-call
returns-then-i-last-clause-call g c =
    let taken = call_taken c.args.rows.now.items c.take_call.new.rows.items c.args.i c.take_call.result c.requires c.take_call.ensures in
    let at : c.args.i ≡ c.args.last.now = search rules in
    call_kept c.take_call.result c.args.gone.now c.args.rows.now.items c.take_call.new.rows.items c.args.i c.args.last.now c.len.result
    taken at (omega (arith, c.len.ensures, taken.is_left.as_many))

pub returns-then-i-last-clause-rows : goal.returns-then-i-last-clause-rows
returns-then-i-last-clause-rows g c =
    (call_taken c.args.rows.now.items c.take_call.new.rows.items c.args.i c.take_call.result c.requires c.take_call.ensures).is_left

pub returns-then-i-last-2-clause-call : goal.returns-then-i-last-2-clause-call
returns-then-i-last-2-clause-call g c =
    let low : c.args.i < c.args.last.now = search rules in
    let next : suc (c.args.last.now - 1) ≡ c.args.last.now = omega (arith, low) in
    call_above c.args.gone.now c.args.rows.now.items c.args.i (c.args.last.now - 1) (omega (arith, low))
    ∙ ap (call_at c.args.gone.now c.args.rows.now.items) next

pub returns-else-i-last-2-clause-call : goal.returns-else-i-last-2-clause-call
returns-else-i-last-2-clause-call g c =
    let low : c.args.last.now < c.args.i = search rules in
    call_below c.args.gone.now c.args.rows.now.items c.args.i c.args.last.now low
