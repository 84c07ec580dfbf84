use Rattle.std.proofs.Common.{ap, ◌∙◌, get_or, arith}
use Rattle.std.proofs.lemmas.List.{take_all}
use Rattle.event_gate.specs.Shelves.{after_add_to, full_shelves, left_in_all}
use Rattle.event_gate.proofs.ShelfLaws.{add_next}
use Rattle.event_gate.proofs.list_gate.ListGate.new.Goals as goal

pub loop-line-init : goal.loop-line-init
loop-line-init c = (c.in_ok-gate.ensures, ap left_in_all c.in_ok-gate.ensures)

pub loop-line-preserved : goal.loop-line-preserved
loop-line-preserved c = add_next c.args.events.now c.args.posts.now c.loop-line.line-index (get_or c.args.events.now c.from.result 0)
    c.line-item.result c.loop-line.gate c.in_ok-gate-2.gate c.loop-line-test.true c.line-item.is c.loop-line.invariant.0
    c.loop-line.invariant.1 (ap (λ k. get_or c.args.events.now k 0) (c.from.ensures ∙ c.client_of.ensures))
    (let low = c.type_inv.events c.from.result in omega (arith, low))
    (c.in_ok-gate-2.ensures ∙ ap (after_add_to c.loop-line.gate (get_or c.args.events.now c.from.result 0)) c.again.ensures)

pub returns : goal.returns
returns c = c.loop-line.invariant.0 ∙ ap (full_shelves c.args.events.now) (take_all _ c.args.posts.now c.loop-line-test.false)
