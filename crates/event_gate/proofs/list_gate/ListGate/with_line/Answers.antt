use Rattle.std.proofs.Common.{◌∙◌, ap, length-set, arith}
use Rattle.event_gate.specs.Shelves.{left_in_all}
use Rattle.event_gate.proofs.ShelfLaws.{add_of}
use Rattle.std.specs.Prelude.{length}
use Rattle.event_gate.proofs.list_gate.ListGate.with_line.Goals as goal

pub overflow_add-index_mut : goal.overflow_add-index_mut
overflow_add-index_mut c =
    let added = add_of c.self.inside.left.items c.self.inside.rack c.args.event c.from-client.result c.index_mut.result.now c.args.line
    c.self.invariant.2 (omega (arith, c.self.invariant.0)) (omega (arith, c.self.invariant.1))
    (c.from-client.ensures ∙ c.client_of.ensures) c.index_mut.ensures.value in
    let all = ap left_in_all c.self.view_is in
    omega (arith, added.0, all, c.requires)

pub invariant_of-result : goal.invariant_of-result
invariant_of-result c = (
  ap length c.in_ok-add.ensures.ok ∙ length-set _ _ _ ∙ c.self.invariant.0,
  length-set _ _ _ ∙ c.self.invariant.1,
  rw c.in_ok-add.ensures.ok (add_of c.self.inside.left.items c.self.inside.rack c.args.event c.from-client.result c.index_mut.result.now
      c.args.line c.self.invariant.2 (omega (arith, c.self.invariant.0)) (omega (arith, c.self.invariant.1))
      (c.from-client.ensures ∙ c.client_of.ensures) c.index_mut.ensures.value).1,
)
