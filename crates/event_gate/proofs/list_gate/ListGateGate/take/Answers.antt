use Rattle.std.proofs.Common.{ap, arith, length, length-set, sym, ◌∙◌}
use Rattle.event_gate.proofs.ShelfLaws.{take_of, taken_none}
use Rattle.event_gate.proofs.list_gate.ListGateGate.take.Goals as goal

pub overflow_sub-index_mut : goal.overflow_sub-index_mut
overflow_sub-index_mut c = (take_of c.self.inside.left.items c.self.inside.rack c.args.event c.from.result c.index_mut.result.now
    c.in_ok-line.line c.self.invariant.2 (omega (arith, c.self.invariant.0)) (omega (arith, c.self.invariant.1))
    (sym c.next.ensures.item ∙ c.in_ok-line.was) (c.from.ensures ∙ c.client_of.ensures) c.index_mut.ensures.value).0

pub invariant_of-self : goal.invariant_of-self
invariant_of-self c = rw (c.next.ensures.after ∙ taken_none c.self.inside.rack c.args.event (sym c.next.ensures.item ∙ c.in_err-line.was)) c.self.invariant

pub invariant_of-self-2 : goal.invariant_of-self-2
invariant_of-self-2 c = (
  ap length c.next.ensures.after ∙ length-set _ _ _ ∙ c.self.invariant.0,
  length-set _ _ _ ∙ c.self.invariant.1,
  rw c.next.ensures.after (take_of c.self.inside.left.items c.self.inside.rack c.args.event c.from.result c.index_mut.result.now
      c.in_ok-line.line c.self.invariant.2 (omega (arith, c.self.invariant.0)) (omega (arith, c.self.invariant.1))
      (sym c.next.ensures.item ∙ c.in_ok-line.was) (c.from.ensures ∙ c.client_of.ensures) c.index_mut.ensures.value).1,
)
