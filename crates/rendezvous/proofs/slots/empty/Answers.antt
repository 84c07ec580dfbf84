use Rattle.rendezvous.proofs.SlotLemmas.{set_last}
use Rattle.rendezvous.proofs.slots.empty.Goals as goal
use Rattle.std.proofs.Common.{None, arith, length, suc, ◌-◌, ◌≡◌}

pub returns-then-slot-last-clause-emptied : goal.returns-then-slot-last-clause-emptied
returns-then-slot-last-clause-emptied c =
    let is : c.len-last.result - 1 ≡ c.args.slot = omega (arith, c.if-slot-last.true) in
    let last : suc c.args.slot ≡ length c.args.slots.now.items = omega (arith, c.if-slot-last.true, c.len-last.ensures, c.requires) in
    record {
      last = λ at_end. rw c.truncate.ensures.items (rw is (set_last c.args.slots.now.items c.args.slot None last));
      inner = λ away. absurd (away last);
    }
