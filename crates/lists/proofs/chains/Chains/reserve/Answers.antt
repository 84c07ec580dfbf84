use Rattle.lists.proofs.ChainSound.{IsSound-grown, lists_grown}
use Rattle.lists.proofs.chains.Chains.reserve.Goals as goal
use Rattle.std.proofs.Common.{arith, length, rules, ◌≤◌}

pub invariant_of-self-2 : goal.invariant_of-self-2
invariant_of-self-2 c =
    let longer : length c.self.inside.links.items ≤ length c.grow.new.links.items = omega arith in
    IsSound-grown c.self.inside.links.items _ c.self.inside.heads c.self.invariant (rw c.in_ok-reserve.ensures.items at c.grow.ensures.grows) longer

pub returns-clause-ok : goal.returns-clause-ok
returns-clause-ok c =
    let longer : length c.self.inside.links.items ≤ length c.grow.new.links.items = omega arith in
    rw (← c.self.view_is, ← c.grow.ensures.len)
    (lists_grown c.self.inside.links.items _ c.self.inside.heads c.self.invariant (rw c.in_ok-reserve.ensures.items at c.grow.ensures.grows) longer)

pub returns-then-limit-len-clause-has_room : goal.returns-then-limit-len-clause-has_room
returns-then-limit-len-clause-has_room c = search rules
