use Rattle.lists.proofs.ChainSound.{IsSound-removed, list_count, lists_removed}
use Rattle.lists.proofs.chains.Chains.remove.Goals as goal
use Rattle.std.proofs.Common.{length, ◌<◌}

pub invariant_of-self : goal.invariant_of-self
invariant_of-self c =
    let is_key = rw (← c.self.view_is, list_count c.self.inside.links.items c.self.inside.heads) at c.requires.is_key in
    let key_in : c.args.key < length c.self.inside.links.items = rw (← c.self.view_is) at c.requires.in_limit in
    IsSound-removed c.self.inside.links.items _ c.self.inside.heads c.args.key c.self.invariant c.leave.ensures.len is_key key_in c.leave.ensures.crosses

pub returns : goal.returns
returns c =
    let is_key = rw (← c.self.view_is, list_count c.self.inside.links.items c.self.inside.heads) at c.requires.is_key in
    let key_in : c.args.key < length c.self.inside.links.items = rw (← c.self.view_is) at c.requires.in_limit in
    rw (← c.self.view_is)
    (lists_removed c.self.inside.links.items _ c.self.inside.heads c.args.key c.self.invariant c.leave.ensures.len is_key key_in c.leave.ensures.crosses)
