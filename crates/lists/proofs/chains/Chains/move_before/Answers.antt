use Rattle.lists.proofs.ChainSound.{alone_removed, wound_removed, IsSound-moved_before, list_count, lists_moved_before}
use Rattle.lists.proofs.chains.Chains.move_before.Goals as goal
use Rattle.std.proofs.Common.{length, ◌<◌}

pub enter-requires-clause-alone : goal.enter-requires-clause-alone
enter-requires-clause-alone c =
    let old = c.self.inside.links.items in
    let heads = c.self.inside.heads in
    let is_key = rw (← c.self.view_is, list_count old heads) at c.requires.is_key in
    let key_in : c.args.key < length old = rw (← c.self.view_is) at c.requires.in_limit in
    alone_removed old _ heads c.args.key c.self.invariant c.leave.ensures.len is_key key_in c.leave.ensures.crosses

pub enter-requires-clause-wound : goal.enter-requires-clause-wound
enter-requires-clause-wound c =
    let old = c.self.inside.links.items in
    let heads = c.self.inside.heads in
    let is_key = rw (← c.self.view_is, list_count old heads) at c.requires.is_key in
    let key_in : c.args.key < length old = rw (← c.self.view_is) at c.requires.in_limit in
    wound_removed old _ heads c.args.key c.self.invariant c.leave.ensures.len is_key key_in c.leave.ensures.crosses

pub invariant_of-self : goal.invariant_of-self
invariant_of-self c =
    let old = c.self.inside.links.items in
    let heads = c.self.inside.heads in
    let is_key = rw (← c.self.view_is, list_count old heads) at c.requires.is_key in
    let key_in : c.args.key < length old = rw (← c.self.view_is) at c.requires.in_limit in
    let few = c.self.invariant.few in
    let other_is_key = rw (← c.self.view_is, list_count old heads) at c.requires.other_is_key in
    let other_in : c.args.other < length old = rw (← c.self.view_is) at c.requires.other_in_limit in
    IsSound-moved_before old _ _ heads c.args.key c.args.other c.self.invariant c.leave.ensures.len c.enter.ensures.len is_key key_in other_in
    c.leave.ensures.crosses c.enter.ensures.crosses other_is_key

pub returns : goal.returns
returns c =
    let old = c.self.inside.links.items in
    let heads = c.self.inside.heads in
    let is_key = rw (← c.self.view_is, list_count old heads) at c.requires.is_key in
    let key_in : c.args.key < length old = rw (← c.self.view_is) at c.requires.in_limit in
    let other_is_key = rw (← c.self.view_is, list_count old heads) at c.requires.other_is_key in
    let other_in : c.args.other < length old = rw (← c.self.view_is) at c.requires.other_in_limit in
    rw (← c.self.view_is)
    (lists_moved_before old _ _ heads c.args.key c.args.other c.self.invariant c.leave.ensures.len c.enter.ensures.len is_key key_in other_in
    c.leave.ensures.crosses c.enter.ensures.crosses other_is_key)
