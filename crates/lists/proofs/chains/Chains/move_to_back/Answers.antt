use Rattle.lists.proofs.ChainSound.{alone_removed, wound_removed, IsSound-moved_to_back, list_count, lists_moved_to_back, lists_stay}
use Rattle.lists.proofs.chains.Chains.move_to_back.Goals as goal
use Rattle.std.proofs.Common.{arith, length, sym, ◌<◌, ◌∙◌}

pub returns-then-prev_of-key : goal.returns-then-prev_of-key
returns-then-prev_of-key c =
    let old = c.self.inside.links.items in
    let heads = c.self.inside.heads in
    let is_key = rw (← c.self.view_is, list_count old heads) at c.requires.is_key in
    let key_in : c.args.key < length old = rw (← c.self.view_is) at c.requires.in_limit in
    let list_in = rw (← c.self.view_is, list_count old heads) at c.requires.list_in in
    rw (← c.self.view_is) (lists_stay old heads c.args.key c.args.list c.self.invariant is_key key_in list_in (sym c.prev_of.ensures ∙ c.if-prev_of-key.true))

pub enter-requires-clause-alone : goal.enter-requires-clause-alone
enter-requires-clause-alone c =
    let old = c.self.inside.links.items in
    let heads = c.self.inside.heads in
    let is_key = rw (← c.self.view_is, list_count old heads) at c.requires.is_key in
    let key_in : c.args.key < length old = rw (← c.self.view_is) at c.requires.in_limit in
    alone_removed old _ heads c.args.key c.self.invariant c.leave.ensures.len is_key key_in c.leave.ensures.crosses

pub enter-requires-clause-wound : goal.enter-requires-clause-wound
enter-requires-clause-wound c =
    let old = c.self.inside.links.items in
    let heads = c.self.inside.heads in
    let is_key = rw (← c.self.view_is, list_count old heads) at c.requires.is_key in
    let key_in : c.args.key < length old = rw (← c.self.view_is) at c.requires.in_limit in
    wound_removed old _ heads c.args.key c.self.invariant c.leave.ensures.len is_key key_in c.leave.ensures.crosses

pub invariant_of-self : goal.invariant_of-self
invariant_of-self c =
    let old = c.self.inside.links.items in
    let heads = c.self.inside.heads in
    let is_key = rw (← c.self.view_is, list_count old heads) at c.requires.is_key in
    let key_in : c.args.key < length old = rw (← c.self.view_is) at c.requires.in_limit in
    let few = c.self.invariant.few in
    let list_in = rw (← c.self.view_is, list_count old heads) at c.requires.list_in in
    IsSound-moved_to_back old _ _ heads c.args.key c.args.list c.self.invariant c.leave.ensures.len c.enter.ensures.len is_key key_in (omega arith)
    c.leave.ensures.crosses c.enter.ensures.crosses list_in

pub returns : goal.returns
returns c =
    let old = c.self.inside.links.items in
    let heads = c.self.inside.heads in
    let is_key = rw (← c.self.view_is, list_count old heads) at c.requires.is_key in
    let key_in : c.args.key < length old = rw (← c.self.view_is) at c.requires.in_limit in
    let few = c.self.invariant.few in
    let list_in = rw (← c.self.view_is, list_count old heads) at c.requires.list_in in
    rw (← c.self.view_is)
    (lists_moved_to_back old _ _ heads c.args.key c.args.list c.self.invariant c.leave.ensures.len c.enter.ensures.len is_key key_in (omega arith)
    c.leave.ensures.crosses c.enter.ensures.crosses list_in)
