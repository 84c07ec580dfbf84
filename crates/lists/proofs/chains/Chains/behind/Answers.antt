use Rattle.lists.proofs.ChainSound.{behind_none, behind_some, list_count}
use Rattle.lists.proofs.chains.Chains.behind.Goals as goal
use Rattle.std.proofs.Common.{sym, ◌∙◌}

pub returns-then-behind-list : goal.returns-then-behind-list
returns-then-behind-list c front back is =
    let head = rw (← c.self.view_is, list_count c.self.inside.links.items c.self.inside.heads) at c.requires.list_in in
    behind_none _ _ _ c.self.invariant head front back c.args.key (rw (← c.self.view_is) at is) (sym c.next_of-behind.ensures ∙ c.if-behind-list.true)

pub returns-else-behind-list : goal.returns-else-behind-list
returns-else-behind-list c front back is =
    let head = rw (← c.self.view_is, list_count c.self.inside.links.items c.self.inside.heads) at c.requires.list_in in
    rw c.next_of-behind.ensures (behind_some _ _ _ c.self.invariant head front back c.args.key (rw (← c.self.view_is) at is)
    (λ same. c.if-behind-list.false (c.next_of-behind.ensures ∙ same)))
