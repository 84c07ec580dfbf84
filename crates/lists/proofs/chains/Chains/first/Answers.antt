use Rattle.lists.proofs.ChainSound.{first_none, first_some, list_count, list_in}
use Rattle.lists.proofs.chains.Chains.first.Goals as goal
use Rattle.std.proofs.Common.{sym, ◌∙◌}

pub next_of-first-requires : goal.next_of-first-requires
next_of-first-requires c =
    let head = rw (← c.self.view_is, list_count c.self.inside.links.items c.self.inside.heads) at c.requires in
    list_in _ _ _ c.self.invariant head

pub returns-then-first-list-clause-value : goal.returns-then-first-list-clause-value
returns-then-first-list-clause-value c =
    let head = rw (← c.self.view_is, list_count c.self.inside.links.items c.self.inside.heads) at c.requires in
    rw (← c.self.view_is) (sym (first_none _ _ _ c.self.invariant head (sym c.next_of-first.ensures ∙ c.if-first-list.true)))

pub returns-else-first-list-clause-value : goal.returns-else-first-list-clause-value
returns-else-first-list-clause-value c =
    let head = rw (← c.self.view_is, list_count c.self.inside.links.items c.self.inside.heads) at c.requires in
    rw (← c.self.view_is, c.next_of-first.ensures)
    (sym (first_some _ _ _ c.self.invariant head (λ same. c.if-first-list.false (c.next_of-first.ensures ∙ same))).0)

pub returns-else-first-list-clause-is_key : goal.returns-else-first-list-clause-is_key
returns-else-first-list-clause-is_key c =
    let head = rw (← c.self.view_is, list_count c.self.inside.links.items c.self.inside.heads) at c.requires in
    rw (← c.self.view_is, list_count c.self.inside.links.items c.self.inside.heads, c.next_of-first.ensures)
    (first_some _ _ _ c.self.invariant head (λ same. c.if-first-list.false (c.next_of-first.ensures ∙ same))).1
