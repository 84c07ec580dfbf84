use Rattle.monitors.proofs.LinkLaws.{other_place, owner_left, owner_relinked, same_place}
use Rattle.monitors.proofs.locks.empty.Goals as goal
use Rattle.std.proofs.Common.{sym, ◌∙◌}

pub returns-then-eq-clause-owners : goal.returns-then-eq-clause-owners
returns-then-eq-clause-owners c =
    owner_relinked c.args.slots.now.items c.args.links.now c.args.last.now c.relink.new.last c.requires.owners c.args.slot c.args.owner c.requires.has
    (sym c.place_of.ensures ∙ same_place c.place_of.result c.args.slot (sym c.if-eq.ensures))
    (rw c.deref.ensures.value at c.relink.ensures.owner)
    c.relink.ensures.others c.relink.ensures.fewer

pub returns-else-eq-clause-owners : goal.returns-else-eq-clause-owners
returns-else-eq-clause-owners c =
    owner_left c.args.slots.now.items c.args.links.now c.args.last.now c.args.last.now c.requires.owners c.args.slot c.args.owner c.requires.has
    (λ here. other_place c.place_of.result c.args.slot (sym c.if-eq.ensures) (c.place_of.ensures ∙ here))
