use Rattle.monitors.proofs.LinkLaws.{leads_cut, linked_cut, own_leads, owner_cut}
use Rattle.monitors.proofs.locks.cut.Goals as goal
use Rattle.monitors.specs.declared.slots.Link.{Link}
use Rattle.std.proofs.Common.{ap, arith, length, suc, take, ◌∙◌, ◌≡◌}

pub relink-requires-clause-linked : goal.relink-requires-clause-linked
relink-requires-clause-linked c =
    let slots = c.args.slots.now.items in
    let links = c.args.links.now.items in
    let was = c.requires.owners in
    let end : suc c.args.slot ≡ length slots = omega (arith, c.requires.end) in
    let slots_cut = c.pop.ensures.rest ∙ ap (λ n. take n slots) {y = c.args.slot} (omega (arith, end)) in
    let links_cut = c.pop-2.ensures.rest ∙ ap (λ n. take n links) {y = c.args.slot} (omega (arith, end, was.linked.as_many)) in
    rw (c.deref-2.ensures.value, c.deref-3.ensures.value, slots_cut, links_cut) (linked_cut slots links c.args.slot end was.linked)

pub relink-requires-clause-leads : goal.relink-requires-clause-leads
relink-requires-clause-leads c =
    let slots = c.args.slots.now.items in
    let links = c.args.links.now.items in
    let was = c.requires.owners in
    let end : suc c.args.slot ≡ length slots = omega (arith, c.requires.end) in
    let slots_cut = c.pop.ensures.rest ∙ ap (λ n. take n slots) {y = c.args.slot} (omega (arith, end)) in
    let links_cut = c.pop-2.ensures.rest ∙ ap (λ n. take n links) {y = c.args.slot} (omega (arith, end, was.linked.as_many)) in
    let below = ap (λ (l : Link). l.below) (rw c.deref.ensures.value at c.link_of-below.ensures) in
    rw (c.deref-2.ensures.value, c.deref-3.ensures.value, slots_cut, links_cut, below)
    (leads_cut slots links c.args.slot end c.args.owner _ (own_leads slots links c.args.slot c.args.owner was.linked c.requires.has))

pub returns-clause-owners : goal.returns-clause-owners
returns-clause-owners c =
    let slots = c.args.slots.now.items in
    let links = c.args.links.now.items in
    let was = c.requires.owners in
    let end : suc c.args.slot ≡ length slots = omega (arith, c.requires.end) in
    let slots_cut = c.pop.ensures.rest ∙ ap (λ n. take n slots) {y = c.args.slot} (omega (arith, end)) in
    let links_cut = c.pop-2.ensures.rest ∙ ap (λ n. take n links) {y = c.args.slot} (omega (arith, end, was.linked.as_many)) in
    let below = ap (λ (l : Link). l.below) (rw c.deref.ensures.value at c.link_of-below.ensures) in
    rw (slots_cut, links_cut)
    (owner_cut slots links c.args.slot end c.args.last.now c.relink.new.last c.args.owner was c.requires.has
    (rw (c.deref-2.ensures.value, slots_cut) at c.relink.ensures.owner)
    c.relink.ensures.others c.relink.ensures.fewer (λ none. c.relink.ensures.gone (below ∙ none)))
