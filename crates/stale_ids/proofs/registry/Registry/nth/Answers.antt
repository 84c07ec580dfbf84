use Rattle.std.proofs.Common.{sym, ap, ◌∙◌, arith}
use Rattle.std.proofs.lemmas.List.{get_or-map}
use Rattle.stale_ids.proofs.IndexLemmas.{AreRising-pairs, length-pairs, numbers-pairs}
use Rattle.stale_ids.proofs.registry.Registry.nth.Goals as goal

pub index-requires : goal.index-requires
index-requires g c =
    let longer = length-pairs c.self.inside.values.slots c.self.inside.index.items c.self.invariant.full in
    let within = rw (← c.self.view_is) at c.requires in
    omega arith

pub returns-clause-value : goal.returns-clause-value
returns-clause-value g c =
    let es = c.self.inside.index.items in
    let longer = length-pairs c.self.inside.values.slots es c.self.invariant.full in
    let within = rw (← c.self.view_is) at c.requires in
    let read = get_or-map (λ e. e.number) es c.args.i c.index.result.now 0 (omega arith) in
    rw (← c.self.view_is, numbers-pairs c.self.inside.values.slots es c.self.invariant.full) (ap (λ e. e.number) c.index.ensures ∙ sym read)

pub returns-clause-rising : goal.returns-clause-rising
returns-clause-rising g c =
    rw (← c.self.view_is) (AreRising-pairs c.self.inside.values.slots c.self.inside.index.items c.self.invariant.rising)
