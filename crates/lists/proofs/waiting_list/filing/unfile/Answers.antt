use Rattle.std.proofs.Common.{arith, length, sym, ◌∙◌, ◌≡◌}
use Rattle.std.proofs.lemmas.Bool.{eqb-false, eqb-true}
use Rattle.lists.proofs.WaitingLaws.AlikeLaws.{alike_remove, sorted_out, still_alike, when_alike, when_filed}
use Rattle.lists.proofs.WaitingLaws.FilingLaws.{IsFiled-remove, key_filed}
use Rattle.lists.proofs.waiting_list.filing.unfile.Goals as goal
use Rattle.lists.specs.WaitingList.Entries.{arrival_key, rank_of}

pub returns-then-is_empty-clause-sorted : goal.returns-then-is_empty-clause-sorted
returns-then-is_empty-clause-sorted c =
    let none : length c.args.ranks.now.items ≡ 0 = omega (arith, eqb-true _ 0 (sym c.is_empty.ensures ∙ c.if-is_empty.true), c.args.ranks.now.ok.0) in
    let alike = when_alike c.args.entries.now.items c.args.ranks.now.items c.args.arrived.now.items none c.requires.sorted in
    still_alike _ c.args.ranks.now.items c.args.arrived.now.items none alike.1 (alike_remove c.args.entries.now.items c.args.at alike.0)

pub take-requires-2-clause-there : goal.take-requires-2-clause-there
take-requires-2-clause-there c =
    let filed = when_filed c.args.entries.now.items c.args.ranks.now.items c.args.arrived.now.items
    (λ none. eqb-false _ 0 (sym c.is_empty.ensures ∙ c.if-is_empty.false) (omega (arith, none, c.args.ranks.now.ok.0))) c.requires.sorted in
    rw c.arrival_key.ensures (key_filed arrival_key c.args.entries.now.items c.args.arrived.now.items c.args.arrived.now.items filed.1
    c.args.at c.index.result.now c.requires.within c.index.ensures)

pub returns-clause-sorted : goal.returns-clause-sorted
returns-clause-sorted c =
    let filed = when_filed c.args.entries.now.items c.args.ranks.now.items c.args.arrived.now.items
    (λ none. eqb-false _ 0 (sym c.is_empty.ensures ∙ c.if-is_empty.false) (omega (arith, none, c.args.ranks.now.ok.0))) c.requires.sorted in
    sorted_out _ _ _
    (IsFiled-remove rank_of c.args.entries.now.items c.args.ranks.now.items _ filed.0 c.args.at c.index.result.now c.requires.within
    c.index.ensures c.take.ensures.sorted (rw c.rank_of.ensures at c.take.ensures.counts) c.take.ensures.len)
    (IsFiled-remove arrival_key c.args.entries.now.items c.args.arrived.now.items _ filed.1 c.args.at c.index.result.now c.requires.within
    c.index.ensures c.take-2.ensures.sorted (rw c.arrival_key.ensures at c.take-2.ensures.counts) c.take-2.ensures.len)
