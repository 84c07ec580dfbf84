use Rattle.std.proofs.Common.{arith, length, sym, ◌∙◌, ◌≡◌}
use Rattle.std.proofs.lemmas.Bool.{eqb-true}
use Rattle.lists.proofs.WaitingLaws.AlikeLaws.{alike_push, sorted_out, still_alike, when_alike}
use Rattle.lists.proofs.WaitingLaws.FilingLaws.{IsFiled-push}
use Rattle.lists.proofs.waiting_list.filing.file_next.Goals as goal
use Rattle.lists.specs.WaitingList.Entries.{arrival_key, rank_of}

pub returns-then-is_like-clause-sorted : goal.returns-then-is_like-clause-sorted
returns-then-is_like-clause-sorted c =
    let none : length c.args.ranks.now.items ≡ 0 = omega (arith, eqb-true _ 0 (sym c.is_empty.ensures ∙ c.if-is_empty.true), c.args.ranks.now.ok.0) in
    let alike = when_alike c.args.entries.now.items c.args.ranks.now.items c.args.arrived.now.items none c.requires.sorted in
    still_alike _ c.args.ranks.now.items c.args.arrived.now.items none alike.1
    (alike_push c.args.entries.now.items c.args.entry.now alike.0 (c.is_like.ensures c.if-is_like.true))

pub returns-clause-sorted : goal.returns-clause-sorted
returns-clause-sorted c =
    sorted_out _ _ _
    (IsFiled-push rank_of c.args.entries.now.items c.sort_out.new.ranks.items _ c.sort_out.ensures.ranked c.args.entry.now
    c.add.ensures.sorted (rw c.rank_of.ensures at c.add.ensures.counts) c.add.ensures.len)
    (IsFiled-push arrival_key c.args.entries.now.items c.sort_out.new.arrived.items _ c.sort_out.ensures.queued c.args.entry.now
    c.add-2.ensures.sorted (rw c.arrival_key.ensures at c.add-2.ensures.counts) c.add-2.ensures.len)
