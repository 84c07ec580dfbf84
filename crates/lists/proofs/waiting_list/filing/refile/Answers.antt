use Rattle.std.proofs.Common.{ap, refl, sym, ◌∙◌, ◌≡◌}
use Rattle.lists.proofs.WaitingLaws.AlikeLaws.{sorted_out}
use Rattle.lists.proofs.WaitingLaws.FilingLaws.{IsFiled-kept, IsFiled-set, key_filed}
use Rattle.lists.proofs.waiting_list.filing.refile.Goals as goal
use Rattle.lists.proofs.WaitingLaws.EntryLaws.{any_default}
use Rattle.lists.specs.WaitingList.Entries.{arrival_key, rank_of}
use Rattle.lists.specs.declared.waiting_list.rows.Entry.{Entry}

pub change-requires-clause-there : goal.change-requires-clause-there
change-requires-clause-there c =
    rw c.rank_of.ensures (key_filed rank_of c.args.entries.now.items c.sort_out.new.ranks.items c.sort_out.new.ranks.items
    c.sort_out.ensures.ranked c.args.at c.index.result.now c.requires.within c.index.ensures)

pub returns-clause-sorted : goal.returns-clause-sorted
returns-clause-sorted c =
    let es = c.args.entries.now.items in
    let e = c.index.result.now in
    let here = c.index.ensures in
    let default = any_default es c.args.at c.args.after.now e c.requires.within in
    let whats : c.args.after.now.what ≡ e.what = c.requires.same_thing ∙ ap (λ (x : Entry). x.what) (default ∙ sym here) in
    let arrivals : c.args.after.now.arrival ≡ e.arrival = c.requires.same_arrival ∙ ap (λ (x : Entry). x.arrival) (default ∙ sym here) in
    λ n. sorted_out _ _ _
    (IsFiled-set rank_of es c.sort_out.new.ranks.items _ c.sort_out.ensures.ranked c.args.at e c.requires.within here
    (record c.args.after.now { filed = n }) c.change.ensures.sorted
    (rw (c.rank_of.ensures, c.rank_of-2.ensures) at c.change.ensures.counts) c.change.ensures.len)
    (IsFiled-kept arrival_key es c.sort_out.new.arrived.items c.sort_out.ensures.queued c.args.at e (record c.args.after.now { filed = n })
    c.requires.within here (rw (whats, arrivals) refl))
