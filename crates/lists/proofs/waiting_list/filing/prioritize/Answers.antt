use Rattle.std.proofs.Common.{ap, sym, ◌∙◌}
use Rattle.lists.proofs.WaitingLaws.EntryLaws.{any_default, prioritized_itself, prioritized_set}
use Rattle.lists.proofs.waiting_list.filing.prioritize.Goals as goal
use Rattle.lists.specs.declared.waiting_list.rows.Entry.{Entry}

pub returns-then-before-prio-clause-changed : goal.returns-then-before-prio-clause-changed
returns-then-before-prio-clause-changed c = λ e here.
    let es = c.args.entries.now.items in
    let same = here ∙ any_default es c.args.at e c.index-before.result.now c.requires.within ∙ sym c.index-before.ensures in
    prioritized_itself es c.args.at c.args.prio e c.requires.within here (ap (λ (x : Entry). x.prio) same ∙ c.if-before-prio.true)

pub returns-clause-changed : goal.returns-clause-changed
returns-clause-changed c = λ e here. prioritized_set c.args.entries.now.items c.args.at c.args.prio c.refile-filed.result
    c.index-before.result.now e c.requires.within c.index-before.ensures here

pub returns-clause-sorted : goal.returns-clause-sorted
returns-clause-sorted c = c.refile-filed.ensures.sorted c.refile-filed.result
