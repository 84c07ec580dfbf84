use Rattle.std.proofs.Common.{ap, map, sym, ◌∙◌}
use Rattle.lists.proofs.WaitingLaws.KeptLaws.{filtered_none}
use Rattle.lists.proofs.waiting_list.rows.tids_for.Goals as goal
use Rattle.lists.specs.WaitingList.Entries.{is_entry_for}
use Rattle.lists.specs.declared.waiting_list.rows.Entry.{Entry}

pub returns-in-None : goal.returns-in-None
returns-in-None c = c.new.ensures
    ∙ sym (ap (map (λ (e : Entry). e.tid)) (filtered_none (is_entry_for c.args.what) c.args.entries.now.items c.in-None.ensures.none))
