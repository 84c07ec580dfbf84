use Rattle.std.proofs.Common.{ap, sym, ◌∙◌}
use Rattle.lists.proofs.WaitingLaws.RunLaws.{nobody_came, somebody_came}
use Rattle.lists.proofs.waiting_list.rows.tid_of.Goals as goal
use Rattle.lists.specs.declared.waiting_list.rows.Entry.{Entry}

pub returns-in-Some : goal.returns-in-Some
returns-in-Some c =
    ap (λ (e : Entry). e.tid) c.behind-entries.view_is
    ∙ somebody_came c.args.entries.now.items c.args.arrival c.in-Some.at c.index.result.now c.requires c.in-Some.ensures.some c.index.ensures

pub returns-in-None : goal.returns-in-None
returns-in-None c = sym (nobody_came c.args.entries.now.items c.args.arrival c.in-None.ensures.none)
