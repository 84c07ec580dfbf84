use Rattle.agents.proofs.IndexLemmas.{nth_read, number_apart, number_here, number_if}
use Rattle.agents.proofs.index.nth_in.Goals as goal
use Rattle.std.proofs.Common.{ap, sym, ◌∙◌}

pub returns-in-Some : goal.returns-in-Some
returns-in-Some c =
    number_here c.args.key c.in-Some.entry c.if-entry-key.true
    ∙ sym (ap (number_if c.args.key) c.in-Some.is)
    ∙ nth_read c.args.key c.args.entries.now c.start_of-start.result c.args.i c.entry_at.result c.requires c.start_of-start.ensures c.entry_at.ensures

pub returns-in_default : goal.returns-in_default
returns-in_default c =
    number_apart c.args.key c.in-Some.entry c.if-entry-key.false
    ∙ sym (ap (number_if c.args.key) c.in-Some.is)
    ∙ nth_read c.args.key c.args.entries.now c.start_of-start.result c.args.i c.entry_at.result c.requires c.start_of-start.ensures c.entry_at.ensures

pub returns-in_default-2 : goal.returns-in_default-2
returns-in_default-2 c =
    sym (ap (number_if c.args.key) c.in_default.is)
    ∙ nth_read c.args.key c.args.entries.now c.start_of-start.result c.args.i c.entry_at.result c.requires c.start_of-start.ensures c.entry_at.ensures
