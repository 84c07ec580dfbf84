use Rattle.line_server.proofs.TellLemmas.{if-done, told-after}
use Rattle.line_server.proofs.store.tell.Goals as goal
use Rattle.std.proofs.Common.{ap, rules, sym, ◌∙◌}
use Rattle.std.specs.Option.{option_copied_mut}

pub returns-in-Some-clause-after : goal.returns-in-Some-clause-after
returns-in-Some-clause-after c = if-done c.tell.result _ _
    (told-after c.args.tables.now.entries _ c.args.from c.args.text.now c.in-Some.table.now c.tell.new.self c.get_mut.ensures.ordered
    (sym c.get_mut.ensures.value ∙ ap option_copied_mut c.in-Some.is) (c.get_mut.follows.holds c.tell.new.self).0)
    c.tell.ensures.after

pub returns-in-Some-clause-reply : goal.returns-in-Some-clause-reply
returns-in-Some-clause-reply c = search rules

pub returns-clause-reply : goal.returns-clause-reply
returns-clause-reply c = search rules

pub returns-clause-after : goal.returns-clause-after
returns-clause-after c = search rules
