use Rattle.lwp_explore.proofs.AlongLaws.{leads_first}
use Rattle.lwp_explore.proofs.EndsLaws.{line_put, on_ok}
use Rattle.lwp_explore.proofs.ends.add_line.Goals as goal

pub stand_after-requires-clause-sound : goal.stand_after-requires-clause-sound
stand_after-requires-clause-sound c = c.requires.first.sound

pub stand_after-requires-clause-leads : goal.stand_after-requires-clause-leads
stand_after-requires-clause-leads c = leads_first c.args.machine.now c.args.path.now c.requires.first c.requires.leads

pub returns : goal.returns
returns c = on_ok _ _ c.add-3.result c.add-3.ensures (line_put c.args.machine.now c.in_ok-first.first c.args.path.now c.requires.first c.in_ok-first.ensures
    c.args.listed.now.number c.args.listed.now.cores c.kind_of-kind.result c.args.out.now.items c.add_kind.new.out.items c.add.new.out.items
    c.add_number.new.out.items c.add-2.new.out.items c.add_length.new.out.items c.add_deadlocks.new.out.items c.add-3.new.out.items
    c.kind_of-kind.ensures.value c.in_ok-add_kind.ensures c.in_ok-add.ensures c.in_ok-add_number.ensures c.in_ok-add-2.ensures c.in_ok-add_length.ensures
    c.in_ok-add_deadlocks.ensures)
