use Rattle.lwp_explore.proofs.AlongLaws.{leads_first}
use Rattle.lwp_explore.proofs.EndsLaws.{way_put}
use Rattle.lwp_explore.proofs.seeking.way_text.Goals as goal

pub stand_after-requires-clause-leads : goal.stand_after-requires-clause-leads
stand_after-requires-clause-leads c = leads_first c.args.machine.now c.args.path.now c.requires.first c.requires.leads

pub returns : goal.returns
returns c = way_put c.args.machine.now c.in_ok-here.here c.args.path.now c.requires.first c.in_ok-here.ensures c.new-out.result.items c.add_length.new.out.items
    c.add.new.out.items c.new-out.ensures.items c.in_ok-add_length.ensures c.in_ok-add.ensures
