use Rattle.lwp_explore.proofs.EndsLaws.{listed_put}
use Rattle.lwp_explore.proofs.ends.add_lines.Goals as goal
use Rattle.lwp_explore.specs.FoundText.{listed_line}
use Rattle.lwp_explore.specs.Sessions.{world_of}
use Rattle.lwp_explore.specs.declared.listing.Listed.{Listed}
use Rattle.std.proofs.Common.{get_or, ◌∙◌}
use Rattle.trace_text.proofs.Loops.{one_more}

abbrev none : Listed
none = record { number = 0; first = 0; cores = 0 }

pub loop-place-preserved : goal.loop-place-preserved
loop-place-preserved c =
    let world = world_of c.args.machine.now.script in
    let rows = c.args.rows.now in
    let kinds = c.args.kinds.now in
    one_more (listed_line world rows) c.loop-place.out.items _ kinds c.loop-place.place c.loop-place.invariant c.add_line.new.out.items none
    c.loop-place-test.true (listed_put world rows (get_or kinds c.loop-place.place none) c.deref.result.now c.loop-place.out.items c.add_line.new.out.items
    (c.deref.ensures.value ∙ c.in-Ok.ensures) c.in_ok-add_line.ensures)
