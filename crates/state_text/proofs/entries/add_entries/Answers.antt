use Rattle.state_text.proofs.Finding.{tell_all, tell_more}
use Rattle.std.proofs.Common.{ap, ◌++◌, ◌∙◌}
use Rattle.state_text.proofs.entries.add_entries.Goals as goal

pub loop-place-preserved : goal.loop-place-preserved
loop-place-preserved g c =
    tell_more g.T.Entry.key g.T.Entry.text c.args.entries.now c.args.keys.now c.requires c.args.key c.loop-place.from c.loop-place.out.items
    _ c.loop-place.invariant c.in-Some.place c.index-entries-place.result c.add_line.new.out.items c.in-Some.ensures
    (c.in_ok-add_line.ensures ∙ ap (λ x. c.loop-place.out.items ++ g.T.Entry.text x) c.index-entries-place.is)

pub returns : goal.returns
returns g c =
    tell_all g.T.Entry.key g.T.Entry.text c.args.entries.now c.args.keys.now c.requires c.args.key c.loop-place.from c.loop-place.out.items
    _ c.loop-place.invariant c.in_default.ensures
