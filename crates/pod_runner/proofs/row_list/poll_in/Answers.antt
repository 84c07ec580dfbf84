use Rattle.std.proofs.Common.{◌∙◌, ap}
use Rattle.std.proofs.lemmas.List.{get_or_default}
use Rattle.pod_runner.specs.declared.session.Row.{Row}
use Rattle.pod_runner.proofs.Rising.{rising_set}
use Rattle.pod_runner.proofs.row_list.poll_in.Goals as goal

pub returns-clause-rising : goal.returns-clause-rising
returns-clause-rising g c = λ up. rising_set c.args.rows.now.items c.args.i c.poll_row.new.row up c.requires
    (c.poll_row.ensures.same
    ∙ ap (λ (r : Row _). r.tid)
    (c.index_mut-row.ensures.value ∙ get_or_default c.args.rows.now.items c.args.i c.index_mut-row.result.now c.poll_row.new.row c.requires))
