use Rattle.std.proofs.Common.{◌∙◌, ap}
use Rattle.std.proofs.lemmas.List.{get_or_default}
use Rattle.std.specs.Prelude.{slice_set}
use Rattle.pod_runner.specs.declared.session.Row.{Row}
use Rattle.pod_runner.proofs.Results.{on_ok}
use Rattle.pod_runner.proofs.Rising.{answered_at, rising_set}
use Rattle.pod_runner.proofs.row_list.put_answer.Goals as goal

pub returns-clause-after : goal.returns-clause-after
returns-clause-after g c = on_ok c.set_answer.result
    (λ set. ap (slice_set c.args.rows.now.items c.args.i) set
    ∙ answered_at c.args.tid c.args.answer.now c.args.rows.now.items c.args.i c.index_mut-row.result.now c.requires.at c.requires.within
    c.index_mut-row.ensures.value)
    c.set_answer.ensures.set

pub returns-clause-rising : goal.returns-clause-rising
returns-clause-rising g c = λ up. rising_set c.args.rows.now.items c.args.i _ up c.requires.within (c.set_answer.ensures.same
    ∙ ap (λ (r : Row _). r.tid) (c.index_mut-row.ensures.value ∙ get_or_default c.args.rows.now.items c.args.i _ _ c.requires.within))
