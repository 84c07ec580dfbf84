use Rattle.pod_runner.proofs.TakeLemmas.{taken_rows}
use Rattle.pod_runner.proofs.take_list.TakeList.count_of.Goals as goal
use Rattle.pod_runner.specs.Snapshots.{taken_of}
use Rattle.pod_runner.specs.Takes.{is_of}
use Rattle.std.proofs.Common.{ap, sym, ◌∙◌}
use Rattle.std.specs.List.{count_by}

pub returns : goal.returns
returns c = c.rows_of.ensures ∙ ap (count_by (is_of c.args.client)) c.deref.ensures.value
    ∙ sym (taken_rows c.args.client c.self.inside.rows.items c.self.inside.texts c.self.invariant)
    ∙ ap (λ takes. taken_of takes c.args.client) c.self.view_is
