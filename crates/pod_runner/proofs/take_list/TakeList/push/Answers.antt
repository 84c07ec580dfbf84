use Rattle.std.proofs.Common.{[], ap, ◌++◌, ◌∙◌, ◌∷◌}
use Rattle.pod_runner.proofs.TakeLemmas.{takes_push}
use Rattle.pod_runner.proofs.take_list.TakeList.push.Goals as goal

pub returns-clause-ok : goal.returns-clause-ok
returns-clause-ok c =
    let took = c.args.took.now in
    rw (c.push_reserved.ensures.items, c.in_ok-reserve.ensures.items, c.in_ok-push_text.ensures.ok) (takes_push c.self.inside.rows.items
    c.self.inside.texts (record { turn = took.turn; event = took.event; client = took.line.client; seq = took.line.seq }) took.line.text c.self.invariant
    ∙ ap (λ takes. takes ++ took ∷ []) c.self.view_is)
