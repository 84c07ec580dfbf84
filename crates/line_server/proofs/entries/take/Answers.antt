use Rattle.line_server.proofs.PlaceLemmas.{AreInOrder-taken, not_taken, taken}
use Rattle.line_server.proofs.entries.take.Goals as goal
use Rattle.line_server.specs.Places.{IsGapAt, IsKeyAt}
use Rattle.std.proofs.Common.{[], subst, sym, ◌∙◌}

pub returns-in-Ok-clause-items : goal.returns-in-Ok-clause-items
returns-in-Ok-clause-items c =
    let at = subst (λ es. IsKeyAt c.args.key.now es c.in-Ok.at) c.deref.ensures.value c.in-Ok.ensures.place in
    c.remove.ensures.items ∙ taken c.args.key.now c.args.entries.now.items c.in-Ok.at ([], []) c.requires at

pub returns-in-Ok-clause-order : goal.returns-in-Ok-clause-order
returns-in-Ok-clause-order c = AreInOrder-taken c.args.key.now c.args.entries.now.items _ c.requires (returns-in-Ok-clause-items c)

pub returns-in-Err-clause-items : goal.returns-in-Err-clause-items
returns-in-Err-clause-items c =
    sym (not_taken c.args.key.now c.args.entries.now.items c.in-Err.field-0
    (subst (λ es. IsGapAt c.args.key.now es c.in-Err.field-0) c.deref.ensures.value c.in-Err.ensures.place))
