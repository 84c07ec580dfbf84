use Rattle.line_server.proofs.PlaceLemmas.{AreInOrder-put, added, replaced}
use Rattle.line_server.proofs.entries.put.Goals as goal
use Rattle.line_server.specs.Places.{IsPlace}
use Rattle.std.proofs.Common.{ap, insert, subst, ◌∙◌}

pub returns-in-Ok-clause-items : goal.returns-in-Ok-clause-items
returns-in-Ok-clause-items c = replaced c.args.fresh.0 c.args.fresh.1 c.args.entries.now.items c.in-Ok.at c.args.fresh c.requires.order
    (subst (IsPlace c.args.fresh.0 c.args.entries.now.items) c.in-Ok.is c.requires.place)

pub returns-in_ok-insert-in-Err-clause-items : goal.returns-in_ok-insert-in-Err-clause-items
returns-in_ok-insert-in-Err-clause-items c =
    c.in_ok-insert-in-Err.ensures.items ∙ ap (λ es. insert es c.in-Err.at c.args.fresh) c.make_room.ensures
    ∙ added c.args.fresh.0 c.args.fresh.1 c.args.entries.now.items c.in-Err.at
    (subst (IsPlace c.args.fresh.0 c.args.entries.now.items) c.in-Err.is c.requires.place)

pub returns-in-Ok-clause-order : goal.returns-in-Ok-clause-order
returns-in-Ok-clause-order c = AreInOrder-put c.args.fresh.0 c.args.fresh.1 c.args.entries.now.items _ c.requires.order (returns-in-Ok-clause-items c)

pub returns-in_ok-insert-in-Err-clause-order : goal.returns-in_ok-insert-in-Err-clause-order
returns-in_ok-insert-in-Err-clause-order c =
    AreInOrder-put c.args.fresh.0 c.args.fresh.1 c.args.entries.now.items _ c.requires.order (returns-in_ok-insert-in-Err-clause-items c)
