use Rattle.line_server.proofs.PlaceLemmas.{found}
use Rattle.line_server.proofs.entries.find.Goals as goal
use Rattle.std.proofs.Common.{Some, ap, sym, ◌∙◌}

pub returns-in-Ok : goal.returns-in-Ok
returns-in-Ok c =
    ap (λ e. Some e.1) c.index-entries-at.is
    ∙ sym (found c.args.key.now c.args.entries.now c.in-Ok.at c.index-entries-at.result c.requires c.in-Ok.ensures.place)
