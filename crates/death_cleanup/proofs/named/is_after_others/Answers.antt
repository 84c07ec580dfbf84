use Rattle.death_cleanup.proofs.Orders.{behind_others}
use Rattle.death_cleanup.proofs.named.is_after_others.Goals as goal
use Rattle.death_cleanup.specs.Named.{is_before, run_of}
use Rattle.std.proofs.Common.{ap, arith, length, sym, ◌-◌, ◌∙◌}
use Rattle.std.proofs.lemmas.List.{get_or_read}

pub returns-clause-gap : goal.returns-clause-gap
returns-clause-gap c = λ passes.
    let waits = c.args.waits.now in
    let before = c.index-waits-len.result in
    behind_others waits (run_of c.args.wait.now) c.args.wait.now.tid c.requires.ordered c.requires.before (omega arith) (λ d.
    ap (is_before (run_of c.args.wait.now) c.args.wait.now.tid) (sym (get_or_read waits (length waits - 2) before (omega arith) c.index-waits-len.is d))
    ∙ (sym c.is_before.ensures ∙ passes))
