use Rattle.death_cleanup.proofs.Orders.{behind_last}
use Rattle.death_cleanup.proofs.named.is_after_all.Goals as goal
use Rattle.death_cleanup.specs.Named.{is_before, run_of}
use Rattle.std.proofs.Common.{ap, arith, sym, ◌∙◌}

pub returns-in-Some-clause-behind : goal.returns-in-Some-clause-behind
returns-in-Some-clause-behind c = λ passes. behind_last c.args.waits.now (run_of c.args.wait.now) c.args.wait.now.tid c.in-Some.last.now
    c.requires (λ d. c.in-Some.ensures.item.4 (omega arith) d) (sym c.is_before.ensures ∙ passes)

pub returns-in-Some-clause-before : goal.returns-in-Some-clause-before
returns-in-Some-clause-before c = λ fails d some. ap (is_before (run_of c.args.wait.now) c.args.wait.now.tid) (sym (c.in-Some.ensures.item.4 (omega arith) d))
    ∙ (sym c.is_before.ensures ∙ fails)
