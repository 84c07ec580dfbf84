use Rattle.std.proofs.Common.{ap, arith, take, ◌++◌, ◌%◌, ◌∙◌}
use Rattle.trace_text.proofs.Digits.{put_behind}
use Rattle.trace_text.specs.Pairs.{pair_of}
use Rattle.trace_text.proofs.rows.put_hundreds.Goals as goal

pub returns-clause-text : goal.returns-clause-text
returns-clause-text c =
    let n = c.args.n in
    put_behind (take c.args.at c.args.row.now) (take c.put_pair.result c.put_pair.new.row) n c.requires.least (omega (arith, c.requires.most))
    (c.put_pair.ensures.text ∙ ap (λ bs. bs ++ pair_of (n % 100)) c.put_up_to_two-next.ensures.text)
