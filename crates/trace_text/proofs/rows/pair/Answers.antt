use Rattle.std.proofs.Common.{[], ap, arith, ◌∙◌}
use Rattle.std.specs.Prelude.{slice_index_or}
use Rattle.trace_text.proofs.Digits.{pair_at}
use Rattle.trace_text.specs.Pairs.{pair_of}
use Rattle.trace_text.proofs.rows.pair.Goals as goal

pub returns : goal.returns
returns c = ap (λ ps. slice_index_or ps c.args.n []) c.pairs.ensures ∙ pair_at [] 0 100 c.args.n c.requires ∙ ap pair_of (omega arith)
