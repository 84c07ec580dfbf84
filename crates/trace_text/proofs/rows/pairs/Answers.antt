use Rattle.std.proofs.Common.{refl}
use Rattle.trace_text.proofs.rows.pairs.Goals as goal

pub returns : goal.returns
returns c = refl
