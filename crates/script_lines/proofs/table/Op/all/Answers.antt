use Rattle.std.proofs.Common.{refl}
use Rattle.script_lines.proofs.table.Op.all.Goals as goal

pub returns : goal.returns
returns c = refl
