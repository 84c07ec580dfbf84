use Rattle.std.proofs.Common.{arith}
use Rattle.std.proofs.lemmas.Grind.{common_steps}
use Rattle.script_text.proofs.reader.Reader.take.Goals as goal

pub returns-in_default : goal.returns-in_default
returns-in_default c = grind (arith, common_steps)

pub returns-in_err-at : goal.returns-in_err-at
returns-in_err-at c = grind (arith, common_steps)

pub returns : goal.returns
returns c = grind (arith, common_steps)
