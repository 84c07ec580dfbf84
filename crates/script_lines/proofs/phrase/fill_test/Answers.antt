use Rattle.std.proofs.Common.{arith}
use Rattle.std.proofs.lemmas.Grind.{common_steps}
use Rattle.script_lines.proofs.phrase.fill_test.Goals as goal

pub returns-in_err-put-in-32 : goal.returns-in_err-put-in-32
returns-in_err-put-in-32 c = grind (arith, common_steps)

pub returns-in_ok-put-in-32 : goal.returns-in_ok-put-in-32
returns-in_ok-put-in-32 c = grind (arith, common_steps)

pub returns-in_default : goal.returns-in_default
returns-in_default c = grind (arith, common_steps)
