use Rattle.std.proofs.Common.{arith}
use Rattle.std.proofs.lemmas.Grind.{common_steps}
use Rattle.trace_text.proofs.ends.add_halt.Goals as goal

pub returns-in_ok-add_number-in-Spent : goal.returns-in_ok-add_number-in-Spent
returns-in_ok-add_number-in-Spent c = grind (arith, common_steps)
