use Rattle.std.proofs.Common.{arith}
use Rattle.std.proofs.lemmas.Grind.{common_steps}
use Rattle.script_lines.proofs.phrase.slot_at.Goals as goal

pub returns-in-None : goal.returns-in-None
returns-in-None c = let test = c.if-eq-2.ensures in let built = c.if-eq-3.ensures in let none = c.in-None.ensures in grind (arith, common_steps)

pub returns-in-Some : goal.returns-in-Some
returns-in-Some c = let test = c.if-eq-2.ensures in let built = c.if-eq-3.ensures in let some = c.in-Some.ensures in grind (arith, common_steps)
