use Rattle.std.proofs.Common.{arith}
use Rattle.std.proofs.lemmas.Grind.{common_steps}
use Rattle.script_body.proofs.PlaceLemmas.{place_in-front, place_in-back}
use Rattle.script_body.proofs.numbers.proc_number.Goals as goal

pub returns-then-place-procs : goal.returns-then-place-procs
returns-then-place-procs c = grind (arith, common_steps, place_in-front)

pub returns : goal.returns
returns c = grind (arith, common_steps, place_in-back)
