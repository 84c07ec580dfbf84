use Rattle.std.proofs.Common.{arith}
use Rattle.script_advice.proofs.TellLaws.{told_one}
use Rattle.script_advice.proofs.doubts.add_counted.Goals as goal

pub returns : goal.returns
returns c = λ others. told_one c.args.format _ c.args.walk.left c.args.out.now.items _ others (omega arith) c.in_ok-add_doubt.ensures
