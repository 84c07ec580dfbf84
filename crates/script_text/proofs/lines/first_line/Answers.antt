use Rattle.std.proofs.Common.{refl}
use Rattle.script_text.proofs.CutLaws.{line_none, line_some}
use Rattle.script_text.proofs.lines.first_line.Goals as goal

pub returns-in-None-clause-none : goal.returns-in-None-clause-none
returns-in-None-clause-none c = line_none c.args.text.now c.in-None.ensures

pub returns-in-Some-clause-some : goal.returns-in-Some-clause-some
returns-in-Some-clause-some c = line_some c.args.text.now _ c.in-Some.end c.in-Some.ensures.0 c.in-Some.ensures.1 refl
