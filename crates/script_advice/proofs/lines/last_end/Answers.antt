use Rattle.std.proofs.Common.{refl}
use Rattle.script_text.proofs.CutLaws.{line_none}
use Rattle.script_advice.proofs.AheadLaws.{last_tail}
use Rattle.script_advice.proofs.lines.last_end.Goals as goal

pub returns-in-None-clause-none : goal.returns-in-None-clause-none
returns-in-None-clause-none c = line_none c.args.text.now c.in-None.ensures

pub returns-in-Some-clause-tail : goal.returns-in-Some-clause-tail
returns-in-Some-clause-tail c = last_tail c.args.text.now _ c.in-Some.end c.in-Some.ensures.0 refl
