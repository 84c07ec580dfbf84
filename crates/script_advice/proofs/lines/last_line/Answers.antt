use Rattle.script_advice.proofs.AheadLaws.{last_alone, last_behind}
use Rattle.script_advice.proofs.lines.last_line.Goals as goal

pub returns-in-None-clause-some : goal.returns-in-None-clause-some
returns-in-None-clause-some c =
    last_alone c.args.text.now c.in_ok-lines.lines.now c.in_ok-lines.field-0-1.now c.in_ok-lines.ensures.some c.in_ok-lines.ensures.tail c.in-None.ensures.none

pub returns-in-Some-clause-some : goal.returns-in-Some-clause-some
returns-in-Some-clause-some c = last_behind c.args.text.now c.in_ok-lines.lines.now c.in_ok-lines.field-0-1.now c.in-Some.front.now
    c.in-Some.line.now c.in_ok-lines.ensures.some c.in_ok-lines.ensures.tail c.in-Some.ensures.some c.in-Some.ensures.tail
