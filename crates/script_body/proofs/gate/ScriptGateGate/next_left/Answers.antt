use Rattle.script_body.proofs.PlaceLaws.{next-is, none-is}
use Rattle.script_text.specs.Script.{lines_posted}
use Rattle.script_body.proofs.gate.ScriptGateGate.next_left.Goals as goal

pub returns-clause-none : goal.returns-clause-none
returns-clause-none c = rw (← c.self.view_is)
    (none-is (lines_posted c.self.inside.script.now) c.self.inside.places c.args.from c.next_left.result c.self.invariant.0 c.next_left.ensures.none)

pub returns-clause-first : goal.returns-clause-first
returns-clause-first c = rw (← c.self.view_is) (next-is (lines_posted c.self.inside.script.now) c.self.inside.places c.args.from
    c.next_left.result c.self.invariant.0 c.next_left.ensures.below c.next_left.ensures.first)
