use Rattle.lwp_explore.proofs.TracingLaws.{round_there, rounding_first, rounding_more}
use Rattle.lwp_explore.proofs.tracing.add_round.Goals as goal

pub loop-calls-init : goal.loop-calls-init
loop-calls-init c = rounding_first c.args.nexts.now c.args.start c.args.path.now.items c.requires.start

pub returns-then-next-start : goal.returns-then-next-start
returns-then-next-start c =
    round_there c.args.nexts.now c.args.start c.loop-calls.calls c.loop-calls.here c.in-Some.next c.args.path.now.items c.loop-calls.path.items
    c.push.new.self.items c.loop-calls.invariant c.in-Some.is c.in_ok-push.ensures.items c.if-next-start.true

pub loop-calls-preserved : goal.loop-calls-preserved
loop-calls-preserved c =
    rounding_more c.args.nexts.now c.args.start c.loop-calls.calls c.loop-calls.here c.in-Some.next c.args.path.now.items c.loop-calls.path.items
    c.push.new.self.items c.loop-calls.invariant c.in-Some.is c.in_ok-push.ensures.items c.if-next-start.false
    (c.requires.within c.loop-calls.here c.in-Some.next c.in-Some.is)
