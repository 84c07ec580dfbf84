use Rattle.death_cleanup.specs.View.{state_of}
use Rattle.lwp_calls.proofs.Lists.{serve-not, serve-on}
use Rattle.lwp_calls.proofs.asks.all_serve.Goals as goal
use Rattle.std.proofs.Common.{sym}
use Rattle.std.specs.List.{list_all}

pub returns-then-not-serves : goal.returns-then-not-serves
returns-then-not-serves c = serve-not c.args.parts.now.last_prio c.args.parts.now.sched.threads c.args.parts.now.ids.live c.loop-i.i
    c.nth_of.result.0 c.nth_of.result.1.now c.nth_of.ensures (sym c.if-not-serves.ensures)
    (list_all (λ row. row.flags.server) (state_of c.args.parts.now).threads) c.loop-i.invariant

pub loop-i-preserved : goal.loop-i-preserved
loop-i-preserved c = serve-on c.args.parts.now.last_prio c.args.parts.now.sched.threads c.args.parts.now.ids.live c.loop-i.i
    c.nth_of.result.0 c.nth_of.result.1.now c.nth_of.ensures (sym c.if-not-serves.ensures)
    (list_all (λ row. row.flags.server) (state_of c.args.parts.now).threads) c.loop-i.invariant
