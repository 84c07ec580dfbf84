use Rattle.lwp_explore.proofs.TracingLaws.{tail_none}
use Rattle.lwp_explore.proofs.tracing.with_tail.Goals as goal
use Rattle.lwp_explore.specs.Sessions.{world_of}
use Rattle.lwp_explore.specs.Standing.{core_now}
use Rattle.std.proofs.Common.{ap, append-nil, sym, ◌++◌, ◌∙◌}

pub returns-in-None : goal.returns-in-None
returns-in-None c = sym (append-nil c.args.lines.items) ∙ ap (λ l. c.args.lines.items ++ l)
    (tail_none (world_of c.args.here.now.script) (core_now c.args.here.now) c.halt.result c.halt.ensures c.in-None.is)
