use Rattle.lwp_calls.proofs.Machines.{any-first, any-none}
use Rattle.lwp_calls.proofs.asks.has_agent.Goals as goal
use Rattle.std.proofs.Common.{ap, arith, sym, ◌∙◌}
use Rattle.std.specs.Prelude.{is_some}

pub returns-then-len-eq0 : goal.returns-then-len-eq0
returns-then-len-eq0 c = sym (any-none c.args.event c.args.parts.now.agents.agents (omega (arith, c.if-len-eq0.true, c.len.ensures)))

pub returns-in-Some : goal.returns-in-Some
returns-in-Some c = sym (any-first c.args.event c.args.parts.now.agents.agents ∙ ap is_some (sym c.nth_of.ensures ∙ c.in-Some.is))

pub returns-in-None : goal.returns-in-None
returns-in-None c = sym (any-first c.args.event c.args.parts.now.agents.agents ∙ ap is_some (sym c.nth_of.ensures ∙ c.in-None.is))
