use Rattle.lwp_calls.proofs.Counts.{threads-count}
use Rattle.lwp_calls.proofs.asks.thread_count.Goals as goal
use Rattle.std.proofs.Common.{◌∙◌}

pub returns-clause-value : goal.returns-clause-value
returns-clause-value c = c.len.ensures.value ∙ threads-count c.args.parts.now c.requires.lawful c.requires.alone c.len.ensures.ordered.known_once
