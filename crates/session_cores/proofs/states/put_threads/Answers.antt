use Rattle.session_cores.proofs.Mapped.{mapped}
use Rattle.session_cores.specs.States.{thread_numbers}
use Rattle.snapshots.specs.Copies.{row_in}
use Rattle.std.proofs.Common.{ap, ◌++◌, ◌∙◌}
use Rattle.session_cores.proofs.states.put_threads.Goals as goal

pub returns : goal.returns
returns c = c.in_ok-put_list.ensures ∙ ap (λ l. c.args.key.now ++ l) (mapped row_in thread_numbers c.args.threads.now)
