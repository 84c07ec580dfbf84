use Rattle.lwp_calls.proofs.message_calls.block_takes.Goals as goal
use Rattle.lwp_types.specs.Messages.{takes_from}
use Rattle.lwp_types.specs.declared.rows.Block.TheVariants as block
use Rattle.std.proofs.Common.{ap, sym, ◌∙◌}

pub returns-in-Some : goal.returns-in-Some
returns-in-Some c = c.eq.ensures ∙ sym (ap (takes_from c.args.sender) (c.in-Receiving.is ∙ ap (λ o. block.Receiving o) c.in-Some.is))
