use Rattle.death_cleanup.specs.View.{state_of}
use Rattle.lwp_calls.proofs.Ends.{ends-alone, ends-not, ends-told}
use Rattle.lwp_calls.proofs.pod.has_ended.Goals as goal
use Rattle.std.proofs.Common.{ap, not, sym, ◌∙◌}

pub returns-then-parts : goal.returns-then-parts
returns-then-parts c = c.if-parts.true ∙ sym (ends-told (state_of c.args.parts.now) c.if-parts.true)

pub returns-then-is_none : goal.returns-then-is_none
returns-then-is_none c =
    c.all_serve.ensures
    ∙ sym (ends-alone (state_of c.args.parts.now) _ c.args.next.now c.requires c.if-parts.false (c.is_none.ensures ∙ ap not c.if-is_none.true))

pub returns-else-is_none : goal.returns-else-is_none
returns-else-is_none c =
    c.if-is_none.false
    ∙ sym (ends-not (state_of c.args.parts.now) _ c.args.next.now c.requires c.if-parts.false (c.is_none.ensures ∙ ap not c.if-is_none.false))
