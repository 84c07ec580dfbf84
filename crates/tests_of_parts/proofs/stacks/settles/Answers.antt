use Rattle.exc_stack.proofs.Frames.{first-append}
use Rattle.exc_stack.specs.Stack.{handlers_on_top}
use Rattle.lwp_types.specs.Exceptions.{first_frames, frames}
use Rattle.lwp_types.specs.declared.rows.Mark.{Mark}
use Rattle.std.proofs.Common.{List, [], ap, append-nil, sym, ◌<◌, ◌∙◌, ◌≡◌, ℕ}
use Rattle.tests_of_parts.proofs.stacks.settles.Goals as goal

-- a handler is in reach of the whole stack if it is in the topmost frame
on_top : (ms : List Mark) (depth mark : ℕ) → depth ≡ frames ms → mark < handlers_on_top (first_frames depth ms) → mark < handlers_on_top ms
on_top ms depth mark e h = rw (ap (first_frames depth) (sym (append-nil ms)) ∙ first-append depth ms [] e ∙ append-nil ms) at h

pub settle-requires : goal.settle-requires
settle-requires c = on_top c.args.stack.now c.in-Some.found.depth c.in-Some.found.mark (c.if-found-frames.false ∙ c.frames.ensures)
    c.in-Some.ensures.in_reach.number
