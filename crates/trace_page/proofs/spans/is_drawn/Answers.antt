use Rattle.std.proofs.Common.{Bool, false, refl, sym, true, ◌&&◌, ◌≡◌}
use Rattle.trace_page.specs.Spans.{is_given, touches}
use Rattle.trace_page.proofs.spans.is_drawn.Goals as goal

-- nothing holds together with what doesn't
both_fail : (b : Bool) → false ≡ (b && false)
both_fail true = refl
both_fail false = refl

pub returns-then-is_given : goal.returns-then-is_given
returns-then-is_given c =
    let given : is_given c.args.span.kind ≡ true = sym c.if-is_given.ensures in
    rw given (both_fail (touches c.args.change c.args.span))
