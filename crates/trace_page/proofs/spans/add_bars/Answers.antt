use Rattle.std.proofs.Common.{Bool, List, [], ap, append-nil, cond, false, get_or, sym, true, ◌++◌, ◌∙◌, ◌∷◌, ◌≡◌}
use Rattle.trace_text.proofs.Loops.{no_more, one_more}
use Rattle.trace_page.proofs.spans.add_bars.Goals as goal
use Rattle.trace_page.proofs.spans.add_bars.Goals.{else-is_drawn, then-is_drawn+in_ok-push}
use Rattle.trace_page.specs.Spans.{bar, is_drawn}
use Rattle.trace_page.specs.declared.scene.Moment.{Moment}
use Rattle.trace_page.specs.declared.scene.Shape.{Shape}
use Rattle.trace_page.specs.declared.scene.Shape.TheVariants as shape
use Rattle.trace_page.specs.declared.scene.Span.{Span}
use Rattle.trace_page.specs.declared.spans.Change.{Change}

-- a bar is appended, or none
told : (change : Change) (to : Moment) (span : Span) (out : List Shape) (drawn : Bool) → drawn ≡ is_drawn change span
    → out ++ cond drawn (shape.Bar span to ∷ []) [] ≡ out ++ bar change to span
told change to span out drawn e = ap (λ b. out ++ cond b (shape.Bar span to ∷ []) []) e

pub loop-span-preserved : goal.loop-span-preserved
loop-span-preserved c =
    let put : c.if-is_drawn.out.items ≡ c.loop-span.out.items ++ bar c.args.change c.args.to (get_or c.args.spans.now c.loop-span.span-index _) =
    elim c.if-is_drawn.branch [
      | then-is_drawn+in_ok-push w
          ↦ ap (λ v. v.items) w.out-is ∙ (w.in_ok-push.ensures.items ∙ told c.args.change c.args.to _ c.loop-span.out.items true w.if-is_drawn.ensures)
      | else-is_drawn w ↦ ap (λ v. v.items) w.out-is ∙ (sym (append-nil _) ∙ told c.args.change c.args.to _ c.loop-span.out.items false w.if-is_drawn.ensures)
    ] in
    one_more (bar c.args.change c.args.to) c.loop-span.out.items _ c.args.spans.now c.loop-span.span-index c.loop-span.invariant
    c.if-is_drawn.out.items _ c.loop-span-test.true put

pub returns : goal.returns
returns c = no_more (bar c.args.change c.args.to) c.loop-span.out.items _ c.args.spans.now c.loop-span.span-index c.loop-span.invariant c.loop-span-test.false
