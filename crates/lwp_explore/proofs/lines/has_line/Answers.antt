use Rattle.lwp_explore.proofs.LineLaws.{line_ends, line_goes_on}
use Rattle.lwp_explore.proofs.lines.has_line.Goals as goal
use Rattle.lwp_explore.proofs.lines.has_line.Goals.{else-text-place-eq10, then-text-place-eq10+else-eq}
use Rattle.lwp_explore.specs.Lines.{has_line_by}
use Rattle.std.proofs.Common.{ap, arith, drop, slice_range, sym, ◌+◌, ◌∙◌}

pub loop-place-preserved : goal.loop-place-preserved
loop-place-preserved c =
    let text = c.args.text.now in
    let place = c.loop-place.place in
    elim c.if-text-place-eq10.branch [
      | then-text-place-eq10+else-eq w ↦ (
        omega (arith, w.start-is),
        c.loop-place.invariant.1
            ∙ line_ends text c.args.line.now c.loop-place.start place c.loop-place.invariant.0 c.loop-place-test.true w.if-text-place-eq10.true (sym w.eq.ensures ∙ w.if-eq.false)
            ∙ ap (λ s. has_line_by (slice_range text s (place + 1)) (drop (place + 1) text) c.args.line.now) (sym w.start-is),
      )
      | else-text-place-eq10 w ↦ (
        omega (arith, w.start-is, c.loop-place.invariant.0),
        c.loop-place.invariant.1
            ∙ line_goes_on text c.args.line.now c.loop-place.start place c.loop-place.invariant.0 c.loop-place-test.true w.if-text-place-eq10.false
            ∙ ap (λ s. has_line_by (slice_range text s (place + 1)) (drop (place + 1) text) c.args.line.now) (sym w.start-is),
      )
    ]
