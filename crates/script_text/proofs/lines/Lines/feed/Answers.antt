use Rattle.std.proofs.Common.{refl, sym, ap, ◌∙◌}
use Rattle.script_text.specs.Kept.{kept_bytes}
use Rattle.script_text.proofs.CutLaws.{line_lines, line_tail, end_lines, end_tail}
use Rattle.script_text.proofs.lines.Lines.feed.Goals as goal

pub loop-line-preserved : goal.loop-line-preserved
loop-line-preserved c = λ t.
    let k = c.loop-line.invariant t in
    let r = c.loop-line.self in (
      rw c.in_ok-line.ensures.tail refl,
      rw (c.in_ok-line.ensures.tail, c.in_ok-line.ensures.reader)
          (line_lines r.reader r.tail.items c.loop-line.rest.now c.in-Some.line.now c.in-Some.after.now k.0 c.in-Some.ensures.some ∙ k.1),
      rw c.in_ok-line.ensures.tail (line_tail r.tail.items c.loop-line.rest.now c.in-Some.line.now c.in-Some.after.now k.0 c.in-Some.ensures.some ∙ k.2),
    )

pub returns-clause-reader : goal.returns-clause-reader
returns-clause-reader c = λ t.
    let k = c.loop-line.invariant t in
    let r = c.loop-line.self in
    sym (end_lines r.reader r.tail.items c.loop-line.rest.now k.0 c.in_default.ensures.none) ∙ k.1

pub returns-clause-tail : goal.returns-clause-tail
returns-clause-tail c = λ t.
    let k = c.loop-line.invariant t in
    let r = c.loop-line.self in
    c.in_ok-keep.ensures ∙ ap kept_bytes (end_tail r.tail.items c.loop-line.rest.now k.0 c.in_default.ensures.none ∙ k.2)
