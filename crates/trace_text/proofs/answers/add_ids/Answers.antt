use Rattle.std.proofs.Common.{[], take, ℕ, ◌∷◌}
use Rattle.trace_text.proofs.Loops.{no_more, one_more}
use Rattle.trace_text.proofs.answers.add_ids.Goals as goal
use Rattle.trace_text.specs.Lines.{id_text}

pub loop-i-preserved : goal.loop-i-preserved
loop-i-preserved c = (
  one_more (λ (n : ℕ). 32 ∷ id_text (c.args.letter ∷ []) n) (take c.loop-i.end c.loop-i.row.items) _ c.args.list.now c.loop-i.i
      c.loop-i.invariant.0 (take c.in_ok-end.end c.add_id.new.row.items) c.get.result (rw c.len-i-end.ensures at c.loop-i-test.true)
      (rw c.get.ensures at c.in_ok-end.ensures.text),
  c.in_ok-end.ensures.end,
)

pub returns-clause-text : goal.returns-clause-text
returns-clause-text c =
    no_more (λ (n : ℕ). 32 ∷ id_text (c.args.letter ∷ []) n) (take c.loop-i.end c.loop-i.row.items) _ c.args.list.now c.loop-i.i
    c.loop-i.invariant.0 (rw c.len-i-end.ensures at c.loop-i-test.false)

pub returns-clause-end : goal.returns-clause-end
returns-clause-end c = c.loop-i.invariant.1
