use Rattle.state_text.proofs.words.add_threads.Goals as goal
use Rattle.std.proofs.Common.{[], ◌∷◌, ℕ}
use Rattle.std.specs.Prelude.{codes}
use Rattle.trace_text.proofs.Loops.{no_more, one_more}
use Rattle.trace_text.specs.Lines.{thread_text}

pub loop-i-preserved : goal.loop-i-preserved
loop-i-preserved c =
    one_more (λ (t : ℕ). 32 ∷ thread_text t) c.loop-i.out.items _ c.args.threads.now c.loop-i.i c.loop-i.invariant
    c.add_word_id.new.out.items c.get.result (rw c.len-i-end.ensures at c.loop-i-test.true) (rw c.get.ensures at c.in_ok-add_word_id.ensures)

pub returns : goal.returns
returns c = no_more (λ (t : ℕ). 32 ∷ thread_text t) c.loop-i.out.items _ c.args.threads.now c.loop-i.i c.loop-i.invariant
    (rw c.len-i-end.ensures at c.loop-i-test.false)
