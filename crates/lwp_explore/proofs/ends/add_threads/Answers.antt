use Rattle.lwp_explore.proofs.ends.add_threads.Goals as goal
use Rattle.std.proofs.Common.{◌∷◌, ℕ}
use Rattle.trace_text.proofs.Loops.{no_more, one_more}
use Rattle.trace_text.specs.Lines.{thread_text}

pub loop-place-preserved : goal.loop-place-preserved
loop-place-preserved c =
    one_more (λ (t : ℕ). 32 ∷ thread_text t) c.loop-place.out.items _ c.args.threads.now c.loop-place.place c.loop-place.invariant
    c.add_thread.new.out.items c.get.result (rw c.len-place-end.ensures at c.loop-place-test.true) (rw c.get.ensures at c.in_ok-add_thread.ensures)

pub returns : goal.returns
returns c = no_more (λ (t : ℕ). 32 ∷ thread_text t) c.loop-place.out.items _ c.args.threads.now c.loop-place.place c.loop-place.invariant
    (rw c.len-place-end.ensures at c.loop-place-test.false)
