use Rattle.lwp_explore.proofs.ends.add_each.Goals as goal
use Rattle.state_text.specs.Text.{thread_words}
use Rattle.std.proofs.Common.{List, ap, append_assoc, ℕ, ◌++◌, ◌∙◌}
use Rattle.std.specs.Prelude.{codes}
use Rattle.trace_text.proofs.Loops.{no_more, one_more}

pub loop-place-preserved : goal.loop-place-preserved
loop-place-preserved c =
    one_more (λ (threads : List ℕ). codes ", cycle" ++ thread_words threads) c.loop-place.out.items _ c.args.cycles.now c.loop-place.place
    c.loop-place.invariant c.add_threads.new.out.items c.index-cycles-place.result c.loop-place-test.true
    (c.in_ok-add_threads.ensures ∙ ap (λ l. l ++ thread_words c.index-cycles-place.result) c.in_ok-add.ensures
    ∙ append_assoc c.loop-place.out.items (codes ", cycle") (thread_words c.index-cycles-place.result)
    ∙ ap (λ threads. c.loop-place.out.items ++ (codes ", cycle" ++ thread_words threads)) c.index-cycles-place.is)

pub returns : goal.returns
returns c = no_more (λ (threads : List ℕ). codes ", cycle" ++ thread_words threads) c.loop-place.out.items _ c.args.cycles.now c.loop-place.place
    c.loop-place.invariant c.loop-place-test.false
