use Rattle.snapshots.specs.Copies.{state_in}
use Rattle.state_text.proofs.Covering.{least_closes, least_ends, least_on, least_spent}
use Rattle.state_text.specs.Waiting.{next_of}
use Rattle.std.proofs.Common.{Some, ap, length, sym, ◌∙◌}
use Rattle.std.proofs.lemmas.Bool.{eqb-true}
use Rattle.state_text.proofs.cycles.least_of.Goals as goal

pub loop-step-preserved : goal.loop-step-preserved
loop-step-preserved c =
    rw (c.min-least.ensures, c.next.view_is) (least_on (next_of (state_in c.args.pod.now.state)) (length c.args.pod.now.state.threads)
    c.args.start c.loop-step.step c.loop-step.here c.loop-step.least c.loop-step.invariant c.in-Some.next (sym c.next_of.ensures ∙ c.in-Some.is))

pub returns-in_default : goal.returns-in_default
returns-in_default c =
    least_ends (next_of (state_in c.args.pod.now.state)) (length c.args.pod.now.state.threads) c.args.start c.loop-step.step
    c.loop-step.here c.loop-step.least c.loop-step.invariant (sym c.next_of.ensures ∙ c.in_default.is)

pub returns-then-eq : goal.returns-then-eq
returns-then-eq c =
    least_closes (next_of (state_in c.args.pod.now.state)) (length c.args.pod.now.state.threads) c.args.start c.loop-step.step
    c.loop-step.here c.loop-step.least c.loop-step.invariant
    (sym c.next_of.ensures ∙ c.in-Some.is ∙ ap Some (eqb-true c.in-Some.next c.args.start (sym c.if-eq.ensures)))

pub returns : goal.returns
returns c =
    least_spent (next_of (state_in c.args.pod.now.state)) (length c.args.pod.now.state.threads) c.args.start c.loop-step.step
    c.loop-step.here c.loop-step.least c.loop-step.invariant (rw c.len-step-end.ensures at c.loop-step-test.false)
