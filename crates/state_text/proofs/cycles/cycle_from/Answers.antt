use Rattle.snapshots.specs.Copies.{state_in}
use Rattle.state_text.proofs.Rounds.{round_closes, round_ends, round_less, round_on, round_spent, round_starts}
use Rattle.state_text.proofs.Telling.{as_many}
use Rattle.state_text.specs.Waiting.{next_of, round}
use Rattle.std.proofs.Common.{ap, arith, false, length, ltb, sym, ◌<◌, ◌∙◌, ◌≡◌, ◌≤◌}
use Rattle.std.proofs.lemmas.Bool.{false_from_ne_true, lt-ltb, ltb-true}
use Rattle.state_text.proofs.cycles.cycle_from.Goals as goal

pub loop-step-init : goal.loop-step-init
loop-step-init c =
    let next = next_of (state_in c.args.pod.now.state) in
    rw (c.new-cycle.ensures, c.start.view_is) (round_starts next c.args.start (length c.args.pod.now.state.threads)
    ∙ ap (λ n. round next c.args.start n c.args.start) (sym (as_many c.args.pod.now.state)))

pub loop-step-preserved : goal.loop-step-preserved
loop-step-preserved c =
    let ge : c.args.start ≤ c.loop-step.here = rw (c.here.view_is, c.start.view_is) at c.if-here-start.false in
    let least : ltb c.loop-step.here c.args.start
    ≡ false = false_from_ne_true (ltb c.loop-step.here c.args.start) (λ e. absurd (omega (arith, ge, ltb-true c.loop-step.here c.args.start e))) in
    rw (c.in_ok-push.ensures.ok, c.here.view_is) (round_on (next_of (state_in c.args.pod.now.state)) c.args.start
    (length c.args.pod.now.state.threads) c.loop-step.step c.loop-step.here c.loop-step.cycle _ c.loop-step.invariant
    (rw c.len-step-end.ensures at c.loop-step-test.true) least c.in-Some.next (sym c.next_of.ensures ∙ c.in-Some.is) (sym c.if-eq.ensures))

pub returns-then-here-start : goal.returns-then-here-start
returns-then-here-start c =
    let lt : c.loop-step.here < c.args.start = rw (c.here.view_is, c.start.view_is) at c.if-here-start.true in
    round_less (next_of (state_in c.args.pod.now.state)) c.args.start (length c.args.pod.now.state.threads) c.loop-step.step
    c.loop-step.here c.loop-step.cycle _ c.loop-step.invariant (rw c.len-step-end.ensures at c.loop-step-test.true)
    (lt-ltb c.loop-step.here c.args.start lt)

pub returns-in_default : goal.returns-in_default
returns-in_default c =
    let ge : c.args.start ≤ c.loop-step.here = rw (c.here.view_is, c.start.view_is) at c.if-here-start.false in
    let least : ltb c.loop-step.here c.args.start
    ≡ false = false_from_ne_true (ltb c.loop-step.here c.args.start) (λ e. absurd (omega (arith, ge, ltb-true c.loop-step.here c.args.start e))) in
    round_ends (next_of (state_in c.args.pod.now.state)) c.args.start (length c.args.pod.now.state.threads) c.loop-step.step
    c.loop-step.here c.loop-step.cycle _ c.loop-step.invariant (rw c.len-step-end.ensures at c.loop-step-test.true) least
    (sym c.next_of.ensures ∙ c.in_default.is)

pub returns-then-eq : goal.returns-then-eq
returns-then-eq c =
    let ge : c.args.start ≤ c.loop-step.here = rw (c.here.view_is, c.start.view_is) at c.if-here-start.false in
    let least : ltb c.loop-step.here c.args.start
    ≡ false = false_from_ne_true (ltb c.loop-step.here c.args.start) (λ e. absurd (omega (arith, ge, ltb-true c.loop-step.here c.args.start e))) in
    rw (c.in_ok-push.ensures.ok, c.here.view_is) (round_closes (next_of (state_in c.args.pod.now.state)) c.args.start
    (length c.args.pod.now.state.threads) c.loop-step.step c.loop-step.here c.loop-step.cycle _ c.loop-step.invariant
    (rw c.len-step-end.ensures at c.loop-step-test.true) least c.in-Some.next (sym c.next_of.ensures ∙ c.in-Some.is) (sym c.if-eq.ensures))

pub returns : goal.returns
returns c =
    round_spent (next_of (state_in c.args.pod.now.state)) c.args.start (length c.args.pod.now.state.threads) c.loop-step.step
    c.loop-step.here c.loop-step.cycle _ c.loop-step.invariant (rw c.len-step-end.ensures at c.loop-step-test.false)
