use Rattle.snapshots.specs.Copies.{row_in, state_in}
use Rattle.snapshots.specs.declared.pod.ThreadCopy.{ThreadCopy}
use Rattle.state_text.proofs.Covering.{begins, further, leads_end, meets, stops}
use Rattle.state_text.proofs.Finding.{count, thread_found, thread_missing}
use Rattle.state_text.specs.Keys.{IsPlace}
use Rattle.state_text.specs.Waiting.{awaited, next_of}
use Rattle.std.proofs.Common.{ap, arith, get_or, length, sym, ◌<◌, ◌∙◌, ◌≡◌}
use Rattle.std.proofs.lemmas.Bool.{ne_eqb}
use Rattle.std.proofs.lemmas.Grind.{get_or_default_zero}
use Rattle.std.specs.Prelude.{option_and_then}
use Rattle.state_text.proofs.cycles.seen_again.Goals as goal

pub loop-step-init : goal.loop-step-init
loop-step-init c =
    let s = state_in c.args.pod.now.state in
    let copy = c.args.pod.now.state in
    let keys = c.args.tables.now.threads in
    begins (next_of s) (length copy.threads) keys c.args.colours.now.items c.args.colour c.args.start

pub loop-step-preserved : goal.loop-step-preserved
loop-step-preserved c =
    let s = state_in c.args.pod.now.state in
    let copy = c.args.pod.now.state in
    let keys = c.args.tables.now.threads in
    let there : IsPlace keys c.loop-step.here 0 c.in_ok-place.place = rw c.here.view_is at c.in_ok-place.ensures in
    let within : c.in_ok-place.place
    < length c.loop-step.colours.items = omega (
      arith,
      there.within,
      count (λ (row : ThreadCopy). row.number) copy.threads keys c.requires.tables.threads 0 0,
      c.loop-step.invariant.places,
      c.requires.places,
    ) in
    let d = c.index-as_slice-place.result in
    let is : next_of s c.loop-step.here ≡ c.awaited.result =
    ap (option_and_then (awaited s)) (thread_found copy keys c.requires.tables.threads c.loop-step.here d c.in_ok-place.place there)
    ∙ sym (ap (λ (x : ThreadCopy). awaited s (row_in x)) (c.index-as_slice-place.is ∙ ap (λ ls. get_or ls c.in_ok-place.place d) c.as_slice.ensures))
    ∙ sym c.awaited.ensures in
    further (next_of s) (length copy.threads) keys c.args.colours.now.items c.args.colour c.args.start c.loop-step.colours.items
    c.loop-step.here c.loop-step.invariant c.in_ok-place.place within there.here c.in_ok-here.here (is ∙ c.in_ok-here.was)

pub returns-in_err-place-clause-followed : goal.returns-in_err-place-clause-followed
returns-in_err-place-clause-followed c =
    let s = state_in c.args.pod.now.state in
    let copy = c.args.pod.now.state in
    let keys = c.args.tables.now.threads in
    rw c.from_residual.ensures (stops (next_of s) (length copy.threads) keys c.args.colours.now.items c.args.colour c.args.start
    c.loop-step.colours.items c.loop-step.here c.loop-step.invariant
    (ap (option_and_then (awaited s)) (thread_missing copy keys c.requires.tables.threads c.loop-step.here (rw c.here.view_is at c.in_err-place.ensures))))

pub returns-then-index-colour-clause-followed : goal.returns-then-index-colour-clause-followed
returns-then-index-colour-clause-followed c = c.loop-step.invariant.leads

pub returns-else-index-colour-clause-followed : goal.returns-else-index-colour-clause-followed
returns-else-index-colour-clause-followed c =
    let s = state_in c.args.pod.now.state in
    let copy = c.args.pod.now.state in
    let keys = c.args.tables.now.threads in
    let there : IsPlace keys c.loop-step.here 0 c.in_ok-place.place = rw c.here.view_is at c.in_ok-place.ensures in
    let within : c.in_ok-place.place
    < length c.loop-step.colours.items = omega (
      arith,
      there.within,
      count (λ (row : ThreadCopy). row.number) copy.threads keys c.requires.tables.threads 0 0,
      c.loop-step.invariant.places,
      c.requires.places,
    ) in
    let colours = c.loop-step.colours.items in
    let place = c.in_ok-place.place in
    meets (next_of s) (length copy.threads) keys c.args.colours.now.items c.args.colour c.args.start colours c.loop-step.here
    c.loop-step.invariant place within there.here
    (ne_eqb (get_or colours place 0) 0 (λ e. c.if-index-ne0.true (c.index.ensures ∙ get_or_default_zero colours place c.index.result.now within ∙ e)))
    (ne_eqb (get_or colours place 0) c.args.colour
    (λ e. c.if-index-colour.false (c.index-then-index-ne0.ensures ∙ get_or_default_zero colours place c.index-then-index-ne0.result.now within ∙ e)))

pub returns-in_err-here-clause-followed : goal.returns-in_err-here-clause-followed
returns-in_err-here-clause-followed c =
    let s = state_in c.args.pod.now.state in
    let copy = c.args.pod.now.state in
    let keys = c.args.tables.now.threads in
    let there : IsPlace keys c.loop-step.here 0 c.in_ok-place.place = rw c.here.view_is at c.in_ok-place.ensures in
    let within : c.in_ok-place.place
    < length c.loop-step.colours.items = omega (
      arith,
      there.within,
      count (λ (row : ThreadCopy). row.number) copy.threads keys c.requires.tables.threads 0 0,
      c.loop-step.invariant.places,
      c.requires.places,
    ) in
    let d = c.index-as_slice-place.result in
    let is : next_of s c.loop-step.here ≡ c.awaited.result =
    ap (option_and_then (awaited s)) (thread_found copy keys c.requires.tables.threads c.loop-step.here d c.in_ok-place.place there)
    ∙ sym (ap (λ (x : ThreadCopy). awaited s (row_in x)) (c.index-as_slice-place.is ∙ ap (λ ls. get_or ls c.in_ok-place.place d) c.as_slice.ensures))
    ∙ sym c.awaited.ensures in
    rw c.from_residual-in_err-here.ensures
    (leads_end (next_of s) (length copy.threads) keys c.args.colours.now.items c.loop-step.colours.items c.args.start c.loop-step.here
    c.in_ok-place.place c.args.colour c.loop-step.invariant.leads there.here (is ∙ c.in_err-here.was))

pub returns-clause-followed : goal.returns-clause-followed
returns-clause-followed c = c.loop-step.invariant.leads
