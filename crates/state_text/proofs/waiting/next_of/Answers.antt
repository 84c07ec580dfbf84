use Rattle.snapshots.specs.Copies.{row_in, state_in}
use Rattle.snapshots.specs.declared.pod.ThreadCopy.{ThreadCopy}
use Rattle.state_text.proofs.Finding.{thread_found, thread_missing}
use Rattle.state_text.specs.Waiting.{awaited}
use Rattle.std.proofs.Common.{ap, get_or, sym, ◌∙◌}
use Rattle.std.specs.Prelude.{option_and_then}
use Rattle.state_text.proofs.waiting.next_of.Goals as goal

pub returns-in_err-place : goal.returns-in_err-place
returns-in_err-place c =
    rw c.from_residual.ensures (sym (ap (option_and_then (awaited (state_in c.args.pod.now.state)))
    (thread_missing c.args.pod.now.state c.args.tables.now.threads c.requires.threads c.args.tid (rw c.tid.view_is at c.in_err-place.ensures))))

pub returns : goal.returns
returns c =
    let s = state_in c.args.pod.now.state in
    let d = c.index-as_slice-place.result in
    c.awaited.ensures
    ∙ ap (λ (x : ThreadCopy). awaited s (row_in x)) (c.index-as_slice-place.is ∙ ap (λ ls. get_or ls c.in_ok-place.place d) c.as_slice.ensures)
    ∙ sym (ap (option_and_then (awaited s)) (thread_found c.args.pod.now.state c.args.tables.now.threads c.requires.threads c.args.tid d
    c.in_ok-place.place (rw c.tid.view_is at c.in_ok-place.ensures)))
