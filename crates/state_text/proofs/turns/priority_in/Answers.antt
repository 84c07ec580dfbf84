use Rattle.lwp_types.specs.State.{ThreadRow}
use Rattle.snapshots.specs.declared.pod.ThreadCopy.{ThreadCopy}
use Rattle.state_text.proofs.Finding.{thread_found, thread_missing}
use Rattle.std.proofs.Common.{Option, ap, get_or, sym, ◌∙◌}
use Rattle.std.specs.Prelude.{option_map, unwrap_or}
use Rattle.state_text.proofs.turns.priority_in.Goals as goal

pub returns-in-Some : goal.returns-in-Some
returns-in-Some c =
    let d = c.index-as_slice-place.result in
    ap (λ ls. (get_or ls c.in-Some.place d).priority) c.as_slice.ensures
    ∙ sym (ap (λ (o : Option ThreadRow). unwrap_or (option_map (λ (row : ThreadRow). row.priority) o) 0)
    (thread_found c.args.pod.now.state c.args.tables.now.threads c.requires.threads c.args.tid d c.in-Some.place (rw c.tid.view_is at c.in-Some.ensures)))

pub returns-in-None : goal.returns-in-None
returns-in-None c =
    sym (ap (λ (o : Option ThreadRow). unwrap_or (option_map (λ (row : ThreadRow). row.priority) o) 0)
    (thread_missing c.args.pod.now.state c.args.tables.now.threads c.requires.threads c.args.tid (rw c.tid.view_is at c.in-None.ensures)))
