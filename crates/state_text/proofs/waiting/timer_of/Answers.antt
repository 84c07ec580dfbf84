use Rattle.lwp_types.specs.declared.rows.TimerRow.{TimerRow}
use Rattle.state_text.proofs.Finding.{found, not_found}
use Rattle.std.proofs.Common.{Some, ap, get_or, sym, ◌∙◌}
use Rattle.state_text.proofs.waiting.timer_of.Goals as goal

pub returns-in_err-place : goal.returns-in_err-place
returns-in_err-place c =
    rw c.from_residual.ensures (sym (not_found (λ (row : TimerRow). row.tid) c.args.pod.now.state.timers c.args.tables.now.timers
    c.requires.timers c.args.tid (rw c.tid.view_is at c.in_err-place.ensures)))

pub returns : goal.returns
returns c =
    ap Some (c.index-as_slice-place.is ∙ ap (λ ls. get_or ls c.in_ok-place.place c.index-as_slice-place.result) c.as_slice.ensures)
    ∙ sym (found (λ (row : TimerRow). row.tid) c.args.pod.now.state.timers c.args.tables.now.timers c.requires.timers c.args.tid
    c.index-as_slice-place.result c.in_ok-place.place (rw c.tid.view_is at c.in_ok-place.ensures))
