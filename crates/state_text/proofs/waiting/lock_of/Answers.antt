use Rattle.lwp_types.specs.declared.rows.Lock.{Lock}
use Rattle.state_text.proofs.Finding.{found, not_found}
use Rattle.std.proofs.Common.{Some, ap, get_or, sym, ◌∙◌}
use Rattle.state_text.proofs.waiting.lock_of.Goals as goal

pub returns-in_err-place : goal.returns-in_err-place
returns-in_err-place c =
    rw c.from_residual.ensures (sym (not_found (λ (l : Lock). l.mon) c.args.pod.now.state.locks c.args.tables.now.locked c.requires.locked
    c.args.mon (rw c.mon.view_is at c.in_err-place.ensures)))

pub returns : goal.returns
returns c =
    ap Some (c.index-as_slice-place.is ∙ ap (λ ls. get_or ls c.in_ok-place.place c.index-as_slice-place.result) c.as_slice.ensures)
    ∙ sym (found (λ (l : Lock). l.mon) c.args.pod.now.state.locks c.args.tables.now.locked c.requires.locked c.args.mon
    c.index-as_slice-place.result c.in_ok-place.place (rw c.mon.view_is at c.in_ok-place.ensures))
