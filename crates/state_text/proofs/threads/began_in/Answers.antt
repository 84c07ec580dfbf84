use Rattle.snapshots.specs.declared.session.ThreadNote.{ThreadNote}
use Rattle.state_text.proofs.Finding.{found, not_found}
use Rattle.std.proofs.Common.{ap, sym}
use Rattle.std.specs.Prelude.{option_map}
use Rattle.state_text.proofs.threads.began_in.Goals as goal

pub returns-in_err-place : goal.returns-in_err-place
returns-in_err-place c =
    rw c.from_residual.ensures (sym (ap (option_map (λ (x : ThreadNote). x.proc))
    (not_found (λ (x : ThreadNote). x.tid) c.args.notes.now c.args.whose.now c.requires c.args.tid (rw c.tid.view_is at c.in_err-place.ensures))))

pub returns : goal.returns
returns c =
    sym (ap (option_map (λ (x : ThreadNote). x.proc)) (found (λ (x : ThreadNote). x.tid) c.args.notes.now c.args.whose.now c.requires
    c.args.tid _ c.in_ok-place.place (rw c.tid.view_is at c.in_ok-place.ensures)))
