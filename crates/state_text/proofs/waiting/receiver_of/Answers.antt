use Rattle.lwp_types.specs.declared.rows.Letter.{Letter}
use Rattle.state_text.proofs.Finding.{found, not_found}
use Rattle.std.proofs.Common.{Some, ap, get_or, sym, ◌∙◌}
use Rattle.std.specs.Prelude.{option_map}
use Rattle.state_text.proofs.waiting.receiver_of.Goals as goal

pub returns-in_err-place : goal.returns-in_err-place
returns-in_err-place c =
    rw c.from_residual.ensures (sym (ap (option_map (λ (l : Letter). l.to)) (not_found (λ (l : Letter). l.from) c.args.pod.now.state.letters
    c.args.tables.now.senders c.requires.senders c.args.tid (rw c.tid.view_is at c.in_err-place.ensures))))

pub returns : goal.returns
returns c =
    ap (λ ls. Some (get_or ls c.in_ok-place.place c.index-as_slice-place.result).to) c.as_slice.ensures
    ∙ sym (ap (option_map (λ (l : Letter). l.to)) (found (λ (l : Letter). l.from) c.args.pod.now.state.letters c.args.tables.now.senders
    c.requires.senders c.args.tid c.index-as_slice-place.result c.in_ok-place.place (rw c.tid.view_is at c.in_ok-place.ensures)))
