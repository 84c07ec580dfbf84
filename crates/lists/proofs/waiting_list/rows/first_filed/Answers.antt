use Rattle.std.proofs.Common.{refl, sym}
use Rattle.lists.proofs.WaitingLaws.EntryLaws.{first_at, none_filed, not_missed}
use Rattle.lists.proofs.WaitingLaws.LineLaws.{if_none, if_some}
use Rattle.lists.proofs.waiting_list.rows.first_filed.Goals as goal
use Rattle.lists.specs.WaitingList.Entries.{arrival_key}

pub returns-in_err-key-clause-none : goal.returns-in_err-key-clause-none
returns-in_err-key-clause-none c =
    rw c.from_residual.ensures (none_filed arrival_key c.args.entries.now.items c.args.arrived.now.items c.requires.filed c.args.what
    (sym c.in_err-key.ensures))

pub returns-clause-none : goal.returns-clause-none
returns-clause-none c =
    if_none c.place_of.result _ _ c.place_of.ensures.none (λ none. absurd (not_missed arrival_key c.args.entries.now.items
    c.args.arrived.now.items c.requires.filed c.args.what c.in_ok-key.key (sym c.in_ok-key.ensures) (λ e. refl) c.requires.rising none))

pub returns-clause-some : goal.returns-clause-some
returns-clause-some c =
    if_some c.place_of.result _ _ c.place_of.ensures.some (λ at here. first_at c.args.entries.now.items c.args.arrived.now.items
    c.requires.filed c.requires.rising c.args.what c.in_ok-key.key (sym c.in_ok-key.ensures) at here)
