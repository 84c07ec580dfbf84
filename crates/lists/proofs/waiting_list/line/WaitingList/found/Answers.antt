use Rattle.std.proofs.Common.{None, Some, ap, cond, sym, ◌∙◌}
use Rattle.std.proofs.lemmas.Bool.{eq-eqb, ne_eqb}
use Rattle.std.specs.Prelude.{option_map}
use Rattle.lists.proofs.WaitingLaws.KeptLaws.{found_there, not_found}
use Rattle.lists.proofs.waiting_list.line.WaitingList.found.Goals as goal
use Rattle.lists.specs.WaitingList.Entries.{waiting_of}

pub returns-in_err-at : goal.returns-in_err-at
returns-in_err-at c = rw (← c.self.view_is)
    (c.from_residual.ensures ∙ sym (not_found c.args.what c.args.tid c.self.inside.entries.items c.in_err-at.ensures.none))

pub returns-then-entry-what : goal.returns-then-entry-what
returns-then-entry-what c =
    let e = c.index.result.now in
    let there = found_there c.self.inside.entries.items _ _ _ _ _ _ _ c.self.invariant c.args.tid c.in_ok-at.at e c.in_ok-at.ensures.some
    c.index.ensures c.args.what in
    rw (← c.self.view_is) (sym (there ∙ ap (λ b. option_map waiting_of (cond b (Some e) None)) (ne_eqb e.what c.args.what c.if-entry-what.true)))

pub returns : goal.returns
returns c =
    let e = c.index.result.now in
    let there = found_there c.self.inside.entries.items _ _ _ _ _ _ _ c.self.invariant c.args.tid c.in_ok-at.at e c.in_ok-at.ensures.some
    c.index.ensures c.args.what in
    rw (← c.self.view_is, c.waiting_of.ensures)
    (sym (there ∙ ap (λ b. option_map waiting_of (cond b (Some e) None)) (eq-eqb e.what c.args.what c.if-entry-what.false)))
