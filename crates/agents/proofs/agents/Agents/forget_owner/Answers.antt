use Rattle.agents.proofs.KeptLemmas.{first_gone, first_listed, first_read, none_left}
use Rattle.agents.proofs.agents.Agents.forget_owner.Goals as goal
use Rattle.std.proofs.Common.{ap, sym, ◌∙◌}

pub returns-in_err-number-clause-value : goal.returns-in_err-number-clause-value
returns-in_err-number-clause-value c =
    rw (← c.self.view_is)
    (c.from_residual.ensures ∙ sym c.in_err-number.was
    ∙ first_read c.self.inside.rows.items _ c.self.invariant.owners c.args.owner c.nth.result (rw c.number_of.ensures at c.nth.ensures))

pub returns-in_err-number-clause-after : goal.returns-in_err-number-clause-after
returns-in_err-number-clause-after c =
    let places = c.self.inside.places in
    rw (← c.self.view_is)
    (ap (λ rows. record { agents = rows; places = places })
    (none_left c.self.inside.rows.items _ c.self.invariant.owners c.args.owner c.nth.result (rw c.number_of.ensures at c.nth.ensures) c.in_err-number.was))

pub destroy-requires : goal.destroy-requires
destroy-requires c =
    rw (← c.self.view_is)
    (first_listed c.self.inside.rows.items _ c.self.invariant.owners c.args.owner c.nth.result (rw c.number_of.ensures at c.nth.ensures)
    c.in_ok-number.number c.in_ok-number.was)

pub returns-clause-value : goal.returns-clause-value
returns-clause-value c =
    rw (← c.self.view_is)
    (sym c.in_ok-number.was ∙ first_read c.self.inside.rows.items _ c.self.invariant.owners c.args.owner c.nth.result (rw c.number_of.ensures at c.nth.ensures))

pub returns-clause-after : goal.returns-clause-after
returns-clause-after c =
    let places = c.self.inside.places in
    rw (c.destroy.ensures, ← c.self.view_is)
    (ap (λ rows. record { agents = rows; places = places }) (first_gone c.self.inside.rows.items _ c.self.invariant.owners c.args.owner
    c.nth.result (rw c.number_of.ensures at c.nth.ensures) c.in_ok-number.number c.in_ok-number.was))
