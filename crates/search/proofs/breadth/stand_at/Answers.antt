use Rattle.search.proofs.Steps.{comes_there, may_go}
use Rattle.std.proofs.Common.{Some, subst, ◌∙◌, ◌≡◌}
use Rattle.std.specs.Prelude.{IfSome, slice_get}
use Rattle.search.proofs.breadth.stand_at.Goals as goal

pub returns-in-Some-clause-same : goal.returns-in-Some-clause-same
returns-in-Some-clause-same g c = (c.requires.standing 0 c.args.at c.in-Some.copy (subst (λ o. IfSome o
    (λ copy. slice_get c.args.waiting.now.items 0 ≡ Some (c.args.at, copy))) c.in-Some.is c.take_copy.ensures.first)).0

pub returns-in-Some-clause-here : goal.returns-in-Some-clause-here
returns-in-Some-clause-here g c = (c.requires.standing 0 c.args.at c.in-Some.copy (subst (λ o. IfSome o
    (λ copy. slice_get c.args.waiting.now.items 0 ≡ Some (c.args.at, copy))) c.in-Some.is c.take_copy.ensures.first)).1

pub go-requires-clause-leads : goal.go-requires-clause-leads
go-requires-clause-leads g c = may_go (g.M.Machine.moves c.args.machine.now) c.args.rows.now c.args.at c.deref.result.now c.requires.sound
    c.requires.within
    (c.deref.ensures.value ∙ c.in_ok-path.ensures)

pub returns-clause-here : goal.returns-clause-here
returns-clause-here g c = comes_there (g.M.Machine.moves c.args.machine.now) c.args.rows.now c.args.at c.deref.result.now
    (g.M.Machine.core c.in_ok-here.here) c.requires.sound c.requires.within
    (c.deref.ensures.value ∙ c.in_ok-path.ensures) c.in_ok-here.ensures.there
