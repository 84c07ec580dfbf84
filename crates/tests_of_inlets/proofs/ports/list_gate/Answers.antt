use Rattle.std.proofs.Common.{◌<◌, [], ◌∷◌, arith}
use Rattle.std.proofs.lemmas.List.Elements.{All-cons}
use Rattle.lwp_types.specs.declared.call.Line.{Line}
use Rattle.tests_of_inlets.proofs.ports.list_gate.Goals as goal

abbrev IsKnown : Line → Type 0
IsKnown l = l.client < 3

pub new-requires-clause-clients : goal.new-requires-clause-clients
new-requires-clause-clients c =
    let a = c.line.result in let b = c.line-2.result in let d = c.line-3.result in let e = c.line-4.result in
    All-cons IsKnown a (b ∷ d ∷ e ∷ []) (omega (arith, c.line.ensures))
    (All-cons IsKnown b (d ∷ e ∷ []) (omega (arith, c.line-2.ensures))
    (All-cons IsKnown d (e ∷ []) (omega (arith, c.line-3.ensures))
    (All-cons IsKnown e [] (omega (arith, c.line-4.ensures)) (λ k f low. absurd (omega arith)))))
