use Rattle.std.proofs.Common.{arith, List, sym, subst, length}
use Rattle.std.proofs.lemmas.Bool.{ltb-true}
use Rattle.std.specs.List.{AllByRecursion}
use Rattle.std.specs.Prelude.{IsTrue}
use Rattle.lwp_types.specs.TextFields.{is_text}
use Rattle.lists.specs.Texts.{texts_in}
use Rattle.lists.specs.declared.text_list.Span.{Span}
use Rattle.lists.proofs.TextLaws.{span_is_text}
use Rattle.std.proofs.lemmas.Grind.{common_steps}
use Rattle.lists.proofs.text_list.TextList.bytes.Goals as goal

pub returns-in-Some-clause-is_text : goal.returns-in-Some-clause-is_text
returns-in-Some-clause-is_text c =
    let b = c.self.inside.bytes.items in
    let spans = c.deref.result.now in
    let are : AllByRecursion (λ x. IsTrue (is_text x)) (texts_in b spans) =
    subst (λ (l : List Span). AllByRecursion (λ x. IsTrue (is_text x)) (texts_in b l)) (sym c.deref.ensures.value) c.self.invariant.1 in
    let found = c.in-Some.ensures.lookup in
    rw (c.text_in.ensures, c.deref-in-Some.ensures.value)
    (span_is_text spans b c.args.i c.in-Some.span.now _ are (ltb-true c.args.i (length spans) (sym found.0)) found.1)

pub returns-in-Some-clause-same : goal.returns-in-Some-clause-same
returns-in-Some-clause-same c = grind (arith, common_steps)

pub returns-in-None-clause-same : goal.returns-in-None-clause-same
returns-in-None-clause-same c = grind (arith, common_steps)

pub returns-in-None-clause-is_text : goal.returns-in-None-clause-is_text
returns-in-None-clause-is_text c = grind (arith, common_steps)
