use Rattle.std.proofs.Common.{◌≡◌, ◌+◌, ◌++◌, ◌∷◌, [], rules, subst, sym, length, length-append, ◌∙◌, List, ℕ}
use mathlib.Core.List.{append_assoc}
use Rattle.std.specs.List.{AllByRecursion}
use Rattle.std.specs.Prelude.{IsTrue}
use Rattle.lwp_types.specs.TextFields.{is_text}
use Rattle.lists.specs.Texts.{AreWithin, texts_in}
use Rattle.lists.proofs.TextLaws.{on_err, texts_push, texts_same, within_push, are_push, within_bytes, are_bytes}
use Rattle.lists.proofs.text_list.TextList.push_text.Goals as goal

pub invariant_of-self-in_err-extend_from_slice-2 : goal.invariant_of-self-in_err-extend_from_slice-2
invariant_of-self-in_err-extend_from_slice-2 c =
    let s = c.self.inside.spans.items in
    let b = c.self.inside.bytes.items in
    let lead = c.parts.result.0.now in
    rw (c.in_err-extend_from_slice-2.ensures.items, c.in_ok-extend_from_slice.ensures.items)
    (within_bytes s b lead c.self.invariant.0, are_bytes s b lead c.self.invariant.0 c.self.invariant.1)

pub returns-in_err-extend_from_slice-2-clause-err : goal.returns-in_err-extend_from_slice-2-clause-err
returns-in_err-extend_from_slice-2-clause-err c =
    let s = c.self.inside.spans.items in
    let b = c.self.inside.bytes.items in
    let lead = c.parts.result.0.now in
    rw (c.in_err-extend_from_slice-2.ensures.items, c.in_ok-extend_from_slice.ensures.items)
    (on_err c.from_residual-in_err-extend_from_slice-2.result (texts_same s b lead c.self.invariant.0 ∙ c.self.view_is))

pub invariant_of-self-in_err-push : goal.invariant_of-self-in_err-push
invariant_of-self-in_err-push c =
    let s = c.self.inside.spans.items in
    let b = c.self.inside.bytes.items in
    let lead = c.parts.result.0.now in
    let rest = c.parts.result.1.now in
    let within = within_bytes s b lead c.self.invariant.0 in
    rw (c.in_err-push.ensures.items, c.in_ok-extend_from_slice-2.ensures.items, c.in_ok-extend_from_slice.ensures.items)
    (within_bytes s (b ++ lead) rest within, are_bytes s (b ++ lead) rest within (are_bytes s b lead c.self.invariant.0 c.self.invariant.1))

pub returns-in_err-push-clause-err : goal.returns-in_err-push-clause-err
returns-in_err-push-clause-err c =
    let s = c.self.inside.spans.items in
    let b = c.self.inside.bytes.items in
    let lead = c.parts.result.0.now in
    let rest = c.parts.result.1.now in
    rw (c.in_err-push.ensures.items, c.in_ok-extend_from_slice-2.ensures.items, c.in_ok-extend_from_slice.ensures.items)
    (on_err c.from_residual-in_err-push.result
    (texts_same s (b ++ lead) rest (within_bytes s b lead c.self.invariant.0) ∙ texts_same s b lead c.self.invariant.0 ∙ c.self.view_is))

pub invariant_of-self-2 : goal.invariant_of-self-2
invariant_of-self-2 c =
    let s = c.self.inside.spans.items in
    let b = c.self.inside.bytes.items in
    let lead = c.parts.result.0.now in
    let rest = c.parts.result.1.now in
    let start : c.len-start.result ≡ length b = search rules in
    let text : IsTrue (is_text (lead ++ rest)) = subst (λ xs. IsTrue (is_text xs)) (sym c.parts.ensures.same) c.parts.ensures.is_text in
    rw (c.in_ok-push.ensures.items, c.in_ok-extend_from_slice-2.ensures.items, c.in_ok-extend_from_slice.ensures.items)
    (subst (λ (y : List ℕ × ℕ). AreWithin (length y.0) (s ++ record { start = c.len-start.result; len = y.1 } ∷ [])
    × AllByRecursion (λ x. IsTrue (is_text x)) (texts_in y.0 (s ++ record { start = c.len-start.result; len = y.1 } ∷ [])))
    (λ i. (sym (append_assoc b lead rest) i, length-append lead rest i)) (
      within_push s b (lead ++ rest) c.len-start.result start c.self.invariant.0,
      are_push s b (lead ++ rest) c.len-start.result start c.self.invariant.0 c.self.invariant.1 text,
    ))

pub returns-clause-ok : goal.returns-clause-ok
returns-clause-ok c =
    let s = c.self.inside.spans.items in
    let b = c.self.inside.bytes.items in
    let lead = c.parts.result.0.now in
    let rest = c.parts.result.1.now in
    let start : c.len-start.result ≡ length b = search rules in
    rw (c.in_ok-push.ensures.items, c.in_ok-extend_from_slice-2.ensures.items, c.in_ok-extend_from_slice.ensures.items)
    (subst (λ (y : List ℕ × ℕ × List ℕ × List (List ℕ)). texts_in y.0 (s ++ record { start = c.len-start.result; len = y.1 } ∷ []) ≡ y.3 ++ y.2 ∷ [])
    (λ i. (sym (append_assoc b lead rest) i, length-append lead rest i, c.parts.ensures.same i, c.self.view_is i))
    (texts_push s b (lead ++ rest) c.len-start.result start c.self.invariant.0))
