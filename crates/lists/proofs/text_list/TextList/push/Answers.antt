use Rattle.std.proofs.Common.{◌≡◌, ◌++◌, ◌∷◌, [], ap, rules, length, ◌∙◌, List, ℕ}
use Rattle.lists.proofs.TextLaws.{on_err, texts_push, texts_same, within_push, are_push, within_bytes, are_bytes}
use Rattle.lists.proofs.text_list.TextList.push.Goals as goal

pub invariant_of-self-in_err-push : goal.invariant_of-self-in_err-push
invariant_of-self-in_err-push c =
    let s = c.self.inside.spans.items in
    let b = c.self.inside.bytes.items in
    rw (c.in_err-push.ensures.items, c.in_ok-extend_from_slice.ensures.items)
    (within_bytes s b c.args.text.now c.self.invariant.0, are_bytes s b c.args.text.now c.self.invariant.0 c.self.invariant.1)

pub invariant_of-self-2 : goal.invariant_of-self-2
invariant_of-self-2 c =
    let s = c.self.inside.spans.items in
    let b = c.self.inside.bytes.items in
    let start : c.len-start.result ≡ length b = search rules in
    rw (c.in_ok-push.ensures.items, c.in_ok-extend_from_slice.ensures.items) (
      within_push s b c.args.text.now c.len-start.result start c.self.invariant.0,
      are_push s b c.args.text.now c.len-start.result start c.self.invariant.0 c.self.invariant.1 c.requires,
    )

pub returns-clause-ok : goal.returns-clause-ok
returns-clause-ok c =
    let s = c.self.inside.spans.items in
    let b = c.self.inside.bytes.items in
    let start : c.len-start.result ≡ length b = search rules in
    rw (c.in_ok-push.ensures.items, c.in_ok-extend_from_slice.ensures.items)
    (texts_push s b c.args.text.now c.len-start.result start c.self.invariant.0 ∙ ap (λ (l : List (List ℕ)). l ++ c.args.text.now ∷ []) c.self.view_is)

pub returns-in_err-push-clause-err : goal.returns-in_err-push-clause-err
returns-in_err-push-clause-err c =
    let s = c.self.inside.spans.items in
    let b = c.self.inside.bytes.items in
    rw (c.in_err-push.ensures.items, c.in_ok-extend_from_slice.ensures.items)
    (on_err c.from_residual-in_err-push.result (texts_same s b c.args.text.now c.self.invariant.0 ∙ c.self.view_is))
