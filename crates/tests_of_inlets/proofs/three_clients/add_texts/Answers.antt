use Rattle.tests_of_inlets.proofs.three_clients.add_texts.Goals as goal
use Rattle.std.proofs.Common.{All, [], ap, arith, length, length-append, subst, sym, ◌∙◌, ◌∷◌, ◌≡◌, ◌≤◌}
use Rattle.std.proofs.lemmas.List.Elements.{All-push}

pub returns : goal.returns
returns c =
    let texts = c.loop.texts in
    let size = c.loop.invariant in
    let all : c.loop.counter ≡ c.args.lines = omega arith in
    let few = c.requires.lines in
    let same = texts.ok.0 in
    let items = c.in_ok-push-2.ensures.items in (
      ap length items ∙ length-append c.args.all.now.items (texts ∷ []),
      subst (All (λ ts. length ts.items ≤ 20000)) (sym items)
          (All-push (λ ts. length ts.items ≤ 20000) c.args.all.now.items texts c.requires.before (omega (arith, size, all, few, same))),
    )
