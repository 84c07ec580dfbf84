use Rattle.std.proofs.Common.{◌≡◌, ◌∷◌, ◌++◌, ◌∙◌, [], ap, arith, length, replicate, sym, List}
use Rattle.std.proofs.lemmas.List.{length-replicate, replicate_more}
use Rattle.event_gate.proofs.ShelfLaws.{bare_marks}
use Rattle.event_gate.specs.Shelves.{Shelf, bare, has_left}
use Rattle.event_gate.proofs.rack.Rack.new.Goals as goal

pub loop-preserved : goal.loop-preserved
loop-preserved g c = c.in_ok-push.ensures.items ∙ (λ k. c.loop.invariant k ++ c.new.ensures k ∷ []) ∙ replicate_more c.loop.counter bare

pub invariant_of-result : goal.invariant_of-result
invariant_of-result g c =
    let all : c.loop.counter ≡ 256 = omega arith in
    let bares = c.loop.invariant ∙ ap (λ n. replicate n bare) all in (
      ap length bares ∙ length-replicate {A = Shelf g.row.T.Denot} 256 bare,
      λ e low. bare_marks g.row.T.Denot _ c.no_marks.ensures e low ∙ ap (λ (l : List (Shelf g.row.T.Denot)). has_left l e) (sym bares),
    )

pub returns : goal.returns
returns g c =
    let all : c.loop.counter ≡ 256 = omega arith in
    c.loop.invariant ∙ ap (λ n. replicate n bare) all
