use Rattle.std.proofs.Common.{arith, length, length-set, subst, sym, ◌+◌, ◌-◌, ◌<◌, ◌∙◌, ◌∷◌, ◌≡◌}
use Rattle.script_body.specs.Places.{line_at}
use Rattle.replay.proofs.StockLaws.{client-at, client-known, from-before, posts-long}
use Rattle.replay.specs.Stock.{AreFrom}
use Rattle.script_text.specs.Script.{lines_posted}
use Rattle.std.specs.Prelude.{[], slice_index_or}
use Rattle.replay.proofs.stock.places_of.Goals as goal

pub put_place-requires : goal.put_place-requires
put_place-requires c =
    let script = c.args.script.now in
    let i = c.loop-place.place - 1 in
    let low : i < length (lines_posted script) = omega (arith, c.loop-place-test.true, c.loop-place.invariant.1) in
    let there : i < length c.as_slice-posts.result.now = omega (arith, low, posts-long script c.as_slice-posts.result.now c.as_slice-posts.ensures) in
    let own : (line_at (lines_posted script) i).client
    ≡ c.from.result = client-at script c.as_slice-posts.result.now i _ c.as_slice-posts.ensures there ∙ sym c.from.ensures in
    omega (arith, client-known script i c.requires low, own, c.loop-place.invariant.0)

pub loop-place-preserved : goal.loop-place-preserved
loop-place-preserved c =
    let script = c.args.script.now in
    let i = c.loop-place.place - 1 in
    let low : i < length (lines_posted script) = omega (arith, c.loop-place-test.true, c.loop-place.invariant.1) in
    let there : i < length c.as_slice-posts.result.now = omega (arith, low, posts-long script c.as_slice-posts.result.now c.as_slice-posts.ensures) in
    let own : (line_at (lines_posted script) i).client
    ≡ c.from.result = client-at script c.as_slice-posts.result.now i _ c.as_slice-posts.ensures there ∙ sym c.from.ensures in
    let on : c.loop-place.place ≡ i + 1 = omega (arith, c.loop-place-test.true) in
    let all = c.loop-place.places.items in
    rw c.in_ok-put_place.ensures (
      length-set all c.from.result (i ∷ slice_index_or all c.from.result []) ∙ c.loop-place.invariant.0,
      omega (arith, low),
      from-before (lines_posted script) all i c.from.result low own (subst (λ k. AreFrom (lines_posted script) k all) on c.loop-place.invariant.2),
    )
