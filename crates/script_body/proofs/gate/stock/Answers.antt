use Rattle.std.proofs.Common.{ap, arith, get_or, length, refl}
use Rattle.std.proofs.lemmas.List.{length-map}
use Rattle.script_text.specs.Script.{line_of}
use Rattle.script_body.proofs.PlaceLaws.{client-known, shelved-all, shelved-more, shelved-none}
use Rattle.script_body.proofs.gate.stock.Goals as goal

pub loop-place-init : goal.loop-place-init
loop-place-init c = shelved-none c.args.script.now c.in_ok-places.places c.in_ok-left.left.items c.in_ok-places.ensures
    (c.in_ok-left.ensures.items_if_clones_equal (λ y e. e))

pub bounds-clients-client : goal.bounds-clients-client
bounds-clients-client c =
    omega (
      arith,
      client-known c.args.script.now c.as_slice-posts.result.now c.loop-place.place c.from-client.result _ c.requires
          c.as_slice-posts.ensures c.loop-place-test.true c.from-client.ensures,
      ap length c.as_slice-clients.ensures,
    )

pub overflow_add-index_mut : goal.overflow_add-index_mut
overflow_add-index_mut c =
    let known = client-known c.args.script.now c.as_slice-posts.result.now c.loop-place.place c.from-client.result _ c.requires
    c.as_slice-posts.ensures c.loop-place-test.true c.from-client.ensures in
    let more = shelved-more c.args.script.now c.as_slice-clients.result.now c.as_slice-posts.result.now c.loop-place.place
    c.from-client.result (get_or c.as_slice-clients.result.now c.from-client.result 0) c.index_mut.result.now _ _ c.loop-place.places
    c.loop-place.left.items c.loop-place.invariant
    c.as_slice-clients.ensures c.as_slice-posts.ensures c.loop-place-test.true c.from-client.ensures
    (omega (arith, known, ap length c.as_slice-clients.ensures)) (omega arith) refl (omega arith) c.index_mut.ensures.value in
    omega (arith, more.0, c.requires.few, ap length c.as_slice-posts.ensures, length-map c.args.script.now.posts (line_of c.args.script.now.texts))

pub loop-place-preserved : goal.loop-place-preserved
loop-place-preserved c =
    let known = client-known c.args.script.now c.as_slice-posts.result.now c.loop-place.place c.from-client.result _ c.requires
    c.as_slice-posts.ensures c.loop-place-test.true c.from-client.ensures in
    rw c.in_ok-add.ensures.ok (shelved-more c.args.script.now c.as_slice-clients.result.now c.as_slice-posts.result.now c.loop-place.place
    c.from-client.result (get_or c.as_slice-clients.result.now c.from-client.result 0) c.index_mut.result.now _ _ c.loop-place.places
    c.loop-place.left.items c.loop-place.invariant
    c.as_slice-clients.ensures c.as_slice-posts.ensures c.loop-place-test.true c.from-client.ensures
    (omega (arith, known, ap length c.as_slice-clients.ensures)) (omega arith) refl (omega arith) c.index_mut.ensures.value).1

pub returns : goal.returns
returns c = shelved-all c.args.script.now c.loop-place.place c.loop-place.places c.loop-place.left.items c.loop-place.invariant
    (omega (arith, c.loop-place-test.false, ap length c.as_slice-posts.ensures))
