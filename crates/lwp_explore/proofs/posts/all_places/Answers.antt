use Rattle.lwp_explore.proofs.posts.all_places.Goals as goal
use Rattle.lwp_explore.specs.Posts.{places_from}
use Rattle.std.proofs.Common.{[], ap, arith, sym, ◌++◌, ◌∙◌, ◌∷◌}
use Rattle.std.proofs.lemmas.List.FromFn.{map-range_with_len_more}

pub loop-client-preserved : goal.loop-client-preserved
loop-client-preserved c =
    let posts = c.args.script.now.posts in
    let client = c.loop-client.client in
    c.in_ok-push.ensures.ok
    ∙ ap (λ ps. c.loop-client.places ++ ps ∷ []) (c.in_ok-places_from.ensures ∙ ap (places_from client 0) c.as_slice.ensures)
    ∙ ap (λ pss. pss ++ places_from client 0 posts ∷ []) c.loop-client.invariant
    ∙ sym (map-range_with_len_more (λ d. places_from d 0 posts) 0 client client (omega arith))
