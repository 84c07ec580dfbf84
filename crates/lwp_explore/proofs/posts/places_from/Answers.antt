use Rattle.lwp_explore.proofs.PostLaws.{pass_place, put_place}
use Rattle.lwp_explore.proofs.posts.places_from.Goals as goal
use Rattle.lwp_explore.proofs.posts.places_from.Goals.{else-from-client, then-from-client+in_ok-push}
use Rattle.std.proofs.Common.{sym, ◌∙◌}
use Rattle.std.proofs.lemmas.Bool.{eq-eqb, ne_eqb}

pub loop-place-preserved : goal.loop-place-preserved
loop-place-preserved c =
    elim c.if-from-client.branch [
      | then-from-client+in_ok-push w ↦
          put_place c.args.client c.args.posts.now c.loop-place.place (record { client = 0; seq = 0; text = 0 }) c.loop-place-test.true
          c.loop-place.places c.if-from-client.places c.loop-place.invariant
          (eq-eqb _ _ (sym c.from.ensures ∙ w.if-from-client.true)) (w.places-is ∙ w.in_ok-push.ensures.ok)
      | else-from-client w ↦
          w.places-is
          ∙ pass_place c.args.client c.args.posts.now c.loop-place.place (record { client = 0; seq = 0; text = 0 }) c.loop-place-test.true
          c.loop-place.places c.loop-place.invariant (ne_eqb _ _ (λ same. w.if-from-client.false (c.from.ensures ∙ same)))
    ]
