use Rattle.std.proofs.Common.{[], ap, ◌++◌, ◌∙◌, ◌∷◌}
use Rattle.search.proofs.breadth.try_steps.Goals as goal

pub returns : goal.returns
returns g c =
    let after = c.in_ok-last.ensures in
    record {
      knows = after.knows;
      grows = after.grows;
      standing = after.standing;
      settles = record {
        last = c.in_ok-last.last;
        lasts = c.in_ok-push.ensures.items ∙ ap (λ l. l ++ c.in_ok-last.last ∷ []) after.lasts;
        settled = after.settled;
      };
      limits = after.limits;
    }
