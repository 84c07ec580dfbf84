use Rattle.lwp_explore.proofs.CycleLaws.{if_ok}
use Rattle.lwp_explore.proofs.quiet.kinds_of.Goals as goal
use Rattle.lwp_explore.specs.Cycles.{AreCycles}
use Rattle.lwp_explore.specs.Listing.{listing}
use Rattle.lwp_explore.specs.Quiet.{kinds_at}
use Rattle.std.proofs.Common.{Bool, List, ap, ◌∙◌, ◌≡◌}

pub returns : goal.returns
returns c =
    if_ok _ (λ listed. (rounds : List Bool) × AreCycles c.args.nexts.now rounds × (listed.items ≡ listing (kinds_at c.args.rows.now rounds)))
    c.list_kinds.result c.list_kinds.ensures
    (λ listed is. (
      c.in_ok-rounds.rounds.items,
      c.in_ok-rounds.ensures,
      is ∙ ap listing (c.deref-2.ensures.value ∙ c.in_ok-kinds.ensures ∙ ap (kinds_at c.args.rows.now) c.deref.ensures.value),
    ))
