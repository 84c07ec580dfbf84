use Rattle.lwp_explore.proofs.searching.kinds_in.Goals as goal
use Rattle.lwp_explore.specs.Cycles.{AreCycles, AreWithin}
use Rattle.lwp_explore.specs.Listing.{listing}
use Rattle.lwp_explore.specs.Quiet.{kinds_at, quiet_nexts}
use Rattle.std.proofs.Common.{ap, subst, sym, ◌∙◌}

pub kinds_of-requires : goal.kinds_of-requires
kinds_of-requires c = subst AreWithin (sym (c.deref-4.ensures.value ∙ c.in_ok-nexts.ensures
    ∙ (λ i. quiet_nexts (c.deref.ensures.value i) (c.deref-2.ensures.value i)))) c.requires

pub returns-clause-nexts : goal.returns-clause-nexts
returns-clause-nexts c = c.in_ok-nexts.ensures ∙ (λ i. quiet_nexts (c.deref.ensures.value i) (c.deref-2.ensures.value i))

pub returns-clause-kinds : goal.returns-clause-kinds
returns-clause-kinds c =
    let is = c.in_ok-kinds.ensures in (
      is.0,
      subst (λ nexts. AreCycles nexts is.0) (c.deref-4.ensures.value ∙ c.in_ok-nexts.ensures
          ∙ (λ i. quiet_nexts (c.deref.ensures.value i) (c.deref-2.ensures.value i))) is.1,
      is.2 ∙ ap (λ rows. listing (kinds_at rows is.0)) c.deref-3.ensures.value,
    )
