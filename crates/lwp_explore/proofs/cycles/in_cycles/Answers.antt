use Rattle.lwp_explore.proofs.CycleLaws.{are_cycles, if_ok, over_within}
use Rattle.lwp_explore.proofs.cycles.in_cycles.Goals as goal
use Rattle.lwp_explore.specs.Cycles.{AreCycles, AreMarked, AreWithin}
use Rattle.std.proofs.Common.{length, subst, sym}

pub ends_of-requires : goal.ends_of-requires
ends_of-requires c =
    let leads = c.in_ok-jumps.ensures in
    subst AreWithin (sym c.deref.ensures.value) (over_within c.args.nexts.now c.requires leads.far c.in_ok-jumps.jumps.items leads.over)

pub returns : goal.returns
returns c =
    if_ok _ (λ marks. AreCycles c.args.nexts.now marks.items) c.ends_of.result c.ends_of.ensures
    (λ marks marked. are_cycles c.args.nexts.now c.in_ok-jumps.jumps.items marks.items c.requires c.in_ok-jumps.ensures
    (subst (λ js. AreMarked js (length js) marks.items) c.deref.ensures.value marked))
