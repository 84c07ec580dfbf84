use Rattle.std.proofs.Common.{arith, refl, ◌∙◌}
use Rattle.stale_ids.proofs.IndexLemmas.{at_number, found_value, found_full, found_written, length-pairs, IsSound-write}
use Rattle.stale_ids.proofs.registry.Registry.value_at.Goals as goal

pub index-requires : goal.index-requires
index-requires g c =
    let longer = length-pairs c.self.inside.values.slots c.self.inside.index.items c.self.invariant.full in
    let within = rw (← c.self.view_is) at c.requires.within in
    omega arith

pub index_mut-requires : goal.index_mut-requires
index_mut-requires g c =
    let at = at_number _ _ _ _ c.self.invariant.full (rw (← c.self.view_is) at c.requires.within) (rw (← c.self.view_is) at c.requires.here) in
    found_full _ _ c.self.invariant.rising c.self.invariant.full _ _ _ at c.index.ensures

pub invariant_of-self-lent : goal.invariant_of-self-lent
invariant_of-self-lent g c w =
    let at = at_number _ _ _ _ c.self.invariant.full (rw (← c.self.view_is) at c.requires.within) (rw (← c.self.view_is) at c.requires.here) in
    IsSound-write _ _ w _ _ _ _ _ _ (found_full _ _ c.self.invariant.rising c.self.invariant.full _ _ _ at c.index.ensures) c.self.invariant

pub returns : goal.returns
returns g c =
    let at = at_number _ _ _ _ c.self.invariant.full (rw (← c.self.view_is) at c.requires.within) (rw (← c.self.view_is) at c.requires.here) in
    let sound = c.self.invariant in (
      (
        refl {a = c.index_mut.result.ghost_name},
        λ w.
            rw (
              ← c.self.view_is,
              found_written c.self.inside.values.slots c.self.inside.index.items sound.rising sound.full c.args.n c.args.at
                  c.index.result.now at c.index.ensures w,
            ),
      ),
      record {
        writes_back = tt;
        value = rw (← c.self.view_is) (found_value c.self.inside.values.slots c.self.inside.index.items sound.rising sound.full c.args.n
            c.args.at c.index.result.now at c.index.ensures
            ∙ c.index_mut.ensures.value);
      },
    )
