use Rattle.lwp_explore.proofs.CycleLaws.{doubled, if_ok, over_within}
use Rattle.lwp_explore.proofs.cycles.far_jumps.Goals as goal
use Rattle.lwp_explore.specs.Cycles.{AreWithin, LeadsFar, LeadsOver, jump}
use Rattle.std.proofs.Common.{ap, arith, map, option_and_then, subst, sym, ◌+◌, ◌∙◌}

pub twice-requires : goal.twice-requires
twice-requires c =
    subst AreWithin (sym c.deref.ensures.value)
    (over_within c.args.nexts.now c.requires c.loop-far.far c.loop-far.jumps.items c.loop-far.invariant)

pub loop-far-preserved : goal.loop-far-preserved
loop-far-preserved c =
    let far = c.loop-far.far in
    subst (LeadsOver c.args.nexts.now (far + far))
    (sym (c.in_ok-jumps.ensures ∙ ap (λ js. map (option_and_then (jump js)) js) c.deref.ensures.value))
    (doubled c.args.nexts.now far c.loop-far.jumps.items c.loop-far.invariant)

pub twice-requires-2 : goal.twice-requires-2
twice-requires-2 c =
    subst AreWithin (sym c.deref-2.ensures.value)
    (over_within c.args.nexts.now c.requires c.loop-far.far c.loop-far.jumps.items c.loop-far.invariant)

pub returns : goal.returns
returns c =
    let far = c.loop-far.far in
    if_ok _ (λ jumps. LeadsFar c.args.nexts.now jumps.items) c.twice-2.result c.twice-2.ensures
    (λ jumps is. record {
      far = far + far;
      enough = omega (arith, c.loop-far-test.false);
      over = subst (LeadsOver c.args.nexts.now (far + far))
          (sym (is ∙ ap (λ js. map (option_and_then (jump js)) js) c.deref-2.ensures.value))
          (doubled c.args.nexts.now far c.loop-far.jumps.items c.loop-far.invariant);
    })
