use Rattle.std.proofs.Common.{List, [], ap, arith, length, map, slice_index_or, subst, suc, sym, zero, refl, ℕ, ◌<◌, ◌∷◌}
use Rattle.event_gate.specs.Ends.{Taking}
use Rattle.event_gate.specs.Inlet.{EventsRise, Intake, port_intake}
use Rattle.tests_of_program.specs.declared.looks.InOrder.{InOrder}
use Rattle.tests_of_program.proofs.looks.run_beside_two.Goals as goal

-- of two inlets
two_rise : (t u : Intake) → t.event < u.event → EventsRise (t ∷ u ∷ [])
two_rise t u h zero zero d before within = absurd (omega (arith, before))
two_rise t u h zero (suc zero) d before within = h
two_rise t u h zero (suc (suc j)) d before within = absurd (omega (arith, within))
two_rise t u h (suc i) zero d before within = absurd (omega (arith, before))
two_rise t u h (suc i) (suc zero) d before within = absurd (omega (arith, before))
two_rise t u h (suc i) (suc (suc j)) d before within = absurd (omega (arith, within))

pub run_live-requires : goal.run_live-requires
run_live-requires g c κs =
    let first = ap (λ (t : Taking). t.event) c.in_ok-first.ensures.taker in
    let second = ap (λ (t : Taking). t.event) c.in_ok-second.ensures.taker in (
      (refl, tt),
      (
        c.in_ok-run.ensures,
        subst (λ (inlets : List InOrder). EventsRise (map (λ (l : InOrder). port_intake l.taker) inlets)) (sym c.in_ok-inlets.ensures.items)
            (two_rise (port_intake c.in_ok-first.first) (port_intake c.in_ok-second.second) (omega (arith, first, second))),
      ),
    )
