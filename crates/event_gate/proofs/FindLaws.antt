-- A seat that has as many tickets as the gauge's word says has them all.
use Rattle.std.proofs.Common.{◌≡◌, ◌≢◌, ℕ, zero, suc, ◌+◌, ◌<◌, ◌≤◌, ◌^◌, List, [], ◌∷◌, sym, refl, ap, ◌∙◌, arith}
use mathlib.Core.Option.{some, some-injective, some-ne-none}
use lib.ListN.{get_elem?}
use Rattle.event_gate.specs.declared.gauge_rule.GaugeView.{GaugeView}
use Rattle.event_gate.specs.Gauge.{tickets_of, total, Glimpse, FindsAreWhole}

-- what one seat has is a part of what all have
pub part : (f : GaugeView → ℕ) (views : List GaugeView) (i : ℕ) (v : GaugeView) → get_elem? views i ≡ some v → f v ≤ total f views
part f [] i v e = absurd (some-ne-none v (sym e))
part f (x ∷ xs) zero v e = let same : f x ≡ f v = ap f (some-injective x v e) in omega arith
part f (x ∷ xs) (suc i) v e = let r = part f xs i v e in omega arith

-- and so is what two of them have
pub two_parts : (f : GaugeView → ℕ) (views : List GaugeView) (i j : ℕ) (v w : GaugeView) → i ≢ j → get_elem? views i ≡ some v
    → get_elem? views j ≡ some w → f v + f w ≤ total f views
two_parts f [] i j v w n e d = absurd (some-ne-none v (sym e))
two_parts f (x ∷ xs) zero zero v w n e d = absurd (n refl)
two_parts f (x ∷ xs) zero (suc j) v w n e d = let same : f x ≡ f v = ap f (some-injective x v e) in let r = part f xs j w d in omega arith
two_parts f (x ∷ xs) (suc i) zero v w n e d = let same : f x ≡ f w = ap f (some-injective x w d) in let r = part f xs i v e in omega arith
two_parts f (x ∷ xs) (suc i) (suc j) v w n e d = let r = two_parts f xs i j v w (λ s. n (ap suc s)) e d in omega arith

all_own : (n : ℕ) (own : GaugeView) (g : Glimpse n own) → total tickets_of g.accounts < 2 ^ 64 → total tickets_of g.accounts ≡ tickets_of own
all_own n own g few = let mine = part tickets_of g.accounts g.seat own g.mine in let e = g.word in let d = g.all in omega (arith, mine, e, d, few)

pub finds_are_whole : FindsAreWhole
finds_are_whole = record {
  others = λ n own g few other w apart at.
      let all = all_own n own g few in let two = two_parts tickets_of g.accounts g.seat other own w (λ e. apart (sym e)) g.mine at in omega (arith, all, two);
  announced = λ n own g few. g.each ∙ all_own n own g few;
}
