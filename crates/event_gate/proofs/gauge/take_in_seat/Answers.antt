use Rattle.std.proofs.Common.{ap, sym, ◌∙◌, arith}
use Rattle.atomic_table.specs.Seated.{TableId}
use Rattle.event_gate.specs.declared.gauge_rule.GaugeView.{GaugeView}
use Rattle.event_gate.proofs.GaugeSteps.{learns_now, tells}
use Rattle.event_gate.proofs.gauge.take_in_seat.Goals as goal

pub join_seat-requires : goal.join_seat-requires
join_seat-requires c =
    let one = ap (λ (t : TableId). t.words) (sym c.requires.gauge.same) ∙ c.requires.gauge.one_word in
    (c.requires.gauge.same, c.requires.theirs.0 ∙ c.requires.gauge.same, c.requires.theirs.1, omega arith, tells _ _ _ _ c.requires.taker c.requires.theirs.2)

pub load-requires : goal.load-requires
load-requires c =
    let one = ap (λ (t : TableId). t.words) (sym c.requires.gauge.same) ∙ c.requires.gauge.one_word in
    let now = ap (λ m. m.0) c.join_seat.ensures.2 in
    (c.join_seat.ensures.0 ∙ c.requires.gauge.same, omega arith, learns_now _ _ _ (ap (λ (v : GaugeView). v.book.takes) now ∙ c.requires.taker))
