use Rattle.std.proofs.Common.{ap, sym, ◌∙◌, arith, refl}
use Rattle.atomic_table.specs.Seated.{TableId}
use Rattle.event_gate.specs.declared.gauge_rule.GaugeView.{GaugeView}
use Rattle.event_gate.specs.Clients.{is_noted}
use Rattle.event_gate.specs.Gauge.{after_enroll}
use Rattle.event_gate.proofs.GaugeSteps.{aims, enrolls, next_seat_is}
use Rattle.event_gate.proofs.gauge.enroll.Goals as goal

pub compare_exchange_with-requires : goal.compare_exchange_with-requires
compare_exchange_with-requires c =
    let one = ap (λ (t : TableId). t.words) (sym c.requires.gauge.same) ∙ c.requires.gauge.one_word in
    (c.requires.gauge.same, omega arith, aims _ _ _ _)

pub split_seat-requires : goal.split_seat-requires
split_seat-requires c =
    let one = ap (λ (t : TableId). t.words) (sym c.requires.gauge.same) ∙ c.requires.gauge.one_word in
    let aimed = c.compare_exchange_with.ensures.2 _ refl in (
      c.compare_exchange_with.ensures.0 ∙ c.requires.gauge.same,
      omega arith,
      enrolls _ _ (ap (λ (v : GaugeView). v.book.takes) aimed.0 ∙ c.requires.taker)
          (ap (λ (v : GaugeView). is_noted v.book.next v.book.noted) aimed.0 ∙ c.requires.new)
          (let r = c.requires.room in let e = ap (λ (v : GaugeView). v.marks.room) aimed.0 in omega (arith, r, e)),
    )

pub returns-clause-seat : goal.returns-clause-seat
returns-clause-seat c =
    let aimed = c.compare_exchange_with.ensures.2 _ refl in
    let cut = c.split_seat.ensures.2 in
    (c.split_seat.ensures.0 ∙ c.compare_exchange_with.ensures.0, ap (λ m. m.1) cut ∙ aimed.1, ap (λ m. m.0) cut ∙ ap after_enroll aimed.0)

pub returns-clause-poster : goal.returns-clause-poster
returns-clause-poster c =
    let aimed = c.compare_exchange_with.ensures.2 _ refl in (
      c.split_seat.ensures.3 ∙ c.compare_exchange_with.ensures.0,
      next_seat_is c.split_seat.result.me c.args.seat.now.me.0 c.compare_exchange_with.new.seat.me.0 c.args.client c.split_seat.ensures.4 aimed.0,
    )
