use Rattle.std.proofs.Common.{ap, sym, ◌∙◌, arith}
use Rattle.atomic_table.specs.Seated.{TableId}
use Rattle.event_gate.proofs.GaugeSteps.{gathers}
use Rattle.event_gate.proofs.gauge.redeem.Goals as goal

pub join_seat-requires : goal.join_seat-requires
join_seat-requires c =
    let one = ap (λ (t : TableId). t.words) (sym c.requires.gauge.same) ∙ c.requires.gauge.one_word in (
      c.requires.gauge.same,
      c.requires.ticket.0 ∙ c.requires.gauge.same,
      ap (λ m. m.1) c.requires.ticket.1,
      omega arith,
      gathers _ _ _ _ (ap (λ m. m.0.book.takes) c.requires.ticket.1) c.requires.later,
    )
