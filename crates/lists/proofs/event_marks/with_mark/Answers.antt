use Rattle.lists.proofs.MarkWords.{marked-same}
use Rattle.lists.proofs.event_marks.with_mark.Goals as goal
use Rattle.std.proofs.Common.{arith, sym, w64, ◌-◌, ◌*◌, ◌%◌, ◌^◌}
use Rattle.std.proofs.lemmas.Nat.{and_le_l, or_lt}
use Rattle.std.proofs.lemmas.Nat.Bits.{bit_at_clear_other, bit_at_clear_same, bit_at_set_other, bit_at_set_same}
use Rattle.std.specs.Prelude.{eqb}
use Rattle.std.proofs.Common.{ap, ◌∙◌}

pub returns-then-on-clause-here : goal.returns-then-on-clause-here
returns-then-on-clause-here c low = ap (λ n. eqb n 1) (bit_at_set_same w64 c.args.word c.args.event low) ∙ sym c.if-on.true

pub returns-then-on-clause-others : goal.returns-then-on-clause-others
returns-then-on-clause-others c e differs = marked-same c.args.word _ e c.ranges.word.fits
    (or_lt 64 c.args.word _ c.ranges.word.fits (omega arith)) (λ low. bit_at_set_other w64 c.args.word c.args.event (omega arith) e differs)

pub returns-else-on-clause-here : goal.returns-else-on-clause-here
returns-else-on-clause-here c low = ap (λ n. eqb n 1) (bit_at_clear_same w64 c.args.word c.args.event low) ∙ sym c.if-on.false

pub returns-else-on-clause-others : goal.returns-else-on-clause-others
returns-else-on-clause-others c e differs = marked-same c.args.word _ e c.ranges.word.fits
    (omega (arith, and_le_l c.args.word (18446744073709551615 - 1 * 2 ^ c.args.event % 18446744073709551616), c.ranges.word.fits))
    (λ low. bit_at_clear_other w64 c.args.word c.args.event (omega arith) e low differs)
