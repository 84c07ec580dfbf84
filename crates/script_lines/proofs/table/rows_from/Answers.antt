use Rattle.std.proofs.Common.{map, ◌<◌, ◌+◌, ◌-◌, arith, subst, ap, ◌∙◌}
use Rattle.std.proofs.lemmas.List.{take_all, length-drop}
use Rattle.script_lines.specs.Table.{table_row, op_in}
use Rattle.script_lines.proofs.TableLaws.{none_earlier, earlier, passed_over}
use Rattle.script_lines.proofs.table.rows_from.Goals as goal
use Rattle.script_lines.proofs.table.rows_from.Goals.{then-letter_of-letter, else-letter_of-letter}

pub letter_of-requires : goal.letter_of-requires
letter_of-requires c = none_earlier table_row 1 c.args.rows.now _ _ c.requires (omega (arith, c.loop-step.invariant.within))

pub loop-step-preserved : goal.loop-step-preserved
loop-step-preserved c = elim c.if-letter_of-letter.branch [
  | then-letter_of-letter w ↦ record {
    within = omega (arith, w.first-is, c.loop-step.invariant.within);
    earlier = λ k d lt. earlier table_row 1 c.args.rows.now (c.loop-step.first + c.loop-step.step - 1) _ c.args.letter c.requires
        (omega (arith, c.loop-step.invariant.within)) (subst (λ v. v < c.args.letter) c.letter_of.ensures w.if-letter_of-letter.true) k d
        (omega (arith, lt, w.first-is));
  }
  | else-letter_of-letter w ↦ record {
    within = omega (arith, w.first-is, c.loop-step.invariant.within);
    earlier = λ k d lt. c.loop-step.invariant.earlier k d (omega (arith, lt, w.first-is));
  }
]

pub returns : goal.returns
returns c = λ key same.
    ap (λ l. op_in (map table_row l) key) (take_all _ _ (omega (arith, c.loop-step.invariant.within, length-drop c.loop-step.first c.args.rows.now)))
    ∙ passed_over table_row c.loop-step.first c.args.rows.now key (λ k d lt. omega (arith, same, c.loop-step.invariant.earlier k d lt))
