use Rattle.std.proofs.Common.{◌≡◌, sym, subst, ◌∙◌}
use Rattle.std.specs.Prelude.{OnOk}
use Rattle.script_text.specs.declared.reader.Reader.{Reader}
use Rattle.script_text.proofs.JudgeLaws.{judged_good, judged_bad}
use Rattle.script_text.proofs.reader.Reader.judge_by_table.Goals as goal

pub returns-then-may_stand_at : goal.returns-then-may_stand_at
returns-then-may_stand_at c =
    let same = judged_good c.args.self.now c.args.line.now c.in-Some.phrase (sym c.phrase_at.ensures ∙ c.in-Some.is)
    (sym c.may_stand_at.ensures ∙ c.if-may_stand_at.true) in
    subst (λ (x : Reader). OnOk c.take.result (c.take.new.self ≡ x)) (sym same) c.take.ensures

pub returns-else-may_stand_at : goal.returns-else-may_stand_at
returns-else-may_stand_at c =
    c.blame.ensures
    ∙ sym (judged_bad c.args.self.now c.args.line.now c.in-Some.phrase (sym c.phrase_at.ensures ∙ c.in-Some.is)
    (sym c.may_stand_at.ensures ∙ c.if-may_stand_at.false))
