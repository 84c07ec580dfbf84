use Rattle.std.proofs.Common.{◌∙◌, ap}
use Rattle.std.proofs.lemmas.Result.{on_ok_weaker}
use Rattle.script_text.specs.Spelling.{line_cut}
use Rattle.script_advice.specs.declared.told.Told.{Told}
use Rattle.script_advice.specs.Above.{told_with}
use Rattle.script_advice.proofs.TellLaws.{told_first}
use Rattle.script_advice.proofs.errors.add_from_first.Goals as goal

pub returns : goal.returns
returns c =
    let noted = c.in_ok-note.ensures ∙ ap (λ (t : Told). told_with c.args.known.now t c.args.reason c.args.bad.now) c.new-told.ensures in
    on_ok_weaker c.add_later.result
    (told_first c.args.format c.args.known.now c.args.above c.args.number c.in_ok-next.next c.args.reason c.args.bad.now c.note.new.self
    (line_cut c.args.after.now).0 (line_cut c.args.after.now).1 c.args.out.now.items _ _ c.in_ok-next.ensures noted c.in_ok-add_error.ensures)
    c.add_later.ensures
