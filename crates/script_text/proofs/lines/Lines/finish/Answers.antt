use Rattle.script_text.proofs.lines.Lines.finish.Goals as goal

pub returns : goal.returns
returns c = rw c.deref.ensures.value at c.finish.ensures
