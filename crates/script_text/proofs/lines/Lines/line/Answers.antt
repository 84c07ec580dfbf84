use Rattle.std.proofs.Common.{◌++◌, ap, ◌∙◌}
use Rattle.script_text.specs.Track.{step}
use Rattle.script_text.proofs.KeptLaws.{kept_step}
use Rattle.script_text.proofs.lines.Lines.line.Goals as goal

pub returns-clause-reader : goal.returns-clause-reader
returns-clause-reader c =
    let r = c.args.self.now.reader in
    c.in_ok-line.ensures ∙ ap (step r) (c.deref.ensures.value ∙ c.in_ok-keep.ensures) ∙ kept_step r (c.args.self.now.tail.items ++ c.args.line.now)
