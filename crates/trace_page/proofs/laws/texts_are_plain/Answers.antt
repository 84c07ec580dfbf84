use Rattle.trace_page.proofs.TitleLaws.{texts_are_plain}
use Rattle.trace_page.proofs.laws.texts_are_plain.Goals as goal

pub returns : goal.returns
returns c = texts_are_plain
