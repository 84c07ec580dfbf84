use Rattle.trace_page.proofs.TitleLaws.{lines_are_titles}
use Rattle.trace_page.proofs.laws.lines_are_titles.Goals as goal

pub returns : goal.returns
returns c = lines_are_titles
