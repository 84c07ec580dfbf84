use Rattle.trace_page.proofs.NestingLaws.{elements_are_closed}
use Rattle.trace_page.proofs.laws.elements_are_closed.Goals as goal

pub returns : goal.returns
returns c = elements_are_closed
