use Rattle.std.proofs.Common.{rules}
use Rattle.trace_page.proofs.showing.add_fault.Goals as goal

pub returns-in-ReadFault : goal.returns-in-ReadFault
returns-in-ReadFault c = search rules
