use Rattle.std.proofs.Common.{refl}
use Rattle.trace_page.proofs.laws.some_are_closed.Goals as goal
use Rattle.trace_page.specs.Nesting.{after_byte, is_nested, read_on}

pub returns : goal.returns
unfolding after_byte read_on is_nested
returns c = record { whole = refl; unclosed = refl; unopened = refl; crossed = refl; bare = refl; unquoted = refl; half = refl }
