use Rattle.line_server.proofs.PlaceLemmas.{AreInOrder-empty}
use Rattle.line_server.proofs.table.Table.new.Goals as goal
use Rattle.line_server.specs.Places.{AreInOrder}
use Rattle.std.proofs.Common.{subst, sym}

pub invariant_of-result : goal.invariant_of-result
invariant_of-result c = subst AreInOrder (sym c.new.ensures.items) AreInOrder-empty
