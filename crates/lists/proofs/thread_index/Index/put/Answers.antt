use Rattle.std.proofs.Common.{None, Some, ap, arith, length, not, sym, ◌∙◌, ◌≡◌, ◌≤◌}
use Rattle.lists.proofs.IndexLemmas.{IsIndexed-put, IsIndexed-strays, count-cell, not_own, not_some}
use Rattle.lists.proofs.thread_index.Index.put.Goals as goal
use Rattle.lists.specs.ThreadIndex.{cell_in, place_in, place_or}

pub invariant_of-self : goal.invariant_of-self
invariant_of-self c =
    let some : 1 ≤ length c.self.inside.cells.items = rw (← c.self.view_is) at c.requires.some in
    let new : place_or c.args.tid (place_in c.self.inside.strays.items c.args.tid) (cell_in c.self.inside.cells.items c.self.inside.mask c.args.tid)
    ≡ None = rw (← c.self.view_is) at c.requires.new in
    let empty = rw c.tid.view_is at (sym c.cell.ensures ∙ not_some c.cell.result (c.is_none.ensures ∙ ap not c.if-is_none.true)) in
    let written = rw c.tid.view_is at c.set_cell.ensures in
    let counted = count-cell c.self.inside.cells.items c.self.inside.mask c.self.inside.strays.items c.self.invariant.indexed c.args.tid
    c.args.place 0 some empty new in
    rw written (record {
      indexed = IsIndexed-put c.self.inside.cells.items c.self.inside.mask c.self.inside.strays.items c.self.invariant.indexed c.args.tid
          c.args.place 0 some empty new;
      counted = omega (arith, c.self.invariant.counted, counted);
    })

pub invariant_of-self-else-is_none : goal.invariant_of-self-else-is_none
invariant_of-self-else-is_none c =
    let new : place_or c.args.tid (place_in c.self.inside.strays.items c.args.tid) (cell_in c.self.inside.cells.items c.self.inside.mask c.args.tid)
    ≡ None = rw (← c.self.view_is) at c.requires.new in
    record {
      indexed = IsIndexed-strays c.self.inside.cells.items c.self.inside.mask c.self.inside.strays.items c.self.invariant.indexed c.args.tid 0
          (not_own c.args.tid _ (cell_in c.self.inside.cells.items c.self.inside.mask c.args.tid) new) c.put_in.new.strays.items
          (Some c.args.place) c.put_in.ensures.rising (rw c.tid.view_is at c.put_in.ensures.puts);
      counted = omega (arith, c.self.invariant.counted, c.put_in.ensures.len);
    }

pub returns-then-is_none-clause-count : goal.returns-then-is_none-clause-count
returns-then-is_none-clause-count c =
    let some : 1 ≤ length c.self.inside.cells.items = rw (← c.self.view_is) at c.requires.some in
    let new : place_or c.args.tid (place_in c.self.inside.strays.items c.args.tid) (cell_in c.self.inside.cells.items c.self.inside.mask c.args.tid)
    ≡ None = rw (← c.self.view_is) at c.requires.new in
    let empty = rw c.tid.view_is at (sym c.cell.ensures ∙ not_some c.cell.result (c.is_none.ensures ∙ ap not c.if-is_none.true)) in
    let written = rw c.tid.view_is at c.set_cell.ensures in
    rw (written, ← c.self.view_is)
    (count-cell c.self.inside.cells.items c.self.inside.mask c.self.inside.strays.items c.self.invariant.indexed c.args.tid c.args.place 0 some empty new)
