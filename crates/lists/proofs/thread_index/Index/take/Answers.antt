use Rattle.std.proofs.Common.{IsSome, None, arith, sym, vec_capacity, ◌∙◌}
use Rattle.lists.proofs.IndexLemmas.{IsIndexed-strays, IsIndexed-take, IsRising-kept, Puts-gone, Puts-strays, count-take, one_gone, some_stray, wide}
use Rattle.lists.proofs.thread_index.Index.take.Goals as goal
use Rattle.lists.specs.ThreadIndex.{cell_in, place_in, place_or}

pub invariant_of-self : goal.invariant_of-self
invariant_of-self c =
    let own = rw c.tid.view_is at (sym c.is_own.ensures ∙ c.if-is_own.true) in
    let written = rw c.tid.view_is at c.set_cell.ensures in
    let some = wide c.self.inside.cells.items c.self.inside.mask c.args.tid own in
    let fewer = count-take c.self.inside.cells.items c.self.inside.mask c.self.inside.strays.items c.self.invariant.indexed c.args.tid 0 0 some own in
    rw written (record {
      indexed = IsIndexed-take c.self.inside.cells.items c.self.inside.mask c.self.inside.strays.items c.self.invariant.indexed c.args.tid 0 0 some own;
      counted = omega (arith, c.self.invariant.counted, fewer);
    })

pub invariant_of-self-else-is_own : goal.invariant_of-self-else-is_own
invariant_of-self-else-is_own c =
    let away = rw c.tid.view_is at (sym c.is_own.ensures ∙ c.if-is_own.false) in
    let gone = rw c.tid.view_is at c.take_out.ensures.items in
    let some : IsSome (place_or c.args.tid (place_in c.self.inside.strays.items c.args.tid) (cell_in c.self.inside.cells.items c.self.inside.mask c.args.tid)) =
    rw (← c.self.view_is) at c.requires in
    let fewer = one_gone c.args.tid c.self.inside.strays.items c.self.invariant.indexed.rising
    (some_stray c.args.tid _ (cell_in c.self.inside.cells.items c.self.inside.mask c.args.tid) away some) in
    record {
      indexed = IsIndexed-strays c.self.inside.cells.items c.self.inside.mask c.self.inside.strays.items c.self.invariant.indexed c.args.tid 0 away _ None
          (rw gone (IsRising-kept c.args.tid c.self.inside.strays.items c.self.invariant.indexed.rising))
          (Puts-gone c.args.tid c.self.inside.strays.items _ gone);
      counted = rw gone (omega (arith, c.self.invariant.counted, fewer));
    }

pub returns-then-is_own-clause-count : goal.returns-then-is_own-clause-count
returns-then-is_own-clause-count c =
    let own = rw c.tid.view_is at (sym c.is_own.ensures ∙ c.if-is_own.true) in
    let written = rw c.tid.view_is at c.set_cell.ensures in
    rw (written, ← c.self.view_is) (count-take c.self.inside.cells.items c.self.inside.mask c.self.inside.strays.items
    c.self.invariant.indexed c.args.tid 0 0 (wide c.self.inside.cells.items c.self.inside.mask c.args.tid own) own)

pub returns-else-is_own-clause-puts : goal.returns-else-is_own-clause-puts
returns-else-is_own-clause-puts c =
    let away = rw c.tid.view_is at (sym c.is_own.ensures ∙ c.if-is_own.false) in
    let gone = rw c.tid.view_is at c.take_out.ensures.items in
    rw (← c.self.view_is)
    (Puts-strays c.self.inside.cells.items c.self.inside.mask c.self.inside.strays.items c.self.invariant.indexed c.args.tid
    (vec_capacity c.self.inside.strays) away c.take_out.new.strays.items None
    (rw gone (IsRising-kept c.args.tid c.self.inside.strays.items c.self.invariant.indexed.rising))
    (Puts-gone c.args.tid c.self.inside.strays.items _ gone))

pub returns-else-is_own-clause-count : goal.returns-else-is_own-clause-count
returns-else-is_own-clause-count c =
    let away = rw c.tid.view_is at (sym c.is_own.ensures ∙ c.if-is_own.false) in
    let gone = rw c.tid.view_is at c.take_out.ensures.items in
    let some : IsSome (place_or c.args.tid (place_in c.self.inside.strays.items c.args.tid) (cell_in c.self.inside.cells.items c.self.inside.mask c.args.tid)) =
    rw (← c.self.view_is) at c.requires in
    let fewer = one_gone c.args.tid c.self.inside.strays.items c.self.invariant.indexed.rising
    (some_stray c.args.tid _ (cell_in c.self.inside.cells.items c.self.inside.mask c.args.tid) away some) in
    rw (gone, ← c.self.view_is) (omega (arith, fewer))
