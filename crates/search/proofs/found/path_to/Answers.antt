use Rattle.search.proofs.Parents.{path_back, path_step}
use Rattle.search.specs.declared.found.Row.{Row}
use Rattle.std.proofs.Common.{None, arith, get_or}
use Rattle.std.proofs.lemmas.Option.{slice_get-get_or}
use Rattle.search.proofs.found.path_to.Goals as goal

pub loop-at-preserved : goal.loop-at-preserved
loop-at-preserved c =
    let none : Row = record { parent = 0; step = 0; kind = None } in
    let there = slice_get-get_or c.args.rows.now c.loop-at.at none c.loop-at.invariant.1 in
    let row = get_or c.args.rows.now c.loop-at.at none in (
      path_back c.args.rows.now c.requires.tree c.args.number c.loop-at.at row c.loop-at.path.items c.push.new.self.items
          c.loop-at-test.true there c.in_ok-push.ensures.items c.loop-at.invariant.0,
      (let less = (path_step c.args.rows.now c.requires.tree c.loop-at.at row c.loop-at-test.true there).1 in
          omega (arith, less, c.loop-at.invariant.1)),
    )
