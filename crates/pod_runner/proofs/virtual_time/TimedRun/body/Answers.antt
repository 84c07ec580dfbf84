use Rattle.std.proofs.Common.{None, Some, ap, arith, false, get_or, length, option_map, sym, ◌<◌, ◌∙◌, ◌≡◌, ◌≤◌}
use Rattle.std.proofs.lemmas.Option.{slice_get-get_or, slice_get_past}
use Rattle.std.specs.Prelude.{slice_get}
use Rattle.pod_runner.specs.RunParts.{live_of}
use Rattle.pod_runner.specs.Virtual.{body_of}
use Rattle.pod_runner.specs.declared.session.Row.{Row}
use Rattle.pod_runner.proofs.RowLemmas.{row_of-place}
use Rattle.pod_runner.proofs.virtual_time.TimedRun.body.Goals as goal

pub returns-then-i-rows-clause-some : goal.returns-then-i-rows-clause-some
returns-then-i-rows-clause-some g c =
    let sound : c.self.inside.failed ≡ false = rw (← c.self.view_is) at c.requires in
    let rows = c.self.inside.parts.rows.rows in
    let within : c.place-i.result < length c.as_slice-rows.result.now = omega (arith, c.if-i-rows.true) in
    let found = row_of-place c.args.tid rows ∙ ap (slice_get rows) (sym c.place-i.ensures)
    ∙ ap (λ xs. slice_get xs c.place-i.result) (sym c.as_slice-rows.ensures)
    ∙ slice_get-get_or c.as_slice-rows.result.now c.place-i.result c.index-rows-i.result within in
    rw (← c.self.view_is) (ap (body_of c.args.tid) (sym (c.self.invariant.now sound)) ∙ ap (option_map (λ (row : Row _). row.body)) found)

pub returns-else-i-rows-clause-none : goal.returns-else-i-rows-clause-none
returns-else-i-rows-clause-none g c =
    let sound : c.self.inside.failed ≡ false = rw (← c.self.view_is) at c.requires in
    let rows = c.self.inside.parts.rows.rows in
    let past : length c.as_slice-rows.result.now ≤ c.place-i.result = omega (arith, c.if-i-rows.false) in
    let found = row_of-place c.args.tid rows ∙ ap (slice_get rows) (sym c.place-i.ensures)
    ∙ ap (λ xs. slice_get xs c.place-i.result) (sym c.as_slice-rows.ensures)
    ∙ slice_get_past c.as_slice-rows.result.now c.place-i.result past in
    rw (← c.self.view_is) (ap (body_of c.args.tid) (sym (c.self.invariant.now sound)) ∙ ap (option_map (λ (row : Row _). row.body)) found)
