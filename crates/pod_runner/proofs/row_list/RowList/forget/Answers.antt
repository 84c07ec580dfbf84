use Rattle.std.proofs.Common.{◌≤◌, length, rules, sym, ap, List, ◌<◌, ◌≡◌, ◌∙◌}
use Rattle.pod_runner.specs.Polls.{call_at, place_of}
use Rattle.pod_runner.specs.declared.session.Row.{Row}
use Rattle.std.specs.List.{remove}
use Rattle.pod_runner.proofs.RowCalls.{kept_rows}
use Rattle.pod_runner.proofs.Rising.{without_row-missing, without_row_at}
use Rattle.pod_runner.proofs.row_list.RowList.forget.Goals as goal

pub take_out-requires-clause-at : goal.take_out-requires-clause-at
take_out-requires-clause-at g c =
    let at : c.place-i.result ≡ place_of c.args.tid c.self.inside.rows.items = rw (← c.self.view_is) at c.place-i.ensures in
    at ∙ sym (c.part_from.ensures.rows.places c.args.tid)

pub invariant_of-self : goal.invariant_of-self
invariant_of-self g c = λ up. c.take_out.ensures.rising (c.part_from.ensures.rows.rising (c.self.invariant up))

pub returns-then-i-len : goal.returns-then-i-len
returns-then-i-len g c =
    let at : c.place-i.result ≡ place_of c.args.tid c.self.inside.rows.items = rw (← c.self.view_is) at c.place-i.ensures in
    let within : c.place-i.result < length c.self.inside.rows.items = search rules in
    let left : c.take_out.new.rows.items ≡ remove c.self.inside.rows.items c.place-i.result = c.take_out.ensures.rest ∙ c.part_from.ensures.rows.rest in
    rw (← c.self.view_is) (kept_rows _ _ _ _ (left ∙ sym (without_row_at c.args.tid c.self.inside.rows.items c.place-i.result at within))
    (ap (λ (rs : List (Row _)). call_at c.part_from.new.gone rs c.part_from.new.last) left ∙ c.part_from.ensures.call))

pub returns-else-i-len : goal.returns-else-i-len
returns-else-i-len g c =
    let past : length c.args.self.now.rows ≤ place_of c.args.tid c.args.self.now.rows = search rules in
    ap (λ rows. record c.args.self.now { rows = rows }) (sym (without_row-missing c.args.tid c.args.self.now.rows past))
