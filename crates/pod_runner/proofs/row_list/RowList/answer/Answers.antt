use Rattle.std.proofs.Common.{◌≤◌, length, rules, sym, ap, List, ◌∙◌}
use Rattle.pod_runner.specs.Polls.{call_at, place_of}
use Rattle.pod_runner.specs.declared.session.Row.{Row}
use Rattle.pod_runner.proofs.Results.{on_ok}
use Rattle.pod_runner.proofs.RowCalls.{call_answered, kept_rows}
use Rattle.pod_runner.proofs.Rising.{with_row-missing}
use Rattle.pod_runner.proofs.row_list.RowList.answer.Goals as goal

pub put_answer-requires-clause-at : goal.put_answer-requires-clause-at
put_answer-requires-clause-at g c = rw (← c.self.view_is) at c.place-i.ensures

pub invariant_of-self : goal.invariant_of-self
invariant_of-self g c = λ up. c.put_answer.ensures.rising (c.self.invariant up)

pub returns-then-i-len : goal.returns-then-i-len
returns-then-i-len g c = rw (← c.self.view_is) (on_ok c.put_answer.result
    (λ set. kept_rows _ _ _ _ set (ap (λ (rs : List (Row _)). call_at c.self.inside.gone rs c.self.inside.last) set
    ∙ call_answered c.self.inside.gone c.args.tid c.args.answer.now c.self.inside.rows.items c.self.inside.last))
    c.put_answer.ensures.after)

pub returns : goal.returns
returns g c =
    let past : length c.args.self.now.rows ≤ place_of c.args.tid c.args.self.now.rows = search rules in
    ap (λ rows. record c.args.self.now { rows = rows }) (sym (with_row-missing c.args.tid _ c.args.self.now.rows past))
