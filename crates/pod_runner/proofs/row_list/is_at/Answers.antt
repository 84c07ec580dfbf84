use Rattle.std.proofs.Common.{◌≡◌, ◌<◌, ◌∙◌, ap, length, rules, sym}
use Rattle.pod_runner.specs.declared.session.Row.{Row}
use Rattle.pod_runner.proofs.Rising.{place_found}
use Rattle.pod_runner.proofs.row_list.is_at.Goals as goal

pub returns-then-at-len : goal.returns-then-at-len
returns-then-at-len g c = λ yes up.
    let named : c.index.result.now.tid ≡ c.args.tid = search (rules, yes) in
    let within : c.args.at < length c.args.rows.now.items = search rules in
    place_found c.args.tid c.args.rows.now.items c.args.at c.index.result.now up within (ap (λ (r : Row _). r.tid) (sym c.index.ensures) ∙ named)
