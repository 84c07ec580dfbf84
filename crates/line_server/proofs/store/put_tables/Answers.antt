use Rattle.line_server.specs.Keys.{table_numbers}
use Rattle.std.proofs.Common.{ap, flat_map, length, map, rules, ◌++◌, ◌∙◌, ◌∷◌, ◌≡◌}
use Rattle.std.proofs.lemmas.Map.Iter.{iter_end}
use Rattle.std.specs.Map.Iter.{deref_pair}
use Rattle.line_server.proofs.store.put_tables.Goals as goal

pub returns : goal.returns
returns c =
    let all : map deref_pair c.loop-sender.yielded ≡ c.args.tables.now.entries = search (rules, iter_end) in
    c.loop-sender.invariant ∙ ap (λ l. c.args.key.now ++ length c.args.tables.now.entries ∷ flat_map table_numbers l) all
