use Rattle.std.proofs.Common.{List, ap, arith, length, sym, ℕ, ◌<◌, ◌∙◌, ◌≡◌}
use Rattle.replay.specs.Next.{without_next}
use Rattle.replay.specs.Walk.{ClientsLeft}
use Rattle.replay.proofs.StockLaws.{left-without}
use Rattle.replay.specs.Stock.{Stock, lines_by_places}
use Rattle.script_text.specs.Script.{lines_posted}
use Rattle.replay.proofs.stock.ScriptLinesPosted.take.Goals as goal

pub returns-clause-taken : goal.returns-clause-taken
returns-clause-taken c =
    let posts = lines_posted c.self.inside.script.now in
    let clients = c.self.inside.script.now.clients in
    let all = c.self.inside.places.items in
    let now : ClientsLeft = record { clients = clients; left = lines_by_places posts all } in
    let is : c.args.self.now.lines ≡ now = ap (λ (s : Stock). s.lines) (sym c.self.view_is) in
    let low : c.args.client < length all = omega (arith, c.requires.within, c.self.invariant, ap (λ (l : ClientsLeft). length l.clients) is) in
    ap (λ (l : List (List ℕ)). record { clients = clients; left = lines_by_places posts l }) c.pop_place.ensures
    ∙ left-without posts clients all c.args.client low
    ∙ ap (λ (l : ClientsLeft). without_next l c.args.client) (sym is)
