use Rattle.std.proofs.Common.{List, ap, arith, length, map, sym, ℕ, ◌∙◌}
use Rattle.std.proofs.lemmas.List.{take_all}
use Rattle.lwp_types.specs.declared.call.Line.{Line}
use Rattle.replay.proofs.StockLaws.{counts-are}
use Rattle.replay.specs.Stock.{Stock}
use Rattle.script_text.specs.Script.{lines_posted}
use Rattle.replay.proofs.stock.ScriptLinesPosted.counts.Goals as goal

pub returns : goal.returns
returns c =
    let all = c.self.inside.places.items in
    c.loop-client.invariant
    ∙ ap (λ (l : List (List ℕ)). map (λ (places : List ℕ). length places) l)
    (take_all c.loop-client.client all (omega (arith, c.loop-client-test.false, c.len-client-end.ensures)))
    ∙ sym (counts-are (lines_posted c.self.inside.script.now) all)
    ∙ ap (λ (s : Stock). map (λ (l : List Line). length l) s.lines.left) c.self.view_is
