use Rattle.std.proofs.Common.{arith, ap, ◌∙◌, length}
use Rattle.script_text.specs.Meaning.{after_raise}
use Rattle.script_text.proofs.CountLaws.{raised_there, raised_past}
use Rattle.script_text.proofs.counts.Counts.raise.Goals as goal

pub returns-else-count-clause-ok : goal.returns-else-count-clause-ok
returns-else-count-clause-ok c = raised_there c.from-place.result c.index-count.result.now c.self.inside.counts.items
    (omega (arith, c.if-place-len.true, c.len.ensures)) c.index-count.ensures
    ∙ ap (λ l. after_raise c.from-place.result l) c.self.view_is ∙ ap (λ n. after_raise n c.args.self.now) c.from-place.ensures

pub returns-else-place-len-clause-ok : goal.returns-else-place-len-clause-ok
returns-else-place-len-clause-ok c =
    raised_past c.args.client c.args.self.now (omega (arith, c.if-place-len.false, c.len.ensures, c.from-place.ensures, ap length c.self.view_is))
