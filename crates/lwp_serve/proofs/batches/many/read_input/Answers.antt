use Rattle.std.proofs.Common.{◌∙◌, ap, rules, sym}
use Rattle.batch.specs.Parts.{parts_of}
use Rattle.lwp_serve.proofs.BatchLaws.InputLaws.{bad-of, input-of}
use Rattle.lwp_serve.proofs.batches.many.read_input.Goals as goal

pub returns-in-Ok-split-clause-input : goal.returns-in-Ok-split-clause-input
returns-in-Ok-split-clause-input g c =
    input-of (g.S.Source.left c.args.source.now) c.in-Ok.text.items c.in-Ok-split.parts.items c.in-Ok.ensures.read
    (ap parts_of (sym c.deref.ensures.value) ∙ c.in-Ok-split.ensures.parts)

pub returns-clause-none : goal.returns-clause-none
returns-clause-none g c = (
  c.in-Ok.ensures.same,
  c.in-Ok.ensures.up,
  bad-of (g.S.Source.left c.args.source.now) c.in-Ok.text.items c.in-Err-Bad.part c.in-Ok.ensures.read
      (ap parts_of (sym c.deref.ensures.value) ∙ c.split.ensures.bad c.in-Err-Bad.part (search rules)),
)
