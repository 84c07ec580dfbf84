use Rattle.std.proofs.Common.{ap, refl, sym, ◌∙◌}
use Rattle.lwp_serve.proofs.ReplayingLaws.InputLaws.{input-of, none-of}
use Rattle.lwp_serve.specs.Replaying.Input.{script_in}
use Rattle.lwp_serve.proofs.replaying.input.read_input.Goals as goal

pub returns-in-Some-clause-input : goal.returns-in-Some-clause-input
returns-in-Some-clause-input g c =
    input-of (g.S.Source.left c.args.source.now) c.in-Ok.text.items c.in-Some.part c.in-Ok.ensures.read
    (ap script_in (sym c.deref.ensures.value) ∙ sym c.in-Some.ensures.value)

pub returns-in-None-clause-none : goal.returns-in-None-clause-none
returns-in-None-clause-none g c = (
  refl,
  c.in-Ok.ensures.same,
  c.in-Ok.ensures.up,
  none-of (g.S.Source.left c.args.source.now) c.in-Ok.text.items c.in-Ok.ensures.read (ap script_in (sym c.deref.ensures.value) ∙ sym c.in-None.ensures.value),
)
