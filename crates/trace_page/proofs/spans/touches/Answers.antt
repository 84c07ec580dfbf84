use Rattle.std.proofs.Common.{refl, sym}
use Rattle.std.proofs.lemmas.Bool.{ne_eqb}
use Rattle.trace_page.proofs.spans.touches.Goals as goal

pub returns-then-is_life : goal.returns-then-is_life
returns-then-is_life c = rw c.in-Dies.is (rw (ne_eqb c.args.span.tid c.in-Dies.tid c.if-span-tid.false) (rw (sym c.if-is_life.ensures) refl))
