use Rattle.std.proofs.Common.{ap, arith, ◌≡◌}
use Rattle.trace_page.proofs.shapes.add_escaped_byte.Goals as goal
use Rattle.trace_page.proofs.shapes.add_escaped_byte.Goals.{in-34, in-38, in-39, in-60, in-62}
use Rattle.trace_page.specs.Shapes.{escaped_byte}

pub returns : goal.returns
returns c =
    let named : c.match-byte.name.now ≡ escaped_byte c.args.byte = elim c.match-byte.branch [
      | in-38 w ↦ (let is : c.args.byte ≡ 38 = grind (arith, w.in-38) in rw is (ap (λ v. v.now) w.name-is))
      | in-60 w ↦ (let is : c.args.byte ≡ 60 = grind (arith, w.in-60) in rw is (ap (λ v. v.now) w.name-is))
      | in-62 w ↦ (let is : c.args.byte ≡ 62 = grind (arith, w.in-62) in rw is (ap (λ v. v.now) w.name-is))
      | in-34 w ↦ (let is : c.args.byte ≡ 34 = grind (arith, w.in-34) in rw is (ap (λ v. v.now) w.name-is))
      | in-39 w ↦ (let is : c.args.byte ≡ 39 = grind (arith, w.in-39) in rw is (ap (λ v. v.now) w.name-is))
    ] in
    rw named at c.add_text.ensures
