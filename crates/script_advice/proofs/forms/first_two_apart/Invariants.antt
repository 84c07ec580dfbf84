use Rattle.std.proofs.Common.{◌≡◌, drop}
use Rattle.script_advice.specs.Forms.{first_op}
use Rattle.script_advice.specs.Near.{two_apart}
use Rattle.script_advice.proofs.forms.first_two_apart.Given as goal

abbrev pub invariant-loop-op : goal.invariant-loop-op
invariant-loop-op l = first_op (λ v. two_apart v l.words) (drop l.op-index l.ops) ≡ first_op (λ v. two_apart v l.words) l.ops
