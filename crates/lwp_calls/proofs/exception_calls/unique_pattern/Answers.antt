use Rattle.lwp_calls.proofs.Compare.{lt-false, lt-true}
use Rattle.lwp_calls.proofs.Made.{Answers-is}
use Rattle.lwp_calls.proofs.Stacks.{InStep-given}
use Rattle.lwp_calls.proofs.exception_calls.unique_pattern.Goals as goal
use Rattle.lwp_types.specs.Case.{unless}
use Rattle.std.proofs.Common.{arith, of_z, pos, refl, rules, to_z, w64, ◌+◌, ◌≡◌}

pub returns-then-pattern-gt-MOST_PATTERN : goal.returns-then-pattern-gt-MOST_PATTERN
unfolding unless
returns-then-pattern-gt-MOST_PATTERN c =
    Answers-is (rw (lt-true 2147483647 c.args.parts.now.pattern (omega (arith, c.if-pattern-gt-MOST_PATTERN.true))) refl) c.requires.step refl

pub returns : goal.returns
unfolding unless
returns c =
    let same : to_z w64 (of_z w64 c.from.result) ≡ pos c.args.parts.now.pattern = search rules in
    rw same (Answers-is (rw (lt-false 2147483647 c.args.parts.now.pattern (omega (arith, c.if-pattern-gt-MOST_PATTERN.false))) refl)
    (InStep-given c.args.parts.now c.requires.step c.args.parts.now.registration (c.args.parts.now.pattern + 1)) refl)
