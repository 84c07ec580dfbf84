use Rattle.std.proofs.Common.{arith, length, length-drop, refl, ◌+◌, ◌<◌, ◌≡◌}
use Rattle.trace_lines.specs.Words.{reach}
use Rattle.trace_page.proofs.PageLaws.{bad_on, drawn_on, refused, told_on, unended}
use Rattle.trace_page.proofs.page.add_lines.Goals as goal

pub loop-rest-init : goal.loop-rest-init
loop-rest-init c = record { told = refl; drawn = refl; bad = refl; room = omega arith }

pub returns-then-end-rest-clause-bad : goal.returns-then-end-rest-clause-bad
returns-then-end-rest-clause-bad c =
    let all : reach 10 c.loop-rest.rest.now ≡ length c.loop-rest.rest.now = grind (arith, c.reach-end.ensures.value) in
    let some : 0 < length c.loop-rest.rest.now = grind arith in
    λ n e. unended c.loop-rest.number n c.loop-rest.rest.now c.args.text.now all some c.loop-rest.invariant.bad (cc)

pub returns-in-Err-clause-bad : goal.returns-in-Err-clause-bad
returns-in-Err-clause-bad c =
    let lt : c.reach-end.result < length c.loop-rest.rest.now = grind (arith, c.reach-end.ensures.within) in
    λ n e. refused c.loop-rest.rest.now c.reach-end.result c.reach-end.ensures.value lt c.loop-rest.number n c.args.text.now
    c.loop-rest.invariant.bad (c.in-Err.ensures.bad n e)

pub loop-rest-preserved : goal.loop-rest-preserved
loop-rest-preserved c =
    let rest = c.loop-rest.rest.now in
    let left = c.skip-rest.result.now in
    let k = c.reach-end.result in
    let at = c.reach-end.ensures.value in
    let lt : c.reach-end.result < length c.loop-rest.rest.now = grind (arith, c.reach-end.ensures.within) in
    let is = c.skip-rest.ensures in
    record {
      told = told_on rest left k at lt is c.loop-rest.scene c.add_line.new.scene _ c.in-Ok.ensures.told c.loop-rest.invariant.told;
      drawn = drawn_on rest left k at lt is c.loop-rest.scene c.add_line.new.scene c.loop-rest.out.items c.add_line.new.out.items _
          c.in-Ok.ensures.told c.in-Ok.ensures.drawn c.loop-rest.invariant.drawn;
      bad = bad_on rest left k at lt is c.loop-rest.number c.args.text.now c.in-Ok.ensures.good c.loop-rest.invariant.bad;
      room = rw is (omega (arith, length-drop (c.reach-end.result + 1) rest, c.loop-rest.invariant.room, lt));
    }
