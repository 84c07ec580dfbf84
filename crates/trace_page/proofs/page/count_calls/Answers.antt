use Rattle.std.proofs.Common.{arith, length, refl, ◌<◌, ◌≡◌, ◌≤◌, ◌+◌}
use Rattle.trace_lines.specs.Words.{reach}
use Rattle.trace_page.proofs.PageLaws.{all_counted, counted_on, room_on}
use Rattle.trace_page.proofs.page.count_calls.Goals as goal

pub returns-then-end-rest : goal.returns-then-end-rest
returns-then-end-rest c =
    let all : reach 10 c.loop-rest.rest.now ≡ length c.loop-rest.rest.now = grind (arith, c.reach-end.ensures.value) in
    all_counted c.loop-rest.calls _ c.loop-rest.rest.now all c.loop-rest.invariant.counted

pub loop-rest-preserved : goal.loop-rest-preserved
loop-rest-preserved c =
    let rest = c.loop-rest.rest.now in
    let left = c.skip-rest.result.now in
    let k = c.reach-end.result in
    let at = c.reach-end.ensures.value in
    let lt : c.reach-end.result < length c.loop-rest.rest.now = grind (arith, c.reach-end.ensures.within) in
    let is = c.skip-rest.ensures in
    record {
      counted = counted_on rest left k at lt is c.loop-rest.calls c.line_calls-calls.result _ c.line_calls-calls.ensures.value c.loop-rest.invariant.counted;
      room = room_on rest left k at lt is c.loop-rest.calls c.line_calls-calls.result _ c.line_calls-calls.ensures.most c.loop-rest.invariant.room;
    }
