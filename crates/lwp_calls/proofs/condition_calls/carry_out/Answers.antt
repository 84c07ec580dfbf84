use Rattle.death_cleanup.specs.View.{state_of}
use Rattle.lwp_calls.proofs.Made.{ComesTo-said, told-behind, told-most}
use Rattle.lwp_calls.proofs.condition_calls.carry_out.Goals as goal
use Rattle.lwp_calls.proofs.condition_calls.carry_out.Goals.{in-Broadcast, in-Destroy, in-Notify, in-Send, in-Wait}
use Rattle.lwp_calls.specs.Comes.{ComesTo}
use Rattle.lwp_types.specs.Case.{answer_by}
use Rattle.lwp_types.specs.Families.{condition_call}
use Rattle.lwp_types.specs.Step.{case_of}
use Rattle.std.proofs.Common.{arith, length, option_map, ◌≤◌}

pub done_now-requires : goal.done_now-requires
done_now-requires c =
    let few : length c.match-call.effects ≤ 1 = elim c.match-call.branch [
      | in-Destroy w ↦ rw w.effects-is (rw c.requires.room (omega arith))
      | in-Wait w ↦ rw w.effects-is w.wait-own.ensures.most
      | in-Notify w ↦ rw w.effects-is (rw c.requires.room (omega arith))
      | in-Broadcast w ↦ rw w.effects-is (rw c.requires.room (omega arith))
      | in-Send w ↦ rw w.effects-is (rw c.requires.room (omega arith))
    ] in
    omega (arith, few)

pub returns-clause-most : goal.returns-clause-most
returns-clause-most c =
    let few : length c.match-call.effects ≤ 1 = elim c.match-call.branch [
      | in-Destroy w ↦ rw w.effects-is (rw c.requires.room (omega arith))
      | in-Wait w ↦ rw w.effects-is w.wait-own.ensures.most
      | in-Notify w ↦ rw w.effects-is (rw c.requires.room (omega arith))
      | in-Broadcast w ↦ rw w.effects-is (rw c.requires.room (omega arith))
      | in-Send w ↦ rw w.effects-is (rw c.requires.room (omega arith))
    ] in
    omega (arith, told-most c.match-call.effects c.done_now.new.self c.args.tid (option_map answer_by c.match-call.own) 1 few c.done_now.ensures)

pub returns-clause-ok : goal.returns-clause-ok
returns-clause-ok c =
    let comes : ComesTo c.args.parts.now c.match-call.parts c.args.effects.now c.match-call.effects
    (case_of (state_of c.args.parts.now) c.args.tid (condition_call c.args.call)) (option_map
    answer_by c.match-call.own) =
    elim c.match-call.branch [
      | in-Destroy w ↦ rw (w.parts-is, w.own-is, w.effects-is, w.in-Destroy.is) (ComesTo-said w.destroy.ensures c.args.effects.now)
      | in-Wait w ↦ rw (w.parts-is, w.own-is, w.effects-is, w.in-Wait.is) w.wait-own.ensures.comes
      | in-Notify w ↦ rw (w.parts-is, w.own-is, w.effects-is, w.in-Notify.is) (ComesTo-said w.notify.ensures.answers c.args.effects.now)
      | in-Broadcast w ↦ rw (w.parts-is, w.own-is, w.effects-is, w.in-Broadcast.is) (ComesTo-said w.broadcast.ensures.answers c.args.effects.now)
      | in-Send w ↦ rw (w.parts-is, w.own-is, w.effects-is, w.in-Send.is) (ComesTo-said w.cond_send.ensures.answers c.args.effects.now)
    ] in
    told-behind comes c.args.tid c.done_now.ensures
