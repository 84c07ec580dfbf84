use Rattle.death_cleanup.specs.View.{state_of}
use Rattle.lwp_calls.proofs.Made.{ComesTo-quiet, ComesTo-said, told-behind, told-most}
use Rattle.lwp_calls.proofs.thread_calls.carry_out.Goals as goal
use Rattle.lwp_calls.proofs.thread_calls.carry_out.Goals.{in-Destroy, in-Join, in-Ping, in-Sleep}
use Rattle.lwp_calls.specs.Comes.{ComesTo}
use Rattle.lwp_types.specs.Case.{answer_by}
use Rattle.lwp_types.specs.Families.{thread_call}
use Rattle.lwp_types.specs.Step.{case_of}
use Rattle.std.proofs.Common.{arith, length, option_map, refl, ◌≤◌}

pub done_now-requires : goal.done_now-requires
done_now-requires c =
    let few : length c.match-call.effects ≤ 1279 = elim c.match-call.branch [
      | in-Destroy w ↦ rw w.effects-is w.destroy-own.ensures.most
      | in-Ping w ↦ rw w.effects-is (rw c.requires.room (omega arith))
      | in-Join w ↦ rw w.effects-is (rw c.requires.room (omega arith))
      | in-Sleep w ↦ rw w.effects-is (rw c.requires.room (omega arith))
    ] in
    omega (arith, few)

pub returns-clause-most : goal.returns-clause-most
returns-clause-most c =
    let few : length c.match-call.effects ≤ 1279 = elim c.match-call.branch [
      | in-Destroy w ↦ rw w.effects-is w.destroy-own.ensures.most
      | in-Ping w ↦ rw w.effects-is (rw c.requires.room (omega arith))
      | in-Join w ↦ rw w.effects-is (rw c.requires.room (omega arith))
      | in-Sleep w ↦ rw w.effects-is (rw c.requires.room (omega arith))
    ] in
    told-most c.match-call.effects c.done_now.new.self c.args.tid (option_map answer_by c.match-call.own) 1279 few c.done_now.ensures

pub returns-clause-ok : goal.returns-clause-ok
returns-clause-ok c =
    let comes : ComesTo c.args.parts.now c.match-call.parts c.args.effects.now c.match-call.effects
    (case_of (state_of c.args.parts.now) c.args.tid (thread_call c.args.call)) (option_map
    answer_by c.match-call.own) =
    elim c.match-call.branch [
      | in-Destroy w ↦ rw (w.parts-is, w.own-is, w.effects-is, w.in-Destroy.is) w.destroy-own.ensures.comes
      | in-Ping w ↦ rw (w.parts-is, w.own-is, w.effects-is, w.in-Ping.is) (ComesTo-said w.ping.ensures c.args.effects.now)
      | in-Join w ↦ rw (w.parts-is, w.own-is, w.effects-is, w.in-Join.is) (ComesTo-quiet w.join-own.ensures c.args.effects.now)
      | in-Sleep w ↦ rw (w.parts-is, w.own-is, w.effects-is, w.in-Sleep.is) (ComesTo-quiet w.sleep-own.ensures c.args.effects.now)
    ] in
    told-behind comes c.args.tid c.done_now.ensures

pub returns-in-Create : goal.returns-in-Create
returns-in-Create c = rw c.in-Create.is
    (record { ok = c.create.ensures.ok; most = omega (arith, c.create.ensures.most); err = c.create.ensures.err; memory = λ e. refl })
