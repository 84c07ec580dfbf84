use Rattle.death_cleanup.specs.View.{state_of}
use Rattle.lwp_calls.proofs.Made.{ComesTo-answers, ComesTo-quiet, ComesTo-said, few-told, told-behind, told-most}
use Rattle.lwp_calls.proofs.monitor_calls.carry_out.Goals as goal
use Rattle.lwp_calls.proofs.monitor_calls.carry_out.Goals.{in-Break, in-CondEnter, in-Destroy, in-Enter, in-Exit}
use Rattle.lwp_calls.specs.Comes.{ComesTo}
use Rattle.lwp_types.specs.Case.{answer_by}
use Rattle.lwp_types.specs.Families.{monitor_call}
use Rattle.lwp_types.specs.Step.{case_of}
use Rattle.lwp_types.specs.declared.call.ExitCall.TheVariants as exit
use Rattle.std.proofs.Common.{arith, length, option_map, ◌≤◌}

pub done_now-requires : goal.done_now-requires
done_now-requires c =
    let few : length c.match-call.effects ≤ 1 = elim c.match-call.branch [
      | in-Destroy w ↦ rw w.effects-is (rw c.requires.room (omega arith))
      | in-Enter w ↦ rw w.effects-is (rw c.requires.room (omega arith))
      | in-CondEnter w ↦ rw w.effects-is (rw c.requires.room (omega arith))
      | in-Exit w ↦ rw w.effects-is (few-told c.args.tid (exit.MonExit w.in-Exit.mon) w.monitor_exit.ensures.answers c.requires.room)
      | in-Break w ↦ rw w.effects-is (few-told c.args.tid (exit.MonBreak w.in-Break.mon) w.monitor_break.ensures.answers c.requires.room)
    ] in
    omega (arith, few)

pub returns-clause-most : goal.returns-clause-most
returns-clause-most c =
    let few : length c.match-call.effects ≤ 1 = elim c.match-call.branch [
      | in-Destroy w ↦ rw w.effects-is (rw c.requires.room (omega arith))
      | in-Enter w ↦ rw w.effects-is (rw c.requires.room (omega arith))
      | in-CondEnter w ↦ rw w.effects-is (rw c.requires.room (omega arith))
      | in-Exit w ↦ rw w.effects-is (few-told c.args.tid (exit.MonExit w.in-Exit.mon) w.monitor_exit.ensures.answers c.requires.room)
      | in-Break w ↦ rw w.effects-is (few-told c.args.tid (exit.MonBreak w.in-Break.mon) w.monitor_break.ensures.answers c.requires.room)
    ] in
    omega (arith, told-most c.match-call.effects c.done_now.new.self c.args.tid (option_map answer_by c.match-call.own) 1 few c.done_now.ensures)

pub returns-clause-ok : goal.returns-clause-ok
returns-clause-ok c =
    let comes : ComesTo c.args.parts.now c.match-call.parts c.args.effects.now c.match-call.effects
    (case_of (state_of c.args.parts.now) c.args.tid (monitor_call c.args.call)) (option_map
    answer_by c.match-call.own) =
    elim c.match-call.branch [
      | in-Destroy w ↦ rw (w.parts-is, w.own-is, w.effects-is, w.in-Destroy.is) (ComesTo-said w.destroy.ensures c.args.effects.now)
      | in-Enter w ↦ rw (w.parts-is, w.own-is, w.effects-is, w.in-Enter.is) (ComesTo-quiet w.enter-own.ensures c.args.effects.now)
      | in-CondEnter w ↦ rw (w.parts-is, w.own-is, w.effects-is, w.in-CondEnter.is) (ComesTo-said w.cond_enter.ensures c.args.effects.now)
      | in-Exit w ↦ rw (w.parts-is, w.own-is, w.effects-is, w.in-Exit.is) (ComesTo-answers w.monitor_exit.ensures.answers)
      | in-Break w ↦ rw (w.parts-is, w.own-is, w.effects-is, w.in-Break.is) (ComesTo-answers w.monitor_break.ensures.answers)
    ] in
    told-behind comes c.args.tid c.done_now.ensures
