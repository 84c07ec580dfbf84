use Rattle.death_cleanup.specs.View.{state_of}
use Rattle.lwp_calls.proofs.Made.{ComesTo-said, told-behind, told-if, told-most, untold-if}
use Rattle.lwp_calls.proofs.exception_calls.carry_out.Goals as goal
use Rattle.lwp_calls.proofs.exception_calls.carry_out.Goals.{in-Return, in-Unhandle, in-UniqPatt}
use Rattle.lwp_calls.specs.Comes.{ComesTo}
use Rattle.lwp_types.specs.Case.{answer_by}
use Rattle.lwp_types.specs.Families.{exception_call}
use Rattle.lwp_types.specs.Step.{case_of}
use Rattle.std.proofs.Common.{arith, length, option_map, ◌≤◌}

pub done_now-requires : goal.done_now-requires
done_now-requires c =
    let few : length c.match-call.effects ≤ 1279 = elim c.match-call.branch [
      | in-Return w ↦ rw w.effects-is w.return_from-own.ensures.most
      | in-Unhandle w ↦ rw w.effects-is (rw c.requires.room (omega arith))
      | in-UniqPatt w ↦ rw w.effects-is (rw c.requires.room (omega arith))
    ] in
    omega (arith, few)

pub returns-clause-most : goal.returns-clause-most
returns-clause-most c =
    let few : length c.match-call.effects ≤ 1279 = elim c.match-call.branch [
      | in-Return w ↦ rw w.effects-is w.return_from-own.ensures.most
      | in-Unhandle w ↦ rw w.effects-is (rw c.requires.room (omega arith))
      | in-UniqPatt w ↦ rw w.effects-is (rw c.requires.room (omega arith))
    ] in
    told-most c.match-call.effects c.done_now.new.self c.args.tid (option_map answer_by c.match-call.own) 1279 few c.done_now.ensures

pub returns-clause-ok : goal.returns-clause-ok
returns-clause-ok c =
    let comes : ComesTo c.args.parts.now c.match-call.parts c.args.effects.now c.match-call.effects
    (case_of (state_of c.args.parts.now) c.args.tid (exception_call c.args.call.now)) (option_map
    answer_by c.match-call.own) =
    elim c.match-call.branch [
      | in-Return w ↦ rw (w.parts-is, w.own-is, w.effects-is, w.in-Return.is) w.return_from-own.ensures.comes
      | in-Unhandle w ↦ rw (w.parts-is, w.own-is, w.effects-is, w.in-Unhandle.is) (ComesTo-said w.unhandle.ensures c.args.effects.now)
      | in-UniqPatt w ↦ rw (w.parts-is, w.own-is, w.effects-is, w.in-UniqPatt.is) (ComesTo-said w.unique_pattern.ensures c.args.effects.now)
    ] in
    told-behind comes c.args.tid c.done_now.ensures

pub returns-in-CallProc-clause-ok : goal.returns-in-CallProc-clause-ok
returns-in-CallProc-clause-ok c = rw c.in-CallProc.is (told-if c.args.parts.now c.call_procedure.new.parts c.args.effects.now
    c.tell.new.effects _ c.call_procedure.result c.tell.result c.call_procedure.ensures.ok c.args.tid c.tell.ensures.ok)

pub returns-in-CallProc-clause-err : goal.returns-in-CallProc-clause-err
returns-in-CallProc-clause-err c = untold-if _ c.call_procedure.result c.tell.result c.call_procedure.ensures.err c.tell.ensures.err

pub returns-in-Handle-clause-ok : goal.returns-in-Handle-clause-ok
returns-in-Handle-clause-ok c = rw c.in-Handle.is (told-if c.args.parts.now c.handle.new.parts c.args.effects.now
    c.tell-in-Handle.new.effects _ c.handle.result c.tell-in-Handle.result c.handle.ensures.ok c.args.tid c.tell-in-Handle.ensures.ok)

pub returns-in-Handle-clause-err : goal.returns-in-Handle-clause-err
returns-in-Handle-clause-err c = untold-if _ c.handle.result c.tell-in-Handle.result c.handle.ensures.err c.tell-in-Handle.ensures.err

pub returns-in-OnExit-clause-ok : goal.returns-in-OnExit-clause-ok
returns-in-OnExit-clause-ok c = rw c.in-OnExit.is (told-if c.args.parts.now c.on_exit.new.parts c.args.effects.now
    c.tell-in-OnExit.new.effects _ c.on_exit.result c.tell-in-OnExit.result c.on_exit.ensures.ok c.args.tid c.tell-in-OnExit.ensures.ok)

pub returns-in-OnExit-clause-err : goal.returns-in-OnExit-clause-err
returns-in-OnExit-clause-err c = untold-if _ c.on_exit.result c.tell-in-OnExit.result c.on_exit.ensures.err c.tell-in-OnExit.ensures.err
