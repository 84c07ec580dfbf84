use Rattle.death_cleanup.specs.View.{state_of}
use Rattle.lwp_calls.proofs.Made.{ComesTo-answers, few-told, told-behind, told-most}
use Rattle.lwp_calls.proofs.message_calls.carry_out.Goals as goal
use Rattle.lwp_calls.proofs.message_calls.carry_out.Goals.{in-Reply, in-Send}
use Rattle.lwp_calls.specs.Comes.{ComesTo}
use Rattle.lwp_types.specs.Case.{answer_by}
use Rattle.lwp_types.specs.Families.{message_call}
use Rattle.lwp_types.specs.Step.{case_of}
use Rattle.lwp_types.specs.declared.call.ExitCall.TheVariants as exit
use Rattle.std.proofs.Common.{arith, length, option_map, ◌≤◌}

pub done_now-requires : goal.done_now-requires
done_now-requires c =
    let few : length c.match-call.effects ≤ 1 = elim c.match-call.branch [
      | in-Send w ↦ rw w.effects-is w.send-own.ensures.most
      | in-Reply w ↦ rw w.effects-is (few-told c.args.tid (exit.Reply w.in-Reply.to w.in-Reply.text.now) w.reply.ensures.answers c.requires.room)
    ] in
    omega (arith, few)

pub returns-clause-most : goal.returns-clause-most
returns-clause-most c =
    let few : length c.match-call.effects ≤ 1 = elim c.match-call.branch [
      | in-Send w ↦ rw w.effects-is w.send-own.ensures.most
      | in-Reply w ↦ rw w.effects-is (few-told c.args.tid (exit.Reply w.in-Reply.to w.in-Reply.text.now) w.reply.ensures.answers c.requires.room)
    ] in
    omega (arith, told-most c.match-call.effects c.done_now.new.self c.args.tid (option_map answer_by c.match-call.own) 1 few c.done_now.ensures)

pub returns-clause-ok : goal.returns-clause-ok
returns-clause-ok c =
    let comes : ComesTo c.args.parts.now c.match-call.parts c.args.effects.now c.match-call.effects
    (case_of (state_of c.args.parts.now) c.args.tid (message_call c.args.call.now)) (option_map
    answer_by c.match-call.own) =
    elim c.match-call.branch [
      | in-Send w ↦ rw (w.parts-is, w.own-is, w.effects-is, w.in-Send.is) w.send-own.ensures.comes
      | in-Reply w ↦ rw (w.parts-is, w.own-is, w.effects-is, w.in-Reply.is) (ComesTo-answers w.reply.ensures.answers)
    ] in
    told-behind comes c.args.tid c.done_now.ensures
