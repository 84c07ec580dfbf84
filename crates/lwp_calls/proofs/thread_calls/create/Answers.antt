use Rattle.death_cleanup.specs.Comes.{Answers}
use Rattle.death_cleanup.specs.View.{state_of}
use Rattle.lwp_calls.proofs.Made.{Answers-is, came_after, lawful_after, told-alone}
use Rattle.lwp_calls.proofs.Messaging.{unless_passed, unless_struck}
use Rattle.lwp_calls.proofs.thread_calls.create.Goals as goal
use Rattle.lwp_types.specs.State.{still}
use Rattle.lwp_types.specs.Threads.{after_create, create}
use Rattle.lwp_types.specs.declared.call.Answer.TheVariants as answer
use Rattle.std.proofs.Common.{[], refl, sym, ◌∙◌}

pub returns-in-Some-clause-ok : goal.returns-in-Some-clause-ok
returns-in-Some-clause-ok c = told-alone
    (Answers-is (unless_struck (state_of c.args.parts.now) _ _ c.in-Some.err (sym c.create_refusal.ensures.value ∙ c.in-Some.is)) c.requires.lawful.step refl)
    c.args.caller c.done.ensures

pub begin-tid-requires-clause-lawful : goal.begin-tid-requires-clause-lawful
begin-tid-requires-clause-lawful c = lawful_after c.make_places.ensures.as_before c.requires.lawful

pub returns-clause-ok : goal.returns-clause-ok
returns-clause-ok c =
    let made : Answers c.args.parts.now c.begin-tid.new.parts [] [] (create (state_of c.args.parts.now) c.args.number c.args.prio c.args.flags) (answer.Thread
    c.begin-tid.result) =
    rw (
      unless_passed (state_of c.args.parts.now) _ _ (sym c.create_refusal.ensures.value ∙ c.in_default.is),
      c.begin-tid.ensures.number,
      c.make_places.ensures.births,
    )
    (record {
      came = came_after c.make_places.ensures.as_before (λ s. still (after_create s c.args.prio c.args.flags)) c.begin-tid.ensures.came;
      own = refl;
    }) in
    told-alone made c.args.caller c.answered.ensures
