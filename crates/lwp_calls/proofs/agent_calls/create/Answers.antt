use Rattle.death_cleanup.specs.Comes.{Answers}
use Rattle.death_cleanup.specs.View.{state_of}
use Rattle.lwp_calls.proofs.Compare.{a_priority, le-false, le-true, no_priority, zero_priority}
use Rattle.lwp_calls.proofs.Made.{Answers-is, told-alone, came_after}
use Rattle.lwp_calls.proofs.agent_calls.create.Goals as goal
use Rattle.lwp_calls.proofs.agent_calls.create.Goals.{then-len-ge-MOST_AGENTS-via-else-len-ge-MOST_AGENTS+then-births-limit}
use Rattle.lwp_calls.proofs.agent_calls.create.Goals.{then-len-ge-MOST_AGENTS-via-then-len-ge-MOST_AGENTS}
use Rattle.lwp_calls.proofs.agent_calls.create.Goals.{then-event-eq0-via-else-event-eq0+then-event-gt-MOST_EVENT, then-event-eq0-via-then-event-eq0}
use Rattle.lwp_types.specs.Agents.{after_agent_birth, make_agent}
use Rattle.lwp_types.specs.Case.{unless}
use Rattle.lwp_types.specs.State.{still}
use Rattle.lwp_types.specs.declared.call.Answer.TheVariants as answer
use Rattle.std.proofs.Common.{[], arith, length, refl}

pub returns-then-event-eq0-clause-ok : goal.returns-then-event-eq0-clause-ok
unfolding unless
returns-then-event-eq0-clause-ok c = elim c.then-event-eq0.branch [
  | then-event-eq0-via-then-event-eq0 w
      ↦ told-alone (Answers-is (rw (zero_priority c.args.event 32 w.if-event-eq0.true) refl) c.requires.lawful.step refl) c.args.caller c.done.ensures
  | then-event-eq0-via-else-event-eq0+then-event-gt-MOST_EVENT w
      ↦ told-alone
      (Answers-is (rw (no_priority c.args.event 32 (omega (arith, w.if-event-gt-MOST_EVENT.true))) refl) c.requires.lawful.step refl)
      c.args.caller c.done.ensures
]

pub returns-then-len-ge-MOST_AGENTS-clause-ok : goal.returns-then-len-ge-MOST_AGENTS-clause-ok
unfolding unless
returns-then-len-ge-MOST_AGENTS-clause-ok c =
    let fine = a_priority c.args.event 32 (omega arith) (omega (arith, c.if-event-gt-MOST_EVENT.false)) in
    elim c.then-len-ge-MOST_AGENTS.branch [
      | then-len-ge-MOST_AGENTS-via-then-len-ge-MOST_AGENTS w ↦
          let full = le-true 256 (length c.args.parts.now.agents.agents) (omega (arith, c.len.ensures, w.if-len-ge-MOST_AGENTS.true)) in
          told-alone (Answers-is (rw (fine, full) refl) c.requires.lawful.step refl) c.args.caller c.done-then-len-ge-MOST_AGENTS.ensures
      | then-len-ge-MOST_AGENTS-via-else-len-ge-MOST_AGENTS+then-births-limit w ↦
          let few = le-false 256 (length c.args.parts.now.agents.agents) (omega (arith, c.len.ensures, w.if-len-ge-MOST_AGENTS.false)) in
          let late = le-true c.args.parts.now.ids.limit c.args.parts.now.ids.births
          (omega (arith, w.births.ensures.value, w.limit.ensures, w.if-births-limit.true)) in
          told-alone (Answers-is (rw (fine, few, late) refl) c.requires.lawful.step refl) c.args.caller c.done-then-len-ge-MOST_AGENTS.ensures
    ]

pub returns-clause-ok : goal.returns-clause-ok
unfolding unless
returns-clause-ok c =
    let fine = a_priority c.args.event 32 (omega arith) (omega (arith, c.if-event-gt-MOST_EVENT.false)) in
    let few = le-false 256 (length c.args.parts.now.agents.agents) (omega (arith, c.len.ensures, c.if-len-ge-MOST_AGENTS.false)) in
    let under = le-false c.args.parts.now.ids.limit c.args.parts.now.ids.births
    (omega (arith, c.births.ensures.value, c.limit.ensures, c.if-births-limit.false)) in
    let made : Answers c.args.parts.now c.begin-agent.new.parts [] [] (make_agent (state_of c.args.parts.now) c.args.caller c.args.event) (answer.Thread
    c.begin-agent.result) =
    rw (fine, few, under, c.begin-agent.ensures.number, c.make_places.ensures.births)
    (record {
      came = came_after c.make_places.ensures.as_before (λ s. still (after_agent_birth s c.args.caller c.args.event)) c.begin-agent.ensures.came;
      own = refl;
    }) in
    told-alone made c.args.caller c.answered.ensures
