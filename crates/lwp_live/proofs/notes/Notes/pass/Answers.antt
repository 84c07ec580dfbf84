use Rattle.lwp_live.proofs.NoteLaws.{pass_added}
use Rattle.lwp_live.proofs.notes.Notes.pass.Goals as goal
use Rattle.lwp_live.specs.Answers.{known_after_call}
use Rattle.lwp_live.specs.Telling.{AreNotes}
use Rattle.pod_runner.specs.declared.session.Made.{Made}
use Rattle.std.proofs.Common.{Option, subst, sym, ◌∙◌}

pub returns-in_ok-add : goal.returns-in_ok-add
returns-in_ok-add c = λ known h. subst (λ (m : Option Made). AreNotes c.add.new.self (known_after_call known m)) (sym c.in-Some.is)
    (pass_added c.add.new.self known c.in-Some.made c.in-Some-thread.agent c.in-Some-agent_event.event
    (sym c.agent_event.ensures ∙ c.in-Some-agent_event.is) c.in-Some-thread.is (c.in_ok-add.ensures known h))
