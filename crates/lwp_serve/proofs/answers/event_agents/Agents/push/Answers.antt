use Rattle.lwp_serve.proofs.AnswerLaws.RisingLaws.{rising-push}
use Rattle.lwp_serve.proofs.answers.event_agents.Agents.push.Goals as goal
use Rattle.lwp_serve.proofs.answers.event_agents.Agents.push.Goals.{else-self, then-self}
use Rattle.std.proofs.Common.{sym, ◌∙◌}

pub invariant_of-self-2 : goal.invariant_of-self-2
invariant_of-self-2 c = elim c.if-self.branch [
  | then-self w
      ↦ λ is. rw c.in_ok-push.ensures.items (rising-push c.self.inside.numbers.items _ (c.self.invariant w.if-self.true)
      (w.are_less-self-inside.ensures (sym w.self-is ∙ is) (c.self.invariant w.if-self.true)))
  | else-self w ↦ λ is. absurd (cc (w.self-is, is))
]
