use Rattle.std.proofs.Common.{◌+◌, ◌-◌}
use Rattle.event_gate.specs.Shelves.{left_in_all}
use Rattle.lwp_serve.specs.Answers.Replies.{event_of}
use Rattle.lwp_serve.proofs.AnswerLaws.AnswerLaws.{Answering}
use Rattle.lwp_serve.proofs.answers.answering.answer_out.Given as goal

abbrev pub invariant-loop-notes : goal.invariant-loop-notes
invariant-loop-notes g l = Answering (event_of l.script l.client) l.initial.played l.played l.initial.gate l.gate l.notes.event l.notes.agents
    (g.K.Sink.written l.initial.sink) (g.K.Sink.written l.sink) (g.K.Sink.faults l.initial.sink) (g.K.Sink.faults l.sink)

abbrev pub decreases-loop-notes : goal.decreases-loop-notes
decreases-loop-notes g l = (l.played.turns - l.played.calls) + left_in_all l.gate
