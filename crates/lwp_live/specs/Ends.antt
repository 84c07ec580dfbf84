-- What a script's own posts are, and how a session ends by how its run has.
use Rattle.lists.specs.Texts.{text_at}
use Rattle.lwp_live.specs.declared.arrival.Arrival.{Arrival}
use Rattle.lwp_live.specs.declared.stop.Stop.{Stop}
use Rattle.lwp_live.specs.declared.stop.Stop.TheVariants as stop
use Rattle.script_session.specs.Outcome.{end_of}
use Rattle.script_session.specs.declared.session.SessionEnd.{SessionEnd}
use Rattle.script_session.specs.declared.session.SessionEnd.TheVariants as end
use Rattle.script_text.specs.declared.script.Post.{Post}
use Rattle.trace_text.specs.declared.ends.Halt.{Halt}
use Rattle.std.specs.Prelude.{Err, List, Ok, Result, ℕ}

-- a line of a script as a post
abbrev pub arrival_of : List (List ℕ) → Post → Arrival
arrival_of texts post = record { client = post.client; text = text_at texts post.text }

-- how the session of a run ends
abbrev pub end_by : Result Halt Stop → SessionEnd
end_by (Ok halt) = end_of halt
end_by (Err stop.NoMemory) = end.NoMemory
end_by (Err stop.TraceFault) = end.WriteFault
end_by (Err stop.AnswerFault) = end.WriteFault
end_by (Err stop.RecordFault) = end.WriteFault
