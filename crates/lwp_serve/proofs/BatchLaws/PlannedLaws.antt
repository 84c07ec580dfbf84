-- From the clauses of a script's session, whose trace was counted, to the numbers that are told of it.
use Rattle.streams.specs.Counting.{Counting}
use Rattle.pod_runner.specs.declared.session.Took.{Took}
use Rattle.lwp_serve.specs.Batches.Report.{counts_of, counts_at_end}
use Rattle.lwp_serve.specs.declared.batches.report.Counts.{Counts}
use Rattle.lwp_serve.proofs.Planning.MakeLaws.{counted, few_taken, uncounted}
use Rattle.lwp_serve.specs.Plan.Make.{is_over, status_by}
use Rattle.lwp_serve.specs.Plan.Plan.{IsPlayed, IsRun, IsWhole, RunSays}
use Rattle.lwp_serve.specs.Plan.Planned.{calls_of, halt_of, takes_of, trace_of}
use Rattle.script_session.specs.History.{taken_of}
use Rattle.script_session.specs.Outcome.{end_of, status_of}
use Rattle.script_session.specs.Said.{Tells}
use Rattle.script_session.specs.declared.session.Session.{Session}
use Rattle.script_session.specs.declared.session.SessionEnd.{SessionEnd}
use Rattle.script_session.specs.declared.session.SessionEnd.TheVariants as end
use Rattle.script_text.specs.Script.{line_of, lines_posted}
use Rattle.script_text.specs.declared.script.Script.{Script}
use Rattle.std.proofs.Common.{List, Some, [], ap, arith, length, refl, subst, sym, true, ℕ, ◌∙◌, ◌≡◌, ◌≤◌}
use Rattle.std.proofs.lemmas.List.{length-map}
use Rattle.trace_text.specs.declared.ends.Halt.{Halt}
use Rattle.streams.specs.Streams.{Stream}

run-of : (turns : ℕ) (script : Script) (sink : Stream) (session : Session) (e : SessionEnd) → is_over e ≡ true
    → RunSays turns script sink session e → IsRun turns script sink session
run-of turns script sink session (end.Ended status) o s = s
run-of turns script sink session end.Stuck o s = s
run-of turns script sink session end.Spent o s = s
run-of turns script sink session end.Usage o s = absurd (cc o)
run-of turns script sink session end.ReadFault o s = absurd (cc o)
run-of turns script sink session end.WriteFault o s = absurd (cc o)
run-of turns script sink session (end.Script line reason) o s = absurd (cc o)
run-of turns script sink session end.NoMemory o s = absurd (cc o)
run-of turns script sink session (end.Input part) o s = absurd (cc o)
run-of turns script sink session end.Reported o s = absurd (cc o)
run-of turns script sink session end.Same o s = absurd (cc o)
run-of turns script sink session (end.Differs line) o s = absurd (cc o)

-- the session came to its end, and its trace has these bytes
pub record Ended (turns : ℕ) (script : Script) (bytes : List ℕ) (session : Session) : Type 0 where
  pub status : session.status ≡ status_by (halt_of script turns)
  pub calls : session.turns ≡ calls_of script turns
  pub taken : length session.taken ≡ length (takes_of script turns)
  pub few : length session.taken ≤ length script.posts
  pub trace : bytes ≡ trace_of script turns

ended-by : (turns : ℕ) (script : Script) (bytes : List ℕ) (session : Session) (halt : Halt) (takes : List Took)
    → session.status ≡ status_of session.end → session.end ≡ end_of halt → Tells session takes
    → IsWhole turns script (Some []) (Some bytes) takes session.turns halt → Ended turns script bytes session
ended-by turns script bytes session halt takes status ended tells w = record {
  status = status ∙ ap status_of ended ∙ sym (ap status_by w.halted);
  calls = w.made;
  taken = ap length tells ∙ length-map takes taken_of ∙ ap length w.taken;
  few = omega (arith, few_taken script takes w.left w.history, ap length tells, length-map takes taken_of);
  trace = cc w.trace;
}

pub ended-of : (turns : ℕ) (script : Script) (before after : Counting) (session : Session) → before ≡ uncounted → is_over session.end ≡ true
    → IsPlayed turns script (counted before after) session
    → Ended turns script after.bytes session
ended-of turns script before after session fresh o played =
    let w = run-of turns script (counted uncounted after) session session.end o
    (subst (λ (x : Counting). RunSays turns script (counted x after) session session.end) fresh played.says) in
    ended-by turns script after.bytes session w.1.0 w.1.1 played.status w.1.2 w.1.3 w.1.4

-- what is told of it is what there is to tell of the script
pub told-is : (turns : ℕ) (script : Script) (bytes : List ℕ) (session : Session) (told : Counts) (n : ℕ)
    → told ≡ counts_at_end script session n → n ≡ length bytes → Ended turns script bytes session
    → told ≡ counts_of turns script
told-is turns script bytes session told n is trace h =
    let taken : length session.taken ≡ length (takes_of script turns) = h.taken in
    let posted : length (lines_posted script) ≡ length script.posts = length-map script.posts (line_of script.texts) in
    let same : counts_at_end script session n ≡ counts_of turns script = rw (trace, h.calls, taken, ← posted, h.status, h.trace) refl in
    is ∙ same
