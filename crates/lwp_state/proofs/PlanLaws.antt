-- What a session of `plan` says, from what was read, shown and written.
use Rattle.event_gate.specs.Shelves.{Shelves}
use Rattle.lwp_serve.proofs.Planning.PlanLaws.{whole-is}
use Rattle.lwp_serve.specs.Plan.Planned.{calls_of, plan_of, takes_of}
use Rattle.lwp_state.specs.Plan.{IsPlanned, IsShown, IsStateAfterPlan, PlanSays}
use Rattle.lwp_state.specs.Shown.{IsCut, IsStateOf, IsToldBy, IsWritten}
use Rattle.lwp_types.specs.Streams.{after_append}
use Rattle.pod_runner.specs.Eager.{Plan, plan_whole}
use Rattle.pod_runner.specs.Run as run
use Rattle.pod_runner.specs.Run.{GoesOn, IsNew, Played}
use Rattle.pod_runner.specs.Session as Sessions
use Rattle.pod_runner.specs.Snapshots.{IsSnapshot}
use Rattle.pod_runner.specs.declared.session.Took.{Took}
use Rattle.script_body.specs.Bodies.{bodies_of, body_next}
use Rattle.script_body.specs.Stocked.{stock_of}
use Rattle.script_body.specs.declared.thread_body.ThreadBody.{ThreadBody}
use Rattle.script_session.proofs.RunLaws.{is-new, plays, session-is}
use Rattle.script_session.proofs.SaidLaws.{read-of, says-all}
use Rattle.script_session.specs.Outcome.{outcome_of}
use Rattle.script_session.specs.Said.{IsNotRead, IsRead}
use Rattle.script_session.specs.SoFar.{opening_run, session_at}
use Rattle.script_session.specs.declared.session.Session.{Session}
use Rattle.script_session.specs.declared.session.SessionEnd.{SessionEnd}
use Rattle.script_session.specs.declared.session.SessionEnd.TheVariants as end
use Rattle.script_text.specs.declared.script.Script.{Script}
use Rattle.snapshots.specs.declared.session.Snapshot.{Snapshot}
use Rattle.std.proofs.Common.{List, [], ap, inl, inr, refl, subst, sym, true, ℕ, ◌∙◌, ◌≡◌, ◌⊎◌}
use Rattle.streams.specs.Streams.{IsFaultless, IsFaulty, IsQuiet, Stream}
use Rattle.streams.specs.Writing.{AppendsPart}

-- a run over all its lines comes to the end of the plan
pub came-to : (script : Script) (turns : ℕ) (o r : Played Script) (s left : Shelves) → o ≡ opening_run script turns → s ≡ stock_of script
    → (IsNew o → run.plan_now body_next bodies_of r left ≡ plan_whole (run.planned_of body_next bodies_of o) s)
    → (r.takes ≡ takes_of script turns) × (r.calls ≡ calls_of script turns)
unfolding takes_of calls_of
came-to script turns o r s left h t eager =
    let all = eager (is-new script turns o h) ∙ whole-is script turns o s h t in
    (ap (λ (p : Plan ThreadBody). p.takes) all, ap (λ (p : Plan ThreadBody). p.calls) all)

-- it is a run of the script, whatever it is allowed
pub goes-on-from : (script : Script) (turns : ℕ) (o r : Played Script) → o ≡ opening_run script turns → GoesOn o r → GoesOn (opening_run script r.turns) r
goes-on-from script turns o r h g = record {
  program = g.program ∙ ap (λ (x : Played Script). x.program) h;
  params = g.params ∙ ap (λ (x : Played Script). x.params) h;
  names = g.names ∙ ap (λ (x : Played Script). x.names) h;
  turns = refl;
}

-- its snapshot is that of the script's session
pub shows-of : (script : Script) (r : Played Script) (n : ℕ) (snap : Snapshot) → GoesOn (opening_run script r.turns) r
    → IsSnapshot n r.takes r.calls (run.session_of body_next bodies_of r).live snap → IsSnapshot n r.takes r.calls (session_at script r.takes r.calls).live snap
shows-of script r n snap g h =
    subst (λ (s : Sessions.Session ThreadBody). IsSnapshot n r.takes r.calls s.live snap)
    (session-is script r.turns r (plays script r.turns (opening_run script r.turns) r refl g)) h

plan-of : (calls : ℕ) (source sink : Stream) (e : SessionEnd) (takes : List Took) (made : ℕ) (session : Session) → session ≡ outcome_of e takes made
    → PlanSays calls source sink (outcome_of e takes made) e → IsStateAfterPlan calls source sink session
plan-of calls source sink e takes made session is says =
    subst (λ (x : Session). IsStateAfterPlan calls source sink x) (sym is) (record { status = refl; says = says })

unread-says : (calls : ℕ) (source sink : Stream) (e : SessionEnd) → IsQuiet sink → IsNotRead source e → PlanSays calls source sink (outcome_of e [] 0) e
unread-says calls source sink end.ReadFault quiet h = (h.0, h.1, record { quiet = quiet; taken = refl; calls = refl })
unread-says calls source sink end.NoMemory quiet h = (h.0, h.1, record { quiet = quiet; taken = refl; calls = refl })
unread-says calls source sink (end.Script line reason) quiet h = (h.0, h.2, h.1, record { quiet = quiet; taken = refl; calls = refl })
unread-says calls source sink (end.Ended status) quiet h = absurd h
unread-says calls source sink end.Stuck quiet h = absurd h
unread-says calls source sink end.Spent quiet h = absurd h
unread-says calls source sink end.WriteFault quiet h = absurd h
unread-says calls source sink end.Usage quiet h = absurd h
unread-says calls source sink (end.Input part) quiet h = absurd h
unread-says calls source sink end.Reported quiet h = absurd h
unread-says calls source sink end.Same quiet h = absurd h
unread-says calls source sink (end.Differs line) quiet h = absurd h

-- no script was read
pub plan-unread : (calls : ℕ) (source sink : Stream) (e : SessionEnd) (session : Session) → session ≡ outcome_of e [] 0 → IsQuiet sink
    → IsNotRead source e → IsStateAfterPlan calls source sink session
plan-unread calls source sink e session is quiet h = plan-of calls source sink e [] 0 session is (unread-says calls source sink e quiet h)

-- one was, and then memory ran out
plan-refused : (calls : ℕ) (source sink : Stream) (script : Script) (session : Session) → session ≡ outcome_of end.NoMemory [] 0
    → IsQuiet sink → IsRead source script → IsStateAfterPlan calls source sink session
plan-refused calls source sink script session is quiet h =
    plan-of calls source sink end.NoMemory [] 0 session is (
      h.faultless,
      read-of source script end.NoMemory h tt,
      record { quiet = quiet; taken = refl; calls = refl },
    )

-- a script was read, and shown
pub plan-shown : (calls : ℕ) (source sink : Stream) (script : Script) (session : Session) → IsRead source script
    → IsShown calls script sink session → IsStateAfterPlan calls source sink session
plan-shown calls source sink script session h (inl refused) = plan-refused calls source sink script session refused.0 refused.1 h
plan-shown calls source sink script session h (inr shown) = by shown.0 shown.1 shown.2
  where
    takes : List Took
    takes = takes_of script calls

    made : ℕ
    made = calls_of script calls

    planned : (ends : SessionEnd) (text : List ℕ) → IsStateOf true script takes made text → IsPlanned calls script (outcome_of ends takes made) text
    planned ends text state = record { made = refl; taken = refl; state = state }

    by : (text : List ℕ) → IsStateOf true script takes made text → IsToldBy end.Reported takes made text sink session
        → IsStateAfterPlan calls source sink session
    by text state (inl t) = plan-of calls source sink end.Reported takes made session t.0 (
      read-of source script end.Stuck h tt,
      (
        h.faultless,
        says-all source.old script (λ (x : Script). IsWritten (IsPlanned calls x (outcome_of end.Reported takes made)) sink) h.holds
            (t.1, (text, planned end.Reported text state, t.2)),
      ),
    )
    by text state (inr t) = plan-of calls source sink end.WriteFault takes made session t.0 (
      read-of source script end.Stuck h tt,
      (
        h.faultless,
        says-all source.old script (λ (x : Script). IsCut (IsPlanned calls x (outcome_of end.WriteFault takes made)) sink) h.holds
            (t.1, (text, planned end.WriteFault text state, t.2)),
      ),
    )
