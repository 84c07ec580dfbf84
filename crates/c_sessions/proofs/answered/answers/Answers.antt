use Rattle.c_sessions.proofs.AnswerLaws.{answered_of, if_ok, refused_of, text_by}
use Rattle.c_sessions.proofs.answered.answers.Goals as goal
use Rattle.c_sessions.specs.Planned.{TellsPlan}
use Rattle.c_sessions.specs.declared.outcome.SessionRecord.{SessionRecord}
use Rattle.lwp_serve.specs.Plan.Make.{is_over}
use Rattle.script_session.specs.declared.session.SessionEnd.TheVariants as end
use Rattle.script_text.specs.Spelling.{verdict}
use Rattle.std.proofs.Common.{Err, List, ap, length, refl, rules, subst, sym, take, true, ℕ, ◌∙◌, ◌≡◌}
use Rattle.std.specs.Prelude.{IfOk, ◌==◌}

pub returns-in-Script-clause-front : goal.returns-in-Script-clause-front
returns-in-Script-clause-front c =
    let session = c.answers_main-session.result in
    let is : session.end ≡ end.Script c.in-Script.line c.in-Script.reason = search rules in
    let v = refused_of c.args.client c.args.calls c.args.script.now _ _ session c.in-Script.line c.in-Script.reason refl is c.answers_main-session.ensures in
    subst (λ (t : List ℕ). IfOk c.refused.result (λ told. told.front.items ≡ take c.args.room t))
    (sym (text_by c.args.client c.args.calls c.args.script.now (Err (c.in-Script.line, c.in-Script.reason)) v)) c.refused.ensures.front

pub returns-in-Script-clause-len : goal.returns-in-Script-clause-len
returns-in-Script-clause-len c =
    let session = c.answers_main-session.result in
    let is : session.end ≡ end.Script c.in-Script.line c.in-Script.reason = search rules in
    let v = refused_of c.args.client c.args.calls c.args.script.now _ _ session c.in-Script.line c.in-Script.reason refl is c.answers_main-session.ensures in
    subst (λ (t : List ℕ). IfOk c.refused.result (λ told. told.len ≡ length t))
    (sym (text_by c.args.client c.args.calls c.args.script.now (Err (c.in-Script.line, c.in-Script.reason)) v)) c.refused.ensures.len

pub returns : goal.returns
returns c =
    let session = c.answers_main-session.result in
    let over : is_over session.end ≡ true = search rules in
    let a = answered_of c.args.client c.args.calls c.args.room c.args.script.now _ c.new-sink.result c.answers_main-session.new.sink session
    refl c.new-sink.ensures over
    c.answers_main-session.ensures in
    record {
      front = subst (λ (t : List ℕ). IfOk c.whole.result (λ told. told.front.items ≡ take c.args.room t)) a.text c.whole.ensures.front;
      len = subst (λ (t : List ℕ). IfOk c.whole.result (λ told. told.len ≡ length t)) a.text c.whole.ensures.len;
      «record» = if_ok c.whole.result
          (λ told h. subst (λ (r : SessionRecord). TellsPlan (verdict c.args.script.now) c.args.calls r) (sym h) a.told) c.whole.ensures.record;
      reason = if_ok c.whole.result (λ told h. ap (λ (r : SessionRecord). r.reason == 0) h ∙ a.reason) c.whole.ensures.record;
    }
