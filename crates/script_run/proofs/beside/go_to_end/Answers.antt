use Rattle.std.proofs.Common.{Err, List, None, Ok, Option, Some, ap, not, subst, sym, true, true≢false, ℕ, ◌∙◌, ◌≡◌}
use Rattle.std.specs.Prelude.{IfSome, is_some}
use Rattle.script_run.specs.Served.{lines_in_all}
use Rattle.script_run.specs.Ties.{all_texts, events_of, intakes}
use Rattle.script_run.proofs.BesideLaws.{goes-answer, goes-err, goes-heard, goes-refused, know-all, went-of, went-then}
use Rattle.script_run.specs.Beside.{KnowAll}
use Rattle.pod_runner.proofs.Rounds.{stream}
use Rattle.script_run.proofs.beside.go_to_end.Goals as goal

pub returns-in_err-beside-clause-goes : goal.returns-in_err-beside-clause-goes
returns-in_err-beside-clause-goes g c = goes-err _ _
    (stream (g.K.Sink.written c.args.sink.now) (g.K.Sink.written c.run_while_posting-beside.new.sink) (g.K.Sink.faults c.args.sink.now)
    (g.K.Sink.faults c.run_while_posting-beside.new.sink))
    c.args.played.now c.run_while_posting-beside.new.played (intakes c.args.outside.now) (intakes c.close-posted.new.self)
    c.from_residual.result c.in_err-beside.field-0.0 c.from_residual.ensures.1
    (goes-heard
    (stream (g.K.Sink.written c.args.sink.now) (g.K.Sink.written c.run_while_posting-beside.new.sink) (g.K.Sink.faults c.args.sink.now)
    (g.K.Sink.faults c.run_while_posting-beside.new.sink))
    c.args.played.now c.run_while_posting-beside.new.played (intakes c.args.outside.now)
    (intakes c.run_while_posting-beside.new.outside) (intakes c.close-posted.new.self) (Err c.in_err-beside.field-0.0)
    c.close-posted.ensures.inlets c.in_err-beside.ensures.goes)

pub returns-then-is_none-clause-goes : goal.returns-then-is_none-clause-goes
returns-then-is_none-clause-goes g c = goes-refused _ _
    (stream (g.K.Sink.written c.args.sink.now) (g.K.Sink.written c.run_while_posting-beside.new.sink) (g.K.Sink.faults c.args.sink.now)
    (g.K.Sink.faults c.run_while_posting-beside.new.sink))
    c.args.played.now c.run_while_posting-beside.new.played (intakes c.args.outside.now) (intakes c.close-posted.new.self) c.in_ok-beside.field-0
    (goes-heard
    (stream (g.K.Sink.written c.args.sink.now) (g.K.Sink.written c.run_while_posting-beside.new.sink) (g.K.Sink.faults c.args.sink.now)
    (g.K.Sink.faults c.run_while_posting-beside.new.sink))
    c.args.played.now c.run_while_posting-beside.new.played (intakes c.args.outside.now)
    (intakes c.run_while_posting-beside.new.outside) (intakes c.close-posted.new.self) (Ok c.in_ok-beside.field-0)
    c.close-posted.ensures.inlets c.in_ok-beside.ensures.goes)

pub returns-in_err-halt-clause-goes : goal.returns-in_err-halt-clause-goes
returns-in_err-halt-clause-goes g c = goes-err _ _
    (stream (g.K.Sink.written c.args.sink.now) (g.K.Sink.written c.drain.new.sink) (g.K.Sink.faults c.args.sink.now) (g.K.Sink.faults c.drain.new.sink))
    c.args.played.now c.drain.new.played (intakes c.args.outside.now) (intakes c.drain.new.outside) c.from_residual-in_err-halt.result
    c.in_err-halt.field-0.0 c.from_residual-in_err-halt.ensures.1
    (went-then (g.K.Sink.written c.args.sink.now) (g.K.Sink.written c.run_while_posting-beside.new.sink) (g.K.Sink.written c.drain.new.sink)
    (g.K.Sink.faults c.args.sink.now) (g.K.Sink.faults c.run_while_posting-beside.new.sink) (g.K.Sink.faults c.drain.new.sink)
    c.args.played.now c.run_while_posting-beside.new.played c.drain.new.played (intakes c.args.outside.now)
    (intakes c.close-posted.new.self) (intakes c.drain.new.outside) (Err c.in_err-halt.field-0.0)
    (went-of
    (stream (g.K.Sink.written c.args.sink.now) (g.K.Sink.written c.run_while_posting-beside.new.sink) (g.K.Sink.faults c.args.sink.now)
    (g.K.Sink.faults c.run_while_posting-beside.new.sink))
    c.args.played.now c.run_while_posting-beside.new.played (intakes c.args.outside.now) (intakes c.close-posted.new.self)
    c.in_ok-beside.field-0 (goes-heard (stream
    (g.K.Sink.written c.args.sink.now) (g.K.Sink.written c.run_while_posting-beside.new.sink) (g.K.Sink.faults c.args.sink.now)
    (g.K.Sink.faults c.run_while_posting-beside.new.sink)) c.args.played.now c.run_while_posting-beside.new.played (intakes
    c.args.outside.now) (intakes c.run_while_posting-beside.new.outside) (intakes c.close-posted.new.self) (Ok
    c.in_ok-beside.field-0) c.close-posted.ensures.inlets c.in_ok-beside.ensures.goes))
    c.in_err-halt.ensures.goes)

pub returns-clause-goes : goal.returns-clause-goes
returns-clause-goes g c = goes-answer
    (stream (g.K.Sink.written c.args.sink.now) (g.K.Sink.written c.drain.new.sink) (g.K.Sink.faults c.args.sink.now) (g.K.Sink.faults c.drain.new.sink))
    c.args.played.now c.drain.new.played (intakes c.args.outside.now) (intakes c.drain.new.outside) c.in_ok-halt.halt _
    (went-then (g.K.Sink.written c.args.sink.now) (g.K.Sink.written c.run_while_posting-beside.new.sink) (g.K.Sink.written c.drain.new.sink)
    (g.K.Sink.faults c.args.sink.now) (g.K.Sink.faults c.run_while_posting-beside.new.sink) (g.K.Sink.faults c.drain.new.sink)
    c.args.played.now c.run_while_posting-beside.new.played c.drain.new.played (intakes c.args.outside.now)
    (intakes c.close-posted.new.self) (intakes c.drain.new.outside) (Ok c.in_ok-halt.halt)
    (went-of
    (stream (g.K.Sink.written c.args.sink.now) (g.K.Sink.written c.run_while_posting-beside.new.sink) (g.K.Sink.faults c.args.sink.now)
    (g.K.Sink.faults c.run_while_posting-beside.new.sink))
    c.args.played.now c.run_while_posting-beside.new.played (intakes c.args.outside.now) (intakes c.close-posted.new.self)
    c.in_ok-beside.field-0 (goes-heard (stream
    (g.K.Sink.written c.args.sink.now) (g.K.Sink.written c.run_while_posting-beside.new.sink) (g.K.Sink.faults c.args.sink.now)
    (g.K.Sink.faults c.run_while_posting-beside.new.sink)) c.args.played.now c.run_while_posting-beside.new.played (intakes
    c.args.outside.now) (intakes c.run_while_posting-beside.new.outside) (intakes c.close-posted.new.self) (Ok
    c.in_ok-beside.field-0) c.close-posted.ensures.inlets c.in_ok-beside.ensures.goes))
    c.in_ok-halt.ensures.goes)

pub returns-clause-all : goal.returns-clause-all
returns-clause-all g c =
    let all : is_some c.close-posted.result ≡ true = c.is_none.ensures ∙ ap not c.if-is_none.false in
    let know = know-all (events_of c.close-posted.new.self) (all_texts c.close-posted.new.self) (is_some c.close-posted.result)
    (intakes c.close-posted.new.self) (intakes c.drain.new.outside) all c.close-posted.ensures.served c.drain.ensures.gave in
    subst (λ (events : List ℕ). KnowAll events (all_texts c.args.outside.now) (intakes c.drain.new.outside))
    (c.close-posted.ensures.same.events ∙ c.run_while_posting-beside.ensures.same.events)
    (subst (λ (texts : List (List (List ℕ))). KnowAll (events_of c.close-posted.new.self) texts (intakes c.drain.new.outside))
    (c.close-posted.ensures.same.texts ∙ c.run_while_posting-beside.ensures.same.texts) know)

-- where something was answered, and each answer is of so many lines, it is
posted-so : (posted : Option ℕ) (n : ℕ) → is_some posted ≡ true → IfSome posted (λ lines. lines ≡ n) → posted ≡ Some n
posted-so None n some h = absurd (true≢false (sym some))
posted-so (Some x) n some h = ap (λ k. Some k) h

pub returns-clause-posted : goal.returns-clause-posted
returns-clause-posted g c =
    let all : is_some c.close-posted.result ≡ true = c.is_none.ensures ∙ ap not c.if-is_none.false in
    posted-so c.close-posted.result _ all c.close-posted.ensures.lines
    ∙ ap (λ texts. Some (lines_in_all texts)) (c.close-posted.ensures.same.texts ∙ c.run_while_posting-beside.ensures.same.texts)
