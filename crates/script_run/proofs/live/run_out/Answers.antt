use Rattle.std.proofs.Common.{List, Ok, Some, ap, map, subst, ℕ, ◌∙◌}
use Rattle.script_run.specs.Ties.{all_texts, intakes}
use Rattle.script_run.proofs.BesideLaws.{broke-of, goes-err, wrote-of}
use Rattle.script_run.proofs.ClientLaws.{items_of}
use Rattle.script_run.proofs.LiveLaws.{lines-are, live-broken, live-cut, live-stopped, lived-of, over-of, ran-of, tail-of, texts-few}
use Rattle.script_session.proofs.RunLaws.{told-before}
use Rattle.script_run.specs.Beside.{AreBack, KnowAll}
use Rattle.pod_runner.proofs.Appends.{cut_base, writes_base}
use Rattle.pod_runner.proofs.Rounds.{stream}
use Rattle.script_run.proofs.live.run_out.Goals as goal

pub returns-in_err-whole-clause-stopped : goal.returns-in_err-whole-clause-stopped
returns-in_err-whole-clause-stopped g c =
    λ is. live-stopped c.args.script.now c.args.turns c.go_to_end.new.played (intakes c.go_to_end.new.outside)
    (g.K.Sink.written c.args.sink.now) (g.K.Sink.written c.go_to_end.new.sink) c.requires.posted (ran-of c.args.script.now c.args.turns (stream
    (g.K.Sink.written c.args.sink.now) (g.K.Sink.written c.go_to_end.new.sink) (g.K.Sink.faults c.args.sink.now)
    (g.K.Sink.faults c.go_to_end.new.sink)) c.args.played.now c.go_to_end.new.played (intakes c.args.outside.now) (intakes
    c.go_to_end.new.outside) (all_texts c.args.outside.now) c.from_residual.result (goes-err _ _
    (stream (g.K.Sink.written c.args.sink.now) (g.K.Sink.written c.go_to_end.new.sink) (g.K.Sink.faults c.args.sink.now) (g.K.Sink.faults c.go_to_end.new.sink))
    c.args.played.now c.go_to_end.new.played (intakes c.args.outside.now) (intakes c.go_to_end.new.outside) c.from_residual.result
    c.in_err-whole.field-0.0 c.from_residual.ensures.1 c.in_err-whole.ensures.goes) c.requires.opening c.requires.new (c.requires.all_texts
    ∙ c.requires.texts) c.requires.posted
    (subst (λ (events : List ℕ). AreBack events (all_texts c.args.outside.now) (intakes c.go_to_end.new.outside)) c.requires.events c.go_to_end.ensures.back))
    (writes_base (wrote-of
    (stream (g.K.Sink.written c.args.sink.now) (g.K.Sink.written c.go_to_end.new.sink) (g.K.Sink.faults c.args.sink.now)
    (g.K.Sink.faults c.go_to_end.new.sink))
    c.args.played.now c.go_to_end.new.played (intakes c.args.outside.now) (intakes c.go_to_end.new.outside) c.from_residual.result
    (goes-err _ _
    (stream (g.K.Sink.written c.args.sink.now) (g.K.Sink.written c.go_to_end.new.sink) (g.K.Sink.faults c.args.sink.now)
    (g.K.Sink.faults c.go_to_end.new.sink))
    c.args.played.now c.go_to_end.new.played (intakes c.args.outside.now) (intakes c.go_to_end.new.outside) c.from_residual.result
    c.in_err-whole.field-0.0 c.from_residual.ensures.1 c.in_err-whole.ensures.goes)
    is).0
    (g.K.Sink.written c.args.sink.now) (told-before c.args.script.now c.args.turns c.args.played.now (g.K.Sink.written c.args.sink.now) c.requires.opening))

pub returns-in_err-whole-clause-broken : goal.returns-in_err-whole-clause-broken
returns-in_err-whole-clause-broken g c =
    λ is. live-broken c.args.script.now c.args.turns c.go_to_end.new.played (intakes c.go_to_end.new.outside)
    (g.K.Sink.written c.args.sink.now) (g.K.Sink.written c.go_to_end.new.sink) c.requires.posted (ran-of c.args.script.now c.args.turns (stream
    (g.K.Sink.written c.args.sink.now) (g.K.Sink.written c.go_to_end.new.sink) (g.K.Sink.faults c.args.sink.now)
    (g.K.Sink.faults c.go_to_end.new.sink)) c.args.played.now c.go_to_end.new.played (intakes c.args.outside.now) (intakes
    c.go_to_end.new.outside) (all_texts c.args.outside.now) c.from_residual.result (goes-err _ _
    (stream (g.K.Sink.written c.args.sink.now) (g.K.Sink.written c.go_to_end.new.sink) (g.K.Sink.faults c.args.sink.now) (g.K.Sink.faults c.go_to_end.new.sink))
    c.args.played.now c.go_to_end.new.played (intakes c.args.outside.now) (intakes c.go_to_end.new.outside) c.from_residual.result
    c.in_err-whole.field-0.0 c.from_residual.ensures.1 c.in_err-whole.ensures.goes) c.requires.opening c.requires.new (c.requires.all_texts
    ∙ c.requires.texts) c.requires.posted
    (subst (λ (events : List ℕ). AreBack events (all_texts c.args.outside.now) (intakes c.go_to_end.new.outside)) c.requires.events c.go_to_end.ensures.back))
    (cut_base (broke-of
    (stream (g.K.Sink.written c.args.sink.now) (g.K.Sink.written c.go_to_end.new.sink) (g.K.Sink.faults c.args.sink.now)
    (g.K.Sink.faults c.go_to_end.new.sink))
    c.args.played.now c.go_to_end.new.played (intakes c.args.outside.now) (intakes c.go_to_end.new.outside) c.from_residual.result
    (goes-err _ _
    (stream (g.K.Sink.written c.args.sink.now) (g.K.Sink.written c.go_to_end.new.sink) (g.K.Sink.faults c.args.sink.now)
    (g.K.Sink.faults c.go_to_end.new.sink))
    c.args.played.now c.go_to_end.new.played (intakes c.args.outside.now) (intakes c.go_to_end.new.outside) c.from_residual.result
    c.in_err-whole.field-0.0 c.from_residual.ensures.1 c.in_err-whole.ensures.goes)
    is).0
    (g.K.Sink.written c.args.sink.now) (told-before c.args.script.now c.args.turns c.args.played.now (g.K.Sink.written c.args.sink.now) c.requires.opening))

pub returns-in_err-whole-clause-cause : goal.returns-in_err-whole-clause-cause
returns-in_err-whole-clause-cause g c = λ is. (broke-of (stream (g.K.Sink.written c.args.sink.now) (g.K.Sink.written c.go_to_end.new.sink)
    (g.K.Sink.faults c.args.sink.now) (g.K.Sink.faults c.go_to_end.new.sink)) c.args.played.now c.go_to_end.new.played (intakes
    c.args.outside.now) (intakes c.go_to_end.new.outside) c.from_residual.result (goes-err _ _
    (stream (g.K.Sink.written c.args.sink.now) (g.K.Sink.written c.go_to_end.new.sink) (g.K.Sink.faults c.args.sink.now) (g.K.Sink.faults c.go_to_end.new.sink))
    c.args.played.now c.go_to_end.new.played (intakes c.args.outside.now) (intakes c.go_to_end.new.outside) c.from_residual.result
    c.in_err-whole.field-0.0 c.from_residual.ensures.1 c.in_err-whole.ensures.goes) is).1

pub returns-in_err-whole-clause-memory : goal.returns-in_err-whole-clause-memory
returns-in_err-whole-clause-memory g c = λ is. (wrote-of (stream (g.K.Sink.written c.args.sink.now) (g.K.Sink.written c.go_to_end.new.sink)
    (g.K.Sink.faults c.args.sink.now) (g.K.Sink.faults c.go_to_end.new.sink)) c.args.played.now c.go_to_end.new.played (intakes
    c.args.outside.now) (intakes c.go_to_end.new.outside) c.from_residual.result (goes-err _ _
    (stream (g.K.Sink.written c.args.sink.now) (g.K.Sink.written c.go_to_end.new.sink) (g.K.Sink.faults c.args.sink.now) (g.K.Sink.faults c.go_to_end.new.sink))
    c.args.played.now c.go_to_end.new.played (intakes c.args.outside.now) (intakes c.go_to_end.new.outside) c.from_residual.result
    c.in_err-whole.field-0.0 c.from_residual.ensures.1 c.in_err-whole.ensures.goes) is).1

pub returns-in_err-left-clause-stopped : goal.returns-in_err-left-clause-stopped
returns-in_err-left-clause-stopped g c = λ is. live-stopped c.args.script.now c.args.turns c.go_to_end.new.played
    (intakes c.go_to_end.new.outside) (g.K.Sink.written c.args.sink.now) (g.K.Sink.written c.go_to_end.new.sink) c.requires.posted
    (ran-of c.args.script.now c.args.turns
    (stream (g.K.Sink.written c.args.sink.now) (g.K.Sink.written c.go_to_end.new.sink) (g.K.Sink.faults c.args.sink.now) (g.K.Sink.faults c.go_to_end.new.sink))
    c.args.played.now c.go_to_end.new.played (intakes c.args.outside.now) (intakes c.go_to_end.new.outside) (all_texts c.args.outside.now)
    (Ok c.in_ok-whole.whole) c.in_ok-whole.ensures.goes c.requires.opening c.requires.new (c.requires.all_texts ∙ c.requires.texts) c.requires.posted (subst
    (λ (events : List ℕ). AreBack events (all_texts c.args.outside.now) (intakes c.go_to_end.new.outside)) c.requires.events c.go_to_end.ensures.back))
    (writes_base c.in_ok-whole.ensures.goes.ran.told.0 (g.K.Sink.written c.args.sink.now)
    (told-before c.args.script.now c.args.turns c.args.played.now (g.K.Sink.written c.args.sink.now) c.requires.opening))

pub returns-in_err-tail-clause-stopped : goal.returns-in_err-tail-clause-stopped
returns-in_err-tail-clause-stopped g c = λ is. live-stopped c.args.script.now c.args.turns c.go_to_end.new.played
    (intakes c.go_to_end.new.outside) (g.K.Sink.written c.args.sink.now) (g.K.Sink.written c.go_to_end.new.sink) c.requires.posted
    (ran-of c.args.script.now c.args.turns
    (stream (g.K.Sink.written c.args.sink.now) (g.K.Sink.written c.go_to_end.new.sink) (g.K.Sink.faults c.args.sink.now) (g.K.Sink.faults c.go_to_end.new.sink))
    c.args.played.now c.go_to_end.new.played (intakes c.args.outside.now) (intakes c.go_to_end.new.outside) (all_texts c.args.outside.now)
    (Ok c.in_ok-whole.whole) c.in_ok-whole.ensures.goes c.requires.opening c.requires.new (c.requires.all_texts ∙ c.requires.texts) c.requires.posted (subst
    (λ (events : List ℕ). AreBack events (all_texts c.args.outside.now) (intakes c.go_to_end.new.outside)) c.requires.events c.go_to_end.ensures.back))
    (writes_base c.in_ok-whole.ensures.goes.ran.told.0 (g.K.Sink.written c.args.sink.now)
    (told-before c.args.script.now c.args.turns c.args.played.now (g.K.Sink.written c.args.sink.now) c.requires.opening))

pub returns-in-Ok-clause-whole : goal.returns-in-Ok-clause-whole
returns-in-Ok-clause-whole g c = lived-of c.args.script.now c.args.turns c.go_to_end.new.played (intakes c.go_to_end.new.outside)
    c.in_ok-whole.whole.halt (g.K.Sink.written c.args.sink.now) (g.K.Sink.written c.go_to_end.new.sink)
    (g.K.Sink.written c.write_all.new.sink) c.deref-2.result.now c.requires.posted
    (over-of c.args.script.now c.args.turns
    (stream (g.K.Sink.written c.args.sink.now) (g.K.Sink.written c.go_to_end.new.sink) (g.K.Sink.faults c.args.sink.now) (g.K.Sink.faults c.go_to_end.new.sink))
    c.args.played.now c.go_to_end.new.played (intakes c.args.outside.now) (intakes c.go_to_end.new.outside) (all_texts c.args.outside.now)
    c.in_ok-whole.whole c.in_ok-whole.whole.halt c.in_ok-whole.ensures.goes c.requires.opening c.requires.new
    (c.requires.all_texts ∙ c.requires.texts) c.requires.posted
    (subst (λ (events : List ℕ). AreBack events (all_texts c.args.outside.now) (intakes c.go_to_end.new.outside)) c.requires.events c.go_to_end.ensures.back)
    c.in_ok-whole.ensures.halts
    (subst (λ (events : List ℕ). KnowAll events (all_texts c.args.outside.now) (intakes c.go_to_end.new.outside)) c.requires.events c.in_ok-whole.ensures.all))
    (writes_base c.in_ok-whole.ensures.goes.ran.told.0 (g.K.Sink.written c.args.sink.now)
    (told-before c.args.script.now c.args.turns c.args.played.now (g.K.Sink.written c.args.sink.now) c.requires.opening))
    (tail-of c.args.script.now c.args.turns c.go_to_end.new.played (map items_of c.args.texts.now) c.in_ok-whole.whole.halt
    c.deref-2.result.now c.deref.result.now c.requires.texts (c.deref.ensures.value ∙ c.in_ok-left.ensures) (c.deref-2.ensures.value ∙ c.in_ok-tail.ensures))
    c.in-Ok.ensures.ok

pub returns-clause-broken : goal.returns-clause-broken
returns-clause-broken g c = λ is. live-cut c.args.script.now c.args.turns c.go_to_end.new.played (intakes c.go_to_end.new.outside)
    c.in_ok-whole.whole.halt (g.K.Sink.written c.args.sink.now) (g.K.Sink.written c.go_to_end.new.sink)
    (g.K.Sink.written c.write_all.new.sink) c.deref-2.result.now c.requires.posted
    (over-of c.args.script.now c.args.turns
    (stream (g.K.Sink.written c.args.sink.now) (g.K.Sink.written c.go_to_end.new.sink) (g.K.Sink.faults c.args.sink.now) (g.K.Sink.faults c.go_to_end.new.sink))
    c.args.played.now c.go_to_end.new.played (intakes c.args.outside.now) (intakes c.go_to_end.new.outside) (all_texts c.args.outside.now)
    c.in_ok-whole.whole c.in_ok-whole.whole.halt c.in_ok-whole.ensures.goes c.requires.opening c.requires.new
    (c.requires.all_texts ∙ c.requires.texts) c.requires.posted
    (subst (λ (events : List ℕ). AreBack events (all_texts c.args.outside.now) (intakes c.go_to_end.new.outside)) c.requires.events c.go_to_end.ensures.back)
    c.in_ok-whole.ensures.halts
    (subst (λ (events : List ℕ). KnowAll events (all_texts c.args.outside.now) (intakes c.go_to_end.new.outside)) c.requires.events c.in_ok-whole.ensures.all))
    (writes_base c.in_ok-whole.ensures.goes.ran.told.0 (g.K.Sink.written c.args.sink.now)
    (told-before c.args.script.now c.args.turns c.args.played.now (g.K.Sink.written c.args.sink.now) c.requires.opening))
    (tail-of c.args.script.now c.args.turns c.go_to_end.new.played (map items_of c.args.texts.now) c.in_ok-whole.whole.halt
    c.deref-2.result.now c.deref.result.now c.requires.texts (c.deref.ensures.value ∙ c.in_ok-left.ensures) (c.deref-2.ensures.value ∙ c.in_ok-tail.ensures))
    c.in-Err.ensures.err

pub counts_after-requires-clause-few : goal.counts_after-requires-clause-few
counts_after-requires-clause-few g c = texts-few c.args.script.now c.args.texts.now c.requires.texts c.requires.posted

pub returns-in-Ok-clause-posted : goal.returns-in-Ok-clause-posted
returns-in-Ok-clause-posted g c = c.in_ok-whole.ensures.posted
    ∙ ap (λ n. Some n) (lines-are c.args.script.now (all_texts c.args.outside.now) (c.requires.all_texts ∙ c.requires.texts) c.requires.posted)
