use Rattle.std.proofs.Common.{◌≡◌, ◌∙◌, None, ap, arith, refl, rules}
use Rattle.lwp_serve.proofs.AnswerLaws.AnswerLaws.{answering-opens, answering-still, answering-told, came-failing}
use Rattle.lwp_serve.proofs.AnswerLaws.AnswerLaws.{came-going, cut-by, falls-so, stopped-by, whole-by}
use Rattle.lwp_serve.proofs.answers.answering.answer_out.Goals as goal
use Rattle.lwp_serve.specs.Answers.Replies.{agents_after, event_of, texts_told}
use Rattle.pod_runner.specs.Run.{Played}
use Rattle.script_text.specs.declared.script.Script.{Script}

pub loop-notes-init : goal.loop-notes-init
loop-notes-init g c = answering-opens c.args.client c.args.script.now c.args.played.now c.args.gate.now c.requires.opening c.requires.stocked
    c.new-notes.result.event c.new-notes.result.agents (g.K.Sink.written c.args.sink.now) (g.K.Sink.faults c.args.sink.now)
    (ap (λ (r : Played Script). r.failed) c.requires.opening) (c.new-notes.ensures.event ∙ c.event_of.ensures) c.new-notes.ensures.agents

pub returns-in_err-halt-clause-stopped : goal.returns-in_err-halt-clause-stopped
returns-in_err-halt-clause-stopped g c =
    let so = c.loop-notes.invariant in
    let came = came-failing c.args.client c.args.script.now c.args.played.now c.args.gate.now c.requires.opening c.requires.stocked
    c.loop-notes.played c.go_round.new.run c.loop-notes.gate c.go_round.new.gate _ so.going c.in_err-halt.ensures.does in
    λ is. stopped-by c.args.client c.args.script.now c.args.played.now c.args.gate.now c.requires.opening c.requires.stocked
    c.requires.posted c.loop-notes.played c.loop-notes.gate c.loop-notes.notes.event c.loop-notes.notes.agents
    (g.K.Sink.written c.args.sink.now) (g.K.Sink.written c.loop-notes.sink) (g.K.Sink.faults c.args.sink.now) (g.K.Sink.faults c.loop-notes.sink) so
    c.go_round.new.run c.go_round.new.gate came (g.K.Sink.written c.loop-notes.sink) refl

pub returns-in-Some-clause-whole : goal.returns-in-Some-clause-whole
returns-in-Some-clause-whole g c =
    whole-by c.args.client c.args.script.now c.args.played.now c.args.gate.now c.requires.opening c.requires.stocked c.requires.posted
    c.loop-notes.played c.loop-notes.gate c.loop-notes.notes.event c.loop-notes.notes.agents
    (g.K.Sink.written c.args.sink.now) (g.K.Sink.written c.loop-notes.sink) (g.K.Sink.faults c.args.sink.now)
    (g.K.Sink.faults c.loop-notes.sink) c.loop-notes.invariant
    c.go_round.new.run c.go_round.new.gate c.in-Some.halt c.in_ok-halt.field-0 c.in_ok-halt.ensures.does (c.in_ok-halt.ensures.over ∙ c.in-Some.is)

pub loop-notes-smaller-in-Continue-branch-3 : goal.loop-notes-smaller-in-Continue-branch-3
loop-notes-smaller-in-Continue-branch-3 g c =
    let none : c.in_ok-halt.field-0 ≡ None = search rules in
    let fewer = falls-so c.loop-notes.played c.go_round.new.run c.loop-notes.gate c.go_round.new.gate c.in_ok-halt.field-0
    c.in_ok-halt.ensures.does (c.in_ok-halt.ensures.over ∙ none) in
    omega (arith, fewer)

pub loop-notes-preserved-in-Continue-branch-3 : goal.loop-notes-preserved-in-Continue-branch-3
loop-notes-preserved-in-Continue-branch-3 g c =
    let none : c.in_ok-halt.field-0 ≡ None = search rules in
    let over = c.in_ok-halt.ensures.over ∙ none in
    answering-told (event_of c.args.script.now c.args.client) c.args.played.now c.loop-notes.played c.go_round.new.run c.args.gate.now
    c.loop-notes.gate c.go_round.new.gate c.loop-notes.notes.event c.loop-notes.notes.agents
    (g.K.Sink.written c.args.sink.now) (g.K.Sink.written c.loop-notes.sink) (g.K.Sink.faults c.args.sink.now)
    (g.K.Sink.faults c.loop-notes.sink) c.loop-notes.invariant
    c.in_ok-halt.field-0 c.in_ok-halt.ensures.does over (search rules)
    c.tell.new.notes.event (texts_told c.loop-notes.notes.agents c.made.result) c.tell.new.notes.agents (g.K.Sink.written c.tell.new.sink)
    (g.K.Sink.faults c.tell.new.sink) c.tell.ensures.event
    (ap (texts_told c.loop-notes.notes.agents) c.made.ensures)
    (c.in_ok-tell.ensures.agents ∙ ap (agents_after c.loop-notes.notes.event c.loop-notes.notes.agents) c.made.ensures)
    c.in_ok-tell.ensures.told c.in_ok-tell.ensures.same

pub returns-in_err-tell-clause-cut : goal.returns-in_err-tell-clause-cut
returns-in_err-tell-clause-cut g c =
    let none : c.in_ok-halt.field-0 ≡ None = search rules in
    let over = c.in_ok-halt.ensures.over ∙ none in
    λ is. cut-by c.args.client c.args.script.now c.args.played.now c.args.gate.now c.requires.opening c.requires.stocked c.requires.posted
    c.loop-notes.played c.loop-notes.gate c.loop-notes.notes.event c.loop-notes.notes.agents
    (g.K.Sink.written c.args.sink.now) (g.K.Sink.written c.loop-notes.sink) (g.K.Sink.faults c.args.sink.now)
    (g.K.Sink.faults c.loop-notes.sink) c.loop-notes.invariant
    c.go_round.new.run c.go_round.new.gate c.in_ok-halt.field-0 c.in_ok-halt.ensures.does over (search rules)
    (texts_told c.loop-notes.notes.agents c.made.result) (g.K.Sink.written c.tell.new.sink)
    (ap (texts_told c.loop-notes.notes.agents) c.made.ensures) (c.in_err-tell.ensures.cut (search rules))

pub returns-in_err-tell-clause-stopped : goal.returns-in_err-tell-clause-stopped
returns-in_err-tell-clause-stopped g c =
    let so = c.loop-notes.invariant in
    let came = came-going c.args.client c.args.script.now c.args.played.now c.args.gate.now c.requires.opening c.requires.stocked
    c.loop-notes.played c.go_round.new.run c.loop-notes.gate c.go_round.new.gate c.in_ok-halt.field-0 so.going c.in_ok-halt.ensures.does in
    λ is. stopped-by c.args.client c.args.script.now c.args.played.now c.args.gate.now c.requires.opening c.requires.stocked
    c.requires.posted c.loop-notes.played c.loop-notes.gate c.loop-notes.notes.event c.loop-notes.notes.agents
    (g.K.Sink.written c.args.sink.now) (g.K.Sink.written c.loop-notes.sink) (g.K.Sink.faults c.args.sink.now) (g.K.Sink.faults c.loop-notes.sink) so
    c.go_round.new.run c.go_round.new.gate came (g.K.Sink.written c.tell.new.sink) (c.in_err-tell.ensures.quiet (search rules)).0

pub loop-notes-smaller : goal.loop-notes-smaller
loop-notes-smaller g c =
    let none : c.in_ok-halt.field-0 ≡ None = search rules in
    let fewer = falls-so c.loop-notes.played c.go_round.new.run c.loop-notes.gate c.go_round.new.gate c.in_ok-halt.field-0
    c.in_ok-halt.ensures.does (c.in_ok-halt.ensures.over ∙ none) in
    omega (arith, fewer)

pub loop-notes-preserved : goal.loop-notes-preserved
loop-notes-preserved g c =
    let none : c.in_ok-halt.field-0 ≡ None = search rules in
    let over = c.in_ok-halt.ensures.over ∙ none in
    answering-still (event_of c.args.script.now c.args.client) c.args.played.now c.loop-notes.played c.go_round.new.run c.args.gate.now
    c.loop-notes.gate c.go_round.new.gate c.loop-notes.notes.event c.loop-notes.notes.agents
    (g.K.Sink.written c.args.sink.now) (g.K.Sink.written c.loop-notes.sink) (g.K.Sink.faults c.args.sink.now)
    (g.K.Sink.faults c.loop-notes.sink) c.loop-notes.invariant
    c.in_ok-halt.field-0 c.in_ok-halt.ensures.does over (search rules)
