use Rattle.lwp_live.proofs.Answerings.{untold_err, untold_ok}
use Rattle.lwp_live.proofs.Noting.{TookOnly, after_takes, noted_all, noted_more, noted_none, took_more, took_only}
use Rattle.lwp_live.proofs.Rounding.{lives_stop}
use Rattle.lwp_live.proofs.beside.serve.Goals as goal
use Rattle.lwp_live.specs.Answers.{Known, Telling, reply_lines, told_in}
use Rattle.lwp_live.specs.Telling.{AreNotes, steps_of}
use Rattle.pod_runner.proofs.Rounds.{stream}
use Rattle.pod_runner.specs.declared.session.Took.{Took}
use Rattle.script_run.specs.Ties.{any_intake}
use Rattle.std.proofs.Common.{List, ap, arith, drop, length, map, refl, rules, subst, sym, take, ◌∙◌, ◌≡◌, ◌≤◌}

pub returns-in_err-serve_all-clause-lives : goal.returns-in_err-serve_all-clause-lives
returns-in_err-serve_all-clause-lives g c = lives_stop g.B.Body.next g.P.Program.bodies g.P.Program.proc_names (Unit {0}) _
    (stream (g.T.Sink.written c.args.trace.now) (g.T.Sink.written c.serve_all.new.sink) (g.T.Sink.faults c.args.trace.now)
    (g.T.Sink.faults c.serve_all.new.sink))
    c.args.run.now c.serve_all.new.run (map any_intake c.args.inlets.now.items) (map any_intake c.serve_all.new.inlets.items) c.from_residual.result _
    c.from_residual.ensures.1 c.in_err-serve_all.ensures.lives

pub loop-i-init : goal.loop-i-init
loop-i-init g c =
    let lived = c.in_ok-serve_all.ensures.lives in
    let more = c.in_ok-serve_all.ensures.served.takes.more in (
      subst (AreNotes c.args.notes.now) (sym (ap
          (λ n. after_takes (drop n (take n c.serve_all.new.run.takes)) (told_in (steps_of g.B.Body.next g.P.Program.bodies c.args.run.now)).known)
          refl ∙ noted_none c.takes-before.result c.serve_all.new.run.takes
          (told_in (steps_of g.B.Body.next g.P.Program.bodies c.args.run.now)).known)) c.requires.notes,
      c.takes-before.ensures,
      omega arith,
    )

pub loop-i-preserved : goal.loop-i-preserved
loop-i-preserved g c =
    let known : Known = (told_in (steps_of g.B.Body.next g.P.Program.bodies c.args.run.now)).known in
    let inv = c.loop-i.invariant in
    let from = inv.2 in
    let low = c.loop-i-test.true in
    let size = c.takes-i-end.ensures in (
      subst (AreNotes c.take.new.self) (sym (noted_more c.takes-before.result c.loop-i.i c.serve_all.new.run.takes c.take_at.result known from
          (omega (arith, low, size)) c.take_at.ensures))
          (c.take.ensures (after_takes (drop c.takes-before.result (take c.loop-i.i c.serve_all.new.run.takes)) known) inv.0),
      inv.1,
      omega (arith, from),
    )

pub returns-in_err-serve_all-clause-told : goal.returns-in_err-serve_all-clause-told
returns-in_err-serve_all-clause-told g c =
    untold_err (steps_of g.B.Body.next g.P.Program.bodies c.args.run.now) (steps_of g.B.Body.next g.P.Program.bodies c.serve_all.new.run)
    c.in_err-serve_all.ensures.lives.draws.extends.rest c.from_residual.result _ c.from_residual.ensures.1
    c.in_err-serve_all.ensures.lives.draws.extends.steps

pub returns-clause-told : goal.returns-clause-told
returns-clause-told g c =
    let lived = c.in_ok-serve_all.ensures.lives in
    let took = took_only g.B.Body.next g.P.Program.bodies c.args.run.now c.serve_all.new.run lived.draws.later lived.ran.same lived.draws.extends
    c.in_ok-serve_all.ensures.served.takes.still in
    untold_ok (steps_of g.B.Body.next g.P.Program.bodies c.args.run.now) (steps_of g.B.Body.next g.P.Program.bodies c.serve_all.new.run) _
    (ap (λ (t : Telling). reply_lines t.replies) took.told)

pub returns-clause-notes : goal.returns-clause-notes
returns-clause-notes g c =
    let lived = c.in_ok-serve_all.ensures.lives in
    let took = took_only g.B.Body.next g.P.Program.bodies c.args.run.now c.serve_all.new.run lived.draws.later lived.ran.same lived.draws.extends
    c.in_ok-serve_all.ensures.served.takes.still in
    let inv = c.loop-i.invariant in
    let past = c.loop-i-test.false in
    let size = c.takes-i-end.ensures in
    subst (AreNotes c.loop-i.notes)
    (ap (λ ts. after_takes ts (told_in (steps_of g.B.Body.next g.P.Program.bodies c.args.run.now)).known)
    (noted_all c.takes-before.result c.loop-i.i c.serve_all.new.run.takes c.args.run.now.takes took.later took.takes inv.1 (omega (arith, past, size)))
    ∙ sym (ap (λ (t : Telling). t.known) took.told)) inv.0
