use Rattle.std.proofs.Common.{List, subst, sym, ℕ}
use Rattle.lwp_serve.proofs.ReplayingLaws.EndLaws.{says-cut, says-whole}
use Rattle.lwp_serve.specs.Replaying.Found.{IsToldOf}
use Rattle.streams.specs.Streams.{Stream}
use Rattle.lwp_serve.proofs.replaying.checked.replay_main.Goals as goal

pub returns-in-Ok-write_all : goal.returns-in-Ok-write_all
returns-in-Ok-write_all g c =
    let source : Stream = record {
      old = g.S.Source.left c.args.source.now;
      new = g.S.Source.left c.read_input.new.source;
      faults_old = g.S.Source.faults c.args.source.now;
      faults_new = g.S.Source.faults c.read_input.new.source;
    } in
    let sink : Stream = record {
      old = g.K.Sink.written c.args.sink.now;
      new = g.K.Sink.written c.write_all.new.sink;
      faults_old = g.K.Sink.faults c.args.sink.now;
      faults_new = g.K.Sink.faults c.write_all.new.sink;
    } in
    let text = c.in-Ok.input.text.items in
    let part = c.in-Ok.input.part in
    let e = c.in-Ok-told_of.told.end in
    let takes = c.in-Ok-told_of.told.taken in
    let calls = c.in-Ok-told_of.told.turns in
    let said = c.deref-2.result.now in
    let told : IsToldOf c.args.turns text part e said takes calls =
    subst (λ (s : List ℕ). IsToldOf c.args.turns text part e s takes calls) (sym c.deref-2.ensures.value)
    (subst (λ (t : List ℕ). IsToldOf c.args.turns t part e c.in-Ok-told_of.told.text.items takes calls) c.deref.ensures.value c.in-Ok-told_of.ensures.told) in
    says-whole c.args.turns source sink text part e said takes calls c.new.result c.new.ensures
    c.in-Ok.ensures.same c.in-Ok.ensures.up c.in-Ok.ensures.input told c.in-Ok-write_all.ensures.cause.same c.in-Ok-write_all.ensures.ok

pub returns : goal.returns
returns g c =
    let source : Stream = record {
      old = g.S.Source.left c.args.source.now;
      new = g.S.Source.left c.read_input.new.source;
      faults_old = g.S.Source.faults c.args.source.now;
      faults_new = g.S.Source.faults c.read_input.new.source;
    } in
    let sink : Stream = record {
      old = g.K.Sink.written c.args.sink.now;
      new = g.K.Sink.written c.write_all.new.sink;
      faults_old = g.K.Sink.faults c.args.sink.now;
      faults_new = g.K.Sink.faults c.write_all.new.sink;
    } in
    let text = c.in-Ok.input.text.items in
    let part = c.in-Ok.input.part in
    let e = c.in-Ok-told_of.told.end in
    let takes = c.in-Ok-told_of.told.taken in
    let calls = c.in-Ok-told_of.told.turns in
    let said = c.deref-2.result.now in
    let told : IsToldOf c.args.turns text part e said takes calls =
    subst (λ (s : List ℕ). IsToldOf c.args.turns text part e s takes calls) (sym c.deref-2.ensures.value)
    (subst (λ (t : List ℕ). IsToldOf c.args.turns t part e c.in-Ok-told_of.told.text.items takes calls) c.deref.ensures.value c.in-Ok-told_of.ensures.told) in
    says-cut c.args.turns source sink text part e said takes calls c.new-in-Err-write_all.result c.new-in-Err-write_all.ensures
    c.in-Ok.ensures.same c.in-Ok.ensures.up c.in-Ok.ensures.input told c.in-Err-write_all.ensures.cause.failed c.in-Err-write_all.ensures.err
