use Rattle.std.proofs.Common.{◌≡◌, ◌∙◌, ◌+◌, ◌≤◌, ◌<◌, ap, arith, length, map, subst, sym, refl, rules, slice_index_or, Ok, Err}
use Rattle.std.specs.Slice.Scan.{HoldsNowhere}
use Rattle.pod_events.specs.Events.{is_takeable}
use Rattle.pod_runner.specs.Inlets.{AreBelow}
use Rattle.event_gate.specs.Inlet.{EventsRise}
use Rattle.pod_runner.specs.Run.{session_of}
use Rattle.pod_runner.proofs.Lives.{inlet-at, lives-err, lives-same, lives-then, rise-still, same-length, serves-below, serves-end, serves-more, serves-none}
use Rattle.pod_runner.proofs.Rounds.{stream}
use Rattle.pod_runner.proofs.inlets.serve_all.Goals as goal

pub loop-i-init : goal.loop-i-init
loop-i-init g c = record {
  within = search rules;
  same = refl;
  lives = lives-same g.B.Body.next g.P.Program.bodies g.P.Program.proc_names (g.K.Sink.written c.args.sink.now)
      (g.K.Sink.faults c.args.sink.now) c.args.run.now (map g.I.Inlet.intake c.args.inlets.now.items) tt c.requires.ready.sound
      c.requires.ready.made c.requires.ready.room;
  serves = serves-none g.B.Body.next g.P.Program.bodies g.P.Program.proc_names c.args.run.now (map g.I.Inlet.intake c.args.inlets.now.items);
}

pub place_of-i-requires : goal.place_of-i-requires
place_of-i-requires g c =
    let given : c.deref.result.now ≡ c.loop-i.inlets.items = search rules in
    let within : c.loop-i.i < length c.loop-i.inlets.items = search rules in λ k. (
      (refl, tt),
      (
        subst (λ items. EventsRise (map g.I.Inlet.intake items)) (sym given) (rise-still g.B.Body.next g.P.Program.bodies g.P.Program.proc_names (stream
            (g.K.Sink.written c.args.sink.now) (g.K.Sink.written c.loop-i.sink) (g.K.Sink.faults c.args.sink.now)
            (g.K.Sink.faults c.loop-i.sink)) c.args.run.now c.loop-i.run (map g.I.Inlet.intake c.args.inlets.now.items) (map
            g.I.Inlet.intake c.loop-i.inlets.items) (Ok tt) c.loop-i.invariant.lives c.requires.rise),
        (omega (arith, within, ap length given), omega (arith, within, ap length given)),
      ),
    )

pub serve-requires : goal.serve-requires
serve-requires g c = λ k. (
  (refl, tt),
  (
    c.loop-i.invariant.lives.ran.sound,
    (
      rise-still g.B.Body.next g.P.Program.bodies g.P.Program.proc_names
          (stream (g.K.Sink.written c.args.sink.now) (g.K.Sink.written c.loop-i.sink) (g.K.Sink.faults c.args.sink.now) (g.K.Sink.faults c.loop-i.sink))
          c.args.run.now c.loop-i.run (map g.I.Inlet.intake c.args.inlets.now.items) (map g.I.Inlet.intake c.loop-i.inlets.items) (Ok tt)
          c.loop-i.invariant.lives c.requires.rise,
      search rules,
    ),
  ),
)

pub returns-in_err-serve-clause-lives : goal.returns-in_err-serve-clause-lives
returns-in_err-serve-clause-lives g c = lives-err g.B.Body.next g.P.Program.bodies g.P.Program.proc_names (Unit {0}) (Unit {0})
    (stream (g.K.Sink.written c.args.sink.now) (g.K.Sink.written c.serve.new.sink) (g.K.Sink.faults c.args.sink.now) (g.K.Sink.faults c.serve.new.sink))
    c.args.run.now c.serve.new.run (map g.I.Inlet.intake c.args.inlets.now.items) (map g.I.Inlet.intake c.serve.new.inlets.items)
    c.from_residual.result c.in_err-serve.field-0.0 c.from_residual.ensures.1
    (lives-then g.B.Body.next g.P.Program.bodies g.P.Program.proc_names (g.K.Sink.written c.args.sink.now) (g.K.Sink.written c.loop-i.sink)
    (g.K.Sink.written c.serve.new.sink) (g.K.Sink.faults c.args.sink.now) (g.K.Sink.faults c.loop-i.sink)
    (g.K.Sink.faults c.serve.new.sink) c.args.run.now c.loop-i.run c.serve.new.run (map g.I.Inlet.intake c.args.inlets.now.items)
    (map g.I.Inlet.intake c.loop-i.inlets.items) (map g.I.Inlet.intake c.serve.new.inlets.items) tt (Err c.in_err-serve.field-0.0)
    c.loop-i.invariant.lives c.in_err-serve.ensures.lives)

pub returns-clause-served : goal.returns-clause-served
returns-clause-served g c =
    serves-end g.B.Body.next g.P.Program.bodies g.P.Program.proc_names g.I.Inlet.intake c.args.inlets.now.items c.loop-i.inlets.items
    c.loop-i.i c.args.run.now c.loop-i.run c.loop-i.invariant.same c.loop-i.invariant.within (search rules) c.loop-i.invariant.serves

pub loop-i-preserved-then-event-next : goal.loop-i-preserved-then-event-next
loop-i-preserved-then-event-next g c =
    let inlet = c.index.result.now in
    let is : slice_index_or c.loop-i.inlets.items c.loop-i.i inlet ≡ inlet = search rules in
    let given : c.deref.result.now ≡ c.loop-i.inlets.items = search rules in
    let below : AreBelow (map g.I.Inlet.intake c.loop-i.inlets.items) (c.loop-i.i + 1) c.place_of-i.result c.next_event-next.result
    = subst (λ items. AreBelow (map g.I.Inlet.intake items) (c.loop-i.i + 1) c.place_of-i.result c.next_event-next.result) given c.place_of-i.ensures.below in
    let event : c.event-event.result ≡ (g.I.Inlet.intake inlet).event = c.event-event.ensures in
    let lower : c.event-event.result < c.next_event-next.result = search rules in
    let under : (g.I.Inlet.intake inlet).event < c.next_event-next.result = omega (arith, event, lower) in
    let nowhere : HoldsNowhere (is_takeable (session_of g.B.Body.next g.P.Program.bodies c.loop-i.run).live.pod)
    (g.I.Inlet.intake inlet).event c.next_event-next.result
    = subst (λ e. HoldsNowhere (is_takeable (session_of g.B.Body.next g.P.Program.bodies c.loop-i.run).live.pod) e c.next_event-next.result)
    event c.next_event-next.ensures in
    let least : c.loop-i.i + 1 ≤ c.place_of-i.result = c.place_of-i.ensures.least in
    let s = stream (g.K.Sink.written c.args.sink.now) (g.K.Sink.written c.loop-i.sink) (g.K.Sink.faults c.args.sink.now) (g.K.Sink.faults c.loop-i.sink) in
    record {
      within = omega (arith, c.place_of-i.ensures.most, ap length given);
      same = c.loop-i.invariant.same;
      lives = c.loop-i.invariant.lives;
      serves = serves-below g.B.Body.next g.P.Program.bodies g.P.Program.proc_names s c.loop-i.i c.place_of-i.result
          c.next_event-next.result (g.I.Inlet.intake inlet) c.args.run.now c.loop-i.run (map g.I.Inlet.intake c.args.inlets.now.items)
          (map g.I.Inlet.intake c.loop-i.inlets.items) (Ok tt)
          c.loop-i.invariant.lives (rise-still g.B.Body.next g.P.Program.bodies g.P.Program.proc_names s c.args.run.now c.loop-i.run
          (map g.I.Inlet.intake c.args.inlets.now.items) (map g.I.Inlet.intake c.loop-i.inlets.items) (Ok tt) c.loop-i.invariant.lives c.requires.rise)
          (inlet-at g.I.Inlet.intake c.loop-i.inlets.items c.loop-i.i inlet (search rules) is) least under nowhere below c.loop-i.invariant.serves;
    }

pub loop-i-preserved : goal.loop-i-preserved
loop-i-preserved g c =
    let within : c.loop-i.i < length c.loop-i.inlets.items = search rules in
    let same = same-length g.I.Inlet.intake c.loop-i.inlets.items c.serve.new.inlets.items c.in_ok-serve.ensures.lives.draws.given.0 in record {
      within = omega (arith, within, same);
      same = same ∙ c.loop-i.invariant.same;
      lives = lives-then g.B.Body.next g.P.Program.bodies g.P.Program.proc_names (g.K.Sink.written c.args.sink.now)
          (g.K.Sink.written c.loop-i.sink) (g.K.Sink.written c.serve.new.sink) (g.K.Sink.faults c.args.sink.now)
          (g.K.Sink.faults c.loop-i.sink) (g.K.Sink.faults c.serve.new.sink) c.args.run.now c.loop-i.run c.serve.new.run
          (map g.I.Inlet.intake c.args.inlets.now.items) (map g.I.Inlet.intake c.loop-i.inlets.items)
          (map g.I.Inlet.intake c.serve.new.inlets.items) tt (Ok tt) c.loop-i.invariant.lives c.in_ok-serve.ensures.lives;
      serves = serves-more g.B.Body.next g.P.Program.bodies g.P.Program.proc_names
          (stream (g.K.Sink.written c.args.sink.now) (g.K.Sink.written c.loop-i.sink) (g.K.Sink.faults c.args.sink.now) (g.K.Sink.faults c.loop-i.sink))
          (stream (g.K.Sink.written c.loop-i.sink) (g.K.Sink.written c.serve.new.sink) (g.K.Sink.faults c.loop-i.sink) (g.K.Sink.faults c.serve.new.sink))
          c.loop-i.i c.args.run.now c.loop-i.run c.serve.new.run (map g.I.Inlet.intake c.args.inlets.now.items)
          (map g.I.Inlet.intake c.loop-i.inlets.items) (map g.I.Inlet.intake c.serve.new.inlets.items) tt tt c.loop-i.invariant.lives
          c.in_ok-serve.ensures.lives c.loop-i.invariant.serves c.in_ok-serve.ensures.served;
    }
