use Rattle.std.proofs.Common.{◌≡◌, ◌∙◌, ap, false, map, rules, slice_index_or, slice_set, sym, refl}
use Rattle.std.proofs.lemmas.List.{map-set}
use Rattle.pod_events.specs.Events.{is_takeable}
use Rattle.pod_runner.specs.Run.{after_step, session_of, with_took}
use Rattle.pod_runner.proofs.Lives.{gives-nothing, gives-still, inlet-at, inlet-within, lives-none, lives-take, served-line, served-none, served-unarmed}
use Rattle.pod_runner.proofs.Rounds.{stream}
use Rattle.pod_runner.proofs.inlets.serve.Goals as goal

pub returns-then-not-wants-clause-lives : goal.returns-then-not-wants-clause-lives
returns-then-not-wants-clause-lives g c =
    let inlet = c.index_mut-inlet.result.now in
    let is : slice_index_or c.args.inlets.now.items c.args.i inlet ≡ inlet = search rules in
    lives-none g.B.Body.next g.P.Program.bodies g.P.Program.proc_names (g.K.Sink.written c.args.sink.now) (g.K.Sink.faults c.args.sink.now)
    c.args.i (g.I.Inlet.intake inlet) (g.I.Inlet.intake inlet) c.args.run.now (map g.I.Inlet.intake c.args.inlets.now.items)
    (map g.I.Inlet.intake (slice_set c.args.inlets.now.items c.args.i inlet)) tt
    (inlet-within g.I.Inlet.intake c.args.inlets.now.items c.args.i c.requires.within)
    (inlet-at g.I.Inlet.intake c.args.inlets.now.items c.args.i inlet c.requires.within is)
    (map-set g.I.Inlet.intake c.args.inlets.now.items c.args.i inlet)
    (gives-still g.B.Body.next g.P.Program.bodies g.P.Program.proc_names (g.I.Inlet.intake inlet) (g.I.Inlet.intake inlet) refl)
    c.requires.sound c.wants.ensures.made c.wants.ensures.room

pub returns-then-not-wants-clause-served : goal.returns-then-not-wants-clause-served
returns-then-not-wants-clause-served g c =
    let inlet = c.index_mut-inlet.result.now in
    let is : slice_index_or c.args.inlets.now.items c.args.i inlet ≡ inlet = search rules in
    let no : is_takeable (session_of g.B.Body.next g.P.Program.bodies c.args.run.now).live.pod c.event-event.result ≡ false = search rules in
    served-unarmed g.B.Body.next g.P.Program.bodies g.P.Program.proc_names c.args.i c.args.run.now (g.I.Inlet.intake inlet)
    (g.I.Inlet.intake inlet) (map g.I.Inlet.intake c.args.inlets.now.items) (map g.I.Inlet.intake (slice_set c.args.inlets.now.items c.args.i inlet))
    (inlet-within g.I.Inlet.intake c.args.inlets.now.items c.args.i c.requires.within)
    (inlet-at g.I.Inlet.intake c.args.inlets.now.items c.args.i inlet c.requires.within is)
    (map-set g.I.Inlet.intake c.args.inlets.now.items c.args.i inlet) refl
    (ap (λ e. is_takeable (session_of g.B.Body.next g.P.Program.bodies c.args.run.now).live.pod e) (sym c.event-event.ensures) ∙ no)

pub returns-in-Some-clause-lives : goal.returns-in-Some-clause-lives
returns-in-Some-clause-lives g c =
    let inlet = c.index_mut-inlet.result.now in
    let is : slice_index_or c.args.inlets.now.items c.args.i inlet ≡ inlet = search rules in
    lives-take g.B.Body.next g.P.Program.bodies g.P.Program.proc_names
    (stream (g.K.Sink.written c.args.sink.now) (g.K.Sink.written c.offer.new.sink) (g.K.Sink.faults c.args.sink.now) (g.K.Sink.faults c.offer.new.sink))
    c.args.i c.in-Some.line (g.I.Inlet.intake inlet) (g.I.Inlet.intake c.take.new.self) c.args.run.now c.offer.new.self
    (map g.I.Inlet.intake c.args.inlets.now.items) (map g.I.Inlet.intake (slice_set c.args.inlets.now.items c.args.i c.take.new.self)) c.offer.result
    c.requires.rise (inlet-within g.I.Inlet.intake c.args.inlets.now.items c.args.i c.requires.within)
    (inlet-at g.I.Inlet.intake c.args.inlets.now.items c.args.i inlet c.requires.within is)
    (map-set g.I.Inlet.intake c.args.inlets.now.items c.args.i c.take.new.self) c.in-Some.ensures.line
    c.requires.sound
    (c.offer.ensures.after ∙ ap (λ e. after_step c.args.run.now (with_took c.args.run.now e c.in-Some.line) c.offer.result) c.event-event.ensures)
    c.offer.ensures.told c.offer.ensures.made c.offer.ensures.room

pub returns-in-Some-clause-served : goal.returns-in-Some-clause-served
returns-in-Some-clause-served g c =
    let inlet = c.index_mut-inlet.result.now in
    let is : slice_index_or c.args.inlets.now.items c.args.i inlet ≡ inlet = search rules in
    served-line g.B.Body.next g.P.Program.bodies g.P.Program.proc_names c.args.i c.in-Some.line c.args.run.now c.offer.new.self
    (g.I.Inlet.intake inlet) (g.I.Inlet.intake c.take.new.self) (map g.I.Inlet.intake c.args.inlets.now.items)
    (map g.I.Inlet.intake (slice_set c.args.inlets.now.items c.args.i c.take.new.self)) c.offer.result
    (inlet-within g.I.Inlet.intake c.args.inlets.now.items c.args.i c.requires.within)
    (inlet-at g.I.Inlet.intake c.args.inlets.now.items c.args.i inlet c.requires.within is)
    (map-set g.I.Inlet.intake c.args.inlets.now.items c.args.i c.take.new.self) c.in-Some.ensures.line
    (c.offer.ensures.after ∙ ap (λ e. after_step c.args.run.now (with_took c.args.run.now e c.in-Some.line) c.offer.result) c.event-event.ensures)

pub returns-in-None-clause-lives : goal.returns-in-None-clause-lives
returns-in-None-clause-lives g c =
    let inlet = c.index_mut-inlet.result.now in
    let is : slice_index_or c.args.inlets.now.items c.args.i inlet ≡ inlet = search rules in
    lives-none g.B.Body.next g.P.Program.bodies g.P.Program.proc_names (g.K.Sink.written c.args.sink.now) (g.K.Sink.faults c.args.sink.now)
    c.args.i (g.I.Inlet.intake inlet) (g.I.Inlet.intake c.take.new.self) c.args.run.now (map g.I.Inlet.intake c.args.inlets.now.items)
    (map g.I.Inlet.intake (slice_set c.args.inlets.now.items c.args.i c.take.new.self)) tt
    (inlet-within g.I.Inlet.intake c.args.inlets.now.items c.args.i c.requires.within)
    (inlet-at g.I.Inlet.intake c.args.inlets.now.items c.args.i inlet c.requires.within is)
    (map-set g.I.Inlet.intake c.args.inlets.now.items c.args.i c.take.new.self) (gives-nothing
    g.B.Body.next g.P.Program.bodies g.P.Program.proc_names (g.I.Inlet.intake inlet) (g.I.Inlet.intake c.take.new.self) c.in-None.ensures.nothing)
    c.requires.sound c.wants.ensures.made c.wants.ensures.room

pub returns-in-None-clause-served : goal.returns-in-None-clause-served
returns-in-None-clause-served g c =
    let inlet = c.index_mut-inlet.result.now in
    let is : slice_index_or c.args.inlets.now.items c.args.i inlet ≡ inlet = search rules in
    served-none g.B.Body.next g.P.Program.bodies g.P.Program.proc_names c.args.i c.args.run.now (g.I.Inlet.intake inlet)
    (g.I.Inlet.intake c.take.new.self) (map g.I.Inlet.intake c.args.inlets.now.items)
    (map g.I.Inlet.intake (slice_set c.args.inlets.now.items c.args.i c.take.new.self))
    (inlet-within g.I.Inlet.intake c.args.inlets.now.items c.args.i c.requires.within)
    (inlet-at g.I.Inlet.intake c.args.inlets.now.items c.args.i inlet c.requires.within is)
    (map-set g.I.Inlet.intake c.args.inlets.now.items c.args.i c.take.new.self) c.in-None.ensures.nothing (λ told. (c.in-None.ensures.told told).0 refl)
