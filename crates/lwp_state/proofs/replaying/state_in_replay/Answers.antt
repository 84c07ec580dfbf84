use Rattle.std.proofs.Common.{List, refl, subst, sym, ℕ}
use Rattle.lwp_serve.specs.Replaying.Found.{IsInput}
use Rattle.streams.specs.Streams.{sides}
use Rattle.lwp_state.proofs.ReplayLaws.{replay-shown, replay-unread}
use Rattle.lwp_state.proofs.replaying.state_in_replay.Goals as goal

pub returns-in-Ok : goal.returns-in-Ok
returns-in-Ok g c =
    replay-shown c.args.line (sides g.S.Source.left g.S.Source.faults c.args.source.now c.read_input.new.source)
    (sides g.K.Sink.written g.K.Sink.faults c.args.sink.now c.show_input.new.sink)
    c.deref.result.now c.in-Ok.input.part c.show_input.result c.in-Ok.ensures.same c.in-Ok.ensures.up
    (subst (λ (t : List ℕ). IsInput (g.S.Source.left c.args.source.now) t c.in-Ok.input.part) (sym c.deref.ensures.value) c.in-Ok.ensures.input)
    c.show_input.ensures

pub returns-in-Err : goal.returns-in-Err
returns-in-Err g c = replay-unread c.args.line (sides g.S.Source.left g.S.Source.faults c.args.source.now c.read_input.new.source)
    (sides g.K.Sink.written g.K.Sink.faults c.args.sink.now c.args.sink.now) c.in-Err.end c.unread.result
    c.unread.ensures (refl, refl) c.in-Err.ensures.none
