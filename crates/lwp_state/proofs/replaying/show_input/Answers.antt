use Rattle.std.proofs.Common.{List, arith, drop, inl, inr, length, refl, subst, take, take_all, ℕ, ◌-◌, ◌≡◌}
use Rattle.std.proofs.lemmas.List.{length-drop}
use Rattle.lwp_serve.specs.Replaying.Input.{recorded_in}
use Rattle.lwp_state.specs.Replay.{IsShown, lines_asked}
use Rattle.streams.specs.Streams.{sides}
use Rattle.lwp_state.proofs.replaying.show_input.Goals as goal

pub returns-in-Ok : goal.returns-in-Ok
returns-in-Ok g c =
    let text = c.args.text.now in
    let to = c.args.part.to in
    let sink = sides g.K.Sink.written g.K.Sink.faults c.args.sink.now c.show_recorded.new.sink in
    let rest : take (length text - to) (drop to text)
    ≡ recorded_in text c.args.part = take_all (length text - to) (drop to text) (omega (arith, length-drop to text)) in
    inr (
      c.in-Ok.script,
      c.in-Ok.ensures.read,
      subst (λ (recorded : List ℕ). IsShown c.in-Ok.script recorded (lines_asked c.args.line recorded) sink c.show_recorded.result) rest
          (subst (λ (n : ℕ). IsShown c.in-Ok.script (take (length text - to) (drop to text)) n sink c.show_recorded.result)
          c.lines_asked-lines.ensures c.show_recorded.ensures),
    )

pub returns-in-Err : goal.returns-in-Err
returns-in-Err g c = inl (c.in-Err.end, c.in-Err.ensures.none, c.unread.ensures, (refl, refl))
