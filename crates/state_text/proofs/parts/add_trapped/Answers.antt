use Rattle.state_text.proofs.Telling.{place_all, place_more}
use Rattle.state_text.specs.Text.{trapped_words}
use Rattle.std.proofs.Common.{Bool, refl, ◌∷◌, ℕ}
use Rattle.std.specs.Fmt.{decimal}
use Rattle.trace_text.specs.Lines.{letter_if}
use Rattle.state_text.proofs.parts.add_trapped.Goals as goal

pub loop-event-preserved : goal.loop-event-preserved
loop-event-preserved c =
    place_more trapped_words (λ (e : ℕ) (b : Bool). letter_if b (32 ∷ decimal e)) (λ n. refl) (λ n x xs. refl) c.loop-event.out.items _
    c.args.trapped.now c.loop-event.event c.loop-event.invariant c.add_event.new.out.items _ c.loop-event-test.true c.in_ok-add_event.ensures

pub returns : goal.returns
returns c =
    place_all trapped_words (λ (e : ℕ) (b : Bool). letter_if b (32 ∷ decimal e)) (λ n. refl) (λ n x xs. refl) c.loop-event.out.items _
    c.args.trapped.now c.loop-event.event c.loop-event.invariant c.loop-event-test.false
