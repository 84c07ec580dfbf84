use Rattle.replay.specs.Verdict.{take_text}
use Rattle.std.proofs.Common.{sym, ◌∙◌}
use Rattle.std.proofs.lemmas.Bool.{MatchBool-at_true}
use Rattle.replay.proofs.GivenLaws.{tells-front, tells-of}
use Rattle.replay.proofs.telling.tells_of.Goals.{then-begins_with, else-begins_with}
use Rattle.replay.proofs.telling.tells_of.Goals as goal

pub returns : goal.returns
returns c = elim c.if-begins_with.branch [
  | then-begins_with w ↦ (
    λ told. tells-front c.deref.result.now c.args.rest.now (take_text c.args.ticks c.args.event c.args.line.now)
        (c.deref.ensures.value ∙ c.in_ok-wanted.ensures) (MatchBool-at_true _ _ w.if-begins_with.true c.begins_with.ensures),
    λ agree. w.result-is ∙ w.if-begins_with.true,
  )
  | else-begins_with w ↦
      let both = tells-of w.deref-else-begins_with.result.now c.args.rest.now _ w.common_lines.result.bytes w.common_lines.result.lines
      w.common_lines.ensures (w.deref-else-begins_with.ensures.value ∙ c.in_ok-wanted.ensures) in
      (λ told. both.0 (sym w.result-is ∙ told), λ agree. w.result-is ∙ both.1 agree)
]
