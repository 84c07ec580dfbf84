use Rattle.std.proofs.Common.{◌≡◌, ◌<◌, true, false, [], ◌∷◌, length, refl, sym, ap, ◌∙◌, arith}
use Rattle.lwp_types.specs.TextFields.{is_text}
use Rattle.script_lines.proofs.spoken.said_at.Goals.{then-is_empty-via-then-is_empty, then-is_empty-via-else-is_empty+then-not-is_text}
use Rattle.std.proofs.lemmas.Bool.{eqb-true}
use Rattle.std.proofs.lemmas.Grind.{common_steps}
use Rattle.script_lines.proofs.SpokenLaws.{says, saying_is_spelt}
use Rattle.script_lines.proofs.spoken.said_at.Goals as goal

pub returns-clause-said : goal.returns-clause-said
returns-clause-said c =
    let some : 0 < length c.behind_say-text.result.now = grind (arith, common_steps) in
    says c.args.line.now c.behind_say-text.result.now c.behind_say-text.ensures some (sym c.is_text.ensures ∙ c.if-not-is_text.false)

pub returns-then-is_empty-clause-every : goal.returns-then-is_empty-clause-every
returns-then-is_empty-clause-every c [] e none = refl
returns-then-is_empty-clause-every c (b ∷ bs) e none =
    let spelt = saying_is_spelt c.args.line.now b bs e in
    let whole : c.behind_say-text.result.now ≡ b ∷ bs = c.behind_say-text.ensures ∙ spelt.0 in
    elim c.then-is_empty.branch [
      | then-is_empty-via-then-is_empty w
          ↦ absurd (let no : length c.behind_say-text.result.now ≡ 0 = eqb-true _ 0 (sym w.if-is_empty.ensures) in omega (arith, no, ap length whole))
      | then-is_empty-via-else-is_empty+then-not-is_text w
          ↦ absurd (let no : true ≡ false = sym spelt.1 ∙ ap is_text (sym whole) ∙ sym w.is_text.ensures ∙ w.if-not-is_text.true in cc)
    ]
