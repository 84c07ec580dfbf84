use Rattle.std.proofs.Common.{◌≡◌, ◌<◌, ℕ, List, true, false, [], ◌∷◌, ◌++◌, length, length-append, take, drop, None, Some, refl, sym, ap, ◌∙◌, arith}
use Rattle.std.specs.Prelude.{codes}
use Rattle.std.specs.Fmt.{decimal}
use Rattle.lwp_types.specs.TextFields.{is_text}
use Rattle.script_lines.proofs.spoken.posted_at.Goals.{then-is_empty-2-via-then-is_empty-2, then-is_empty-2-via-else-is_empty-2+then-not-is_text}
use Rattle.std.proofs.lemmas.Bool.{eqb-true}
use Rattle.std.proofs.lemmas.Grind.{common_steps}
use Rattle.script_lines.specs.Reading.{client_at}
use Rattle.script_lines.specs.Words.{behind, reach}
use Rattle.script_lines.proofs.SpokenLaws.{client_is_first, posting_is_spelt, posts}
use Rattle.script_lines.proofs.spoken.posted_at.Goals as goal

pub returns-clause-said : goal.returns-clause-said
returns-clause-said c =
    let words = c.behind_post-words.result.now in
    let more : 0 < length c.behind_post-words.result.now = grind (arith, common_steps) in
    let some : 0 < length c.behind_space-text.result.now = grind (arith, common_steps) in
    let word = c.split_at.ensures.front ∙ ap (λ n. take n words) c.reach.ensures.value in
    let rest = c.split_at.ensures.back ∙ ap (λ n. drop n words) c.reach.ensures.value in
    posts c.args.line.now words c.behind_space-text.result.now c.in_ok-client.client c.behind_post-words.ensures more
    (ap client_at (sym word) ∙ sym c.client_at.ensures ∙ c.in_ok-client.was)
    (c.behind_space-text.ensures ∙ ap (behind (codes " ")) rest) some (sym c.is_text.ensures ∙ c.if-not-is_text.false)

pub returns-then-is_empty-clause-every : goal.returns-then-is_empty-clause-every
returns-then-is_empty-clause-every c client [] e none = refl
returns-then-is_empty-clause-every c client (b ∷ bs) e none =
    let whole : c.behind_post-words.result.now
    ≡ decimal client ++ 32 ∷ b ∷ bs = c.behind_post-words.ensures ∙ (posting_is_spelt c.args.line.now client b bs e).0 in
    absurd (let no : length c.behind_post-words.result.now ≡ 0 = eqb-true _ 0 (sym c.if-is_empty.ensures) in
    omega (arith, no, ap length whole, length-append (decimal client) (32 ∷ b ∷ bs)))

pub returns-in_err-client-clause-every : goal.returns-in_err-client-clause-every
returns-in_err-client-clause-every c client [] e none = refl
returns-in_err-client-clause-every c client (b ∷ bs) e none =
    let spelt = posting_is_spelt c.args.line.now client b bs e in
    let words : List ℕ = c.behind_post-words.result.now in
    let whole : words ≡ decimal client ++ 32 ∷ b ∷ bs = c.behind_post-words.ensures ∙ spelt.0 in
    let front : c.split_at.result.0.now ≡ take (reach 32 words) words = c.split_at.ensures.front ∙ ap (λ n. take n words) c.reach.ensures.value in
    let there : c.client_at.result
    ≡ Some client = c.client_at.ensures ∙ ap client_at front ∙ ap (λ xs. client_at (take (reach 32 xs) xs)) whole
    ∙ (client_is_first client (b ∷ bs) spelt.1).0 in
    absurd (let no : None ≡ Some client = sym c.in_err-client.was ∙ there in cc)

pub returns-then-is_empty-2-clause-every : goal.returns-then-is_empty-2-clause-every
returns-then-is_empty-2-clause-every c client [] e none = refl
returns-then-is_empty-2-clause-every c client (b ∷ bs) e none =
    let spelt = posting_is_spelt c.args.line.now client b bs e in
    let words : List ℕ = c.behind_post-words.result.now in
    let whole : words ≡ decimal client ++ 32 ∷ b ∷ bs = c.behind_post-words.ensures ∙ spelt.0 in
    let back : c.split_at.result.1.now ≡ drop (reach 32 words) words = c.split_at.ensures.back ∙ ap (λ n. drop n words) c.reach.ensures.value in
    let last : c.behind_space-text.result.now
    ≡ b
    ∷ bs = c.behind_space-text.ensures ∙ ap (behind (codes " ")) back ∙ ap (λ xs. behind (codes " ") (drop (reach 32 xs) xs)) whole
    ∙ ap (behind (codes " ")) (client_is_first client (b ∷ bs) spelt.1).1 in
    elim c.then-is_empty-2.branch [
      | then-is_empty-2-via-then-is_empty-2 w
          ↦ absurd (let no : length c.behind_space-text.result.now ≡ 0 = eqb-true _ 0 (sym w.if-is_empty-2.ensures) in omega (arith, no, ap length last))
      | then-is_empty-2-via-else-is_empty-2+then-not-is_text w
          ↦ absurd (let no : true ≡ false = sym spelt.2 ∙ ap is_text (sym last) ∙ sym w.is_text.ensures ∙ w.if-not-is_text.true in cc)
    ]
