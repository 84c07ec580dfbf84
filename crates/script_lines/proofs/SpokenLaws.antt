-- What a line says that says or posts a text.
use Rattle.std.proofs.Common.{◌≡◌, ℕ, suc, ◌<◌, ◌≤◌, true, false, cond, eqb, List, [], ◌∷◌, ◌++◌, length, take, drop, Some, refl, sym, ap, subst, ◌∙◌, arith}
use Rattle.std.specs.Prelude.{codes, nat_lt}
use Rattle.std.proofs.lemmas.Bool.{eqb-true, lt-ltb}
use Rattle.lwp_types.specs.TextFields.{is_text}
use Rattle.script_lines.specs.Words.{behind, reach}
use Rattle.script_lines.specs.Line.{posting, saying}
use Rattle.script_lines.proofs.PhraseLaws.{phrase_found, client_again, digits_are_whole}
use Rattle.script_lines.proofs.WordLemmas.{reach-append, own}
use Rattle.std.specs.Fmt.{decimal}
use Rattle.std.proofs.lemmas.List.{append-nil, take_at, drop_at}
use Rattle.std.proofs.lemmas.Fmt.{digits_decimal}
use Rattle.script_lines.specs.Reading.{client_at, phrase_at}
use Rattle.script_lines.specs.Table.{op_at, row_of}

-- a line with something after these bytes begins with them
begins : (front line : List ℕ) → 0 < length (behind front line) → line ≡ front ++ behind front line
begins [] line h = refl
begins (b ∷ bs) [] h = absurd (omega (arith, h))
begins (b ∷ bs) (c ∷ cs) h = elim (eqb b c) as (λ v. eqb b c ≡ v → 0 < length (cond v (behind bs cs) []) → c ∷ cs ≡ b ∷ (bs ++ cond v (behind bs cs) [])) [
  | true ↦ λ e h'. ap (λ x. x ∷ cs) (sym (eqb-true b c e)) ∙ ap (λ xs. b ∷ xs) (begins bs cs h')
  | false ↦ λ e h'. absurd (omega (arith, h'))
] refl h

some_more : (bs : List ℕ) → nat_lt 0 (suc (length bs)) ≡ true
some_more bs = lt-ltb 0 (suc (length bs)) (omega arith)

said : (b : ℕ) (bs : List ℕ) → is_text (b ∷ bs) ≡ true → phrase_at (115 ∷ 97 ∷ 121 ∷ 32 ∷ b ∷ bs) ≡ Some (saying (b ∷ bs))
unfolding phrase_at op_at row_of
said b bs fits = rw (fits, some_more bs) refl

pub says : (line text : List ℕ) → text ≡ behind (codes "say ") line → 0 < length text → is_text text ≡ true → phrase_at line ≡ Some (saying text)
says line [] is some fits = absurd (omega (arith, some))
says line (b ∷ bs) is some fits =
    let there : line ≡ codes "say " ++ (b ∷ bs) = begins (codes "say ") line (subst (λ xs. 0 < length xs) is some) ∙ ap (λ xs. codes "say " ++ xs) (sym is) in
    ap phrase_at there ∙ said b bs fits

posted : (words : List ℕ) (b : ℕ) (bs : List ℕ) (c : ℕ) → client_at (take (reach 32 words) words) ≡ Some c
    → drop (reach 32 words) words ≡ 32 ∷ b ∷ bs → is_text (b ∷ bs) ≡ true → phrase_at (112 ∷ 111 ∷ 115 ∷ 116 ∷ 32 ∷ words) ≡ Some (posting c (b ∷ bs))
unfolding phrase_at op_at row_of
posted words b bs c client rest fits = rw (client, rest, fits, some_more bs) refl

pub posts : (line words text : List ℕ) (c : ℕ) → words ≡ behind (codes "post ") line → 0 < length words
    → client_at (take (reach 32 words) words) ≡ Some c → text ≡ behind (codes " ") (drop (reach 32 words) words) → 0 < length text
    → is_text text ≡ true → phrase_at line ≡ Some (posting c text)
posts line words [] c is more client last some fits = absurd (omega (arith, some))
posts line words (b ∷ bs) c is more client last some fits =
    let there : line ≡ codes "post " ++ words = begins (codes "post ") line (subst (λ xs. 0 < length xs) is more) ∙ ap (λ xs. codes "post " ++ xs) (sym is) in
    let rest : drop (reach 32 words) words
    ≡ 32 ∷ b ∷ bs = begins (codes " ") (drop (reach 32 words) words) (subst (λ xs. 0 < length xs) last some) ∙ ap (λ xs. codes " " ++ xs) (sym last) in
    ap phrase_at there ∙ posted words b bs c client rest fits

-- a line that says a text is the word, a space and the text
pub saying_is_spelt : (line : List ℕ) (b : ℕ) (bs : List ℕ) → phrase_at line ≡ Some (saying (b ∷ bs))
    → (behind (codes "say ") line ≡ b ∷ bs) × (is_text (b ∷ bs) ≡ true)
unfolding row_of
saying_is_spelt line b bs e =
    let f = phrase_found line (saying (b ∷ bs)) e in
    (ap (behind (codes "say ")) f.1 ∙ ap (λ xs. b ∷ xs) (append-nil bs), f.0.0)

-- after the word of a line that posts a text: the client's number, a space and the text
pub posting_is_spelt : (line : List ℕ) (c : ℕ) (b : ℕ) (bs : List ℕ) → phrase_at line ≡ Some (posting c (b ∷ bs))
    → (behind (codes "post ") line ≡ decimal c ++ 32 ∷ b ∷ bs) × (c ≤ 15) × (is_text (b ∷ bs) ≡ true)
unfolding row_of
posting_is_spelt line c b bs e =
    let f = phrase_found line (posting c (b ∷ bs)) e in
    (ap (behind (codes "post ")) f.1 ∙ ap (λ xs. decimal c ++ 32 ∷ b ∷ xs) (append-nil bs), f.0.0, f.0.1.0)

-- the number of a client ends before the space after it
pub client_is_first : (c : ℕ) (more : List ℕ) → c ≤ 15
    → (client_at (take (reach 32 (decimal c ++ 32 ∷ more)) (decimal c ++ 32 ∷ more)) ≡ Some c)
    × (drop (reach 32 (decimal c ++ 32 ∷ more)) (decimal c ++ 32 ∷ more) ≡ 32 ∷ more)
client_is_first c more h =
    let n : reach 32 (decimal c ++ 32 ∷ more)
    ≡ length (decimal c) = reach-append 32 (decimal c) (32 ∷ more) (digits_are_whole (decimal c) (digits_decimal own c (omega (arith, h)))) refl in (
      rw (n, take_at (decimal c) (32 ∷ more) (length (decimal c)) refl, client_again c h) refl,
      rw (n, drop_at (decimal c) (32 ∷ more) (length (decimal c)) refl) refl,
    )
