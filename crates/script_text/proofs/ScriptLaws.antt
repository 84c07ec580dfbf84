-- The verdict on a text is a script exactly where the text spells it.
use Rattle.std.proofs.Common.{◌≡◌, ℕ, suc, ◌<◌, ◌≤◌, true, false, ◌&&◌, cond, eqb, leb, ltb, fold, List, [], ◌∷◌, ◌++◌, length}
use Rattle.std.proofs.Common.{map, Some, None, Result, Ok, Err, refl, sym, ap, subst, ◌∙◌, arith, append_assoc}
use Rattle.std.specs.Prelude.{IsTrue, IfOk}
use Rattle.std.specs.List.{flat_map, AllByRecursion}
use Rattle.std.proofs.lemmas.Bool.{leb-true, le-ltb, ltb-false, ne_eqb, eqb-false, eqb-true}
use Rattle.std.proofs.lemmas.List.{append-nil}
use Rattle.lwp_types.specs.TextFields.{is_printable}
use Rattle.script_lines.specs.Phrase.{Phrase}
use Rattle.script_text.specs.declared.reader.Declared.{Declared}
use Rattle.script_text.specs.declared.reason.Reason.{Reason}
use Rattle.script_text.specs.declared.reason.Reason.TheVariants as reason
use Rattle.script_text.specs.declared.reason.ReadErr.{ReadErr}
use Rattle.script_text.specs.declared.reason.ReadErr.TheVariants as err
use Rattle.script_text.specs.declared.script.Script.{Script}
use Rattle.script_lines.specs.Table.{role_of}
use Rattle.script_lines.specs.Reading.{phrase_at}
use Rattle.script_text.specs.Meaning.{script_of}
use Rattle.script_lines.specs.Line.{phrase_text, IsLine, with_newline}
use Rattle.script_text.specs.Grammar.{declares, declared_of, nothing, may_stand, is_declared, AllStand, spelling, SpelledBy, Spells}
use Rattle.script_text.specs.Spelling.{onto_first, line_cut, reason_at, judge_phrase, judge, at_line, read_on, after_note}
use Rattle.script_text.specs.Spelling.{declared_in, finish, verdict_by, verdict, Gives, IsReadAs}
use Rattle.script_lines.proofs.WordLemmas.{both}
use Rattle.script_lines.proofs.PhraseLaws.{phrase_found, phrase_again, phrase_needed}
use Rattle.script_lines.proofs.PrintableLaws.{phrase_is_printable}
use Rattle.script_text.proofs.SaidLaws.{said_declares}
use Rattle.script_text.proofs.TrackLaws.{fold_push}

abbrev pub AllDeclared : Declared → List Phrase → Type 0
AllDeclared d ps = AllByRecursion (λ p. IsTrue (is_declared d p)) ps

-- ---- A text that is spelt is read.

line_again : (p : Phrase) → IsLine p → phrase_at (phrase_text p) ≡ Some p
line_again p h = phrase_again p h.0 ∙ ap (λ (q : Phrase). Some q) h.1

pub judge_again : (d : Declared) (before : List Phrase) (p : Phrase) → IsLine p → may_stand before p ≡ true → is_declared d p ≡ true
    → judge d before (phrase_text p) ≡ Ok p
judge_again d before p h s a = rw (phrase_is_printable p h.0, line_again p h, s, a) refl

read_again : (d : Declared) (before ps : List Phrase) → AllByRecursion IsLine ps → AllStand before ps → AllDeclared d ps
    → read_on d before (map phrase_text ps) ≡ Ok (before ++ ps)
read_again d before [] h s a = rw append-nil refl
read_again d before (p ∷ ps) h s a =
    rw (judge_again d before p h.0 s.0 a.0) (read_again d (before ++ p ∷ []) ps h.1 s.1 a.1 ∙ ap (λ (l : List Phrase). Ok l) (append_assoc before (p ∷ []) ps))

cut_line : (l rest : List ℕ) → is_printable l ≡ true → line_cut (l ++ 10 ∷ rest) ≡ (l ∷ (line_cut rest).0, (line_cut rest).1)
cut_line [] rest h = refl
cut_line (b ∷ l) rest h =
    let u = both (leb 32 b && leb b 126) (is_printable l) h in
    let low : 32 ≤ b = leb-true 32 b (both (leb 32 b) (leb b 126) u.0).0 in
    let no : eqb b 10 ≡ false = ne_eqb b 10 (λ z. omega arith) in
    rw (no, cut_line l rest u.1) refl

cut_again : (ps : List Phrase) → AllByRecursion IsLine ps → line_cut (spelling ps) ≡ (map phrase_text ps, [])
cut_again [] h = refl
cut_again (p ∷ ps) h =
    rw (append_assoc (phrase_text p) (10 ∷ []) (spelling ps), cut_line (phrase_text p) (spelling ps) (phrase_is_printable p h.0.0), cut_again ps h.1) refl

-- what the lines of a text declare is what its phrases declare
declared_on : (d : Declared) (ps : List Phrase) → AllByRecursion IsLine ps
    → fold after_note d (map phrase_text ps) ≡ fold (λ (x : Declared) (p : Phrase). declares (role_of p.op) x p) d ps
declared_on d [] h = refl
declared_on d (p ∷ ps) h = ap (λ (x : Declared). fold after_note x (map phrase_text ps)) (said_declares d (phrase_text p) p (line_again p h.0))
    ∙ declared_on (declares (role_of p.op) d p) ps h.1

nothing_more : (d : Declared) → after_note d [] ≡ d
nothing_more d = refl

declared_again : (ps : List Phrase) → AllByRecursion IsLine ps → declared_in (map phrase_text ps ++ [] ∷ []) ≡ declared_of ps
declared_again ps h = fold_push after_note nothing (map phrase_text ps) [] ∙ declared_on nothing ps h

pub verdict_long : (text : List ℕ) → ltb 16777216 (length text) ≡ true → verdict text ≡ Err (0, reason.TooLarge)
unfolding verdict
verdict_long text h = rw h refl

pub verdict_short : (text : List ℕ) → length text ≤ 16777216 → verdict text ≡ verdict_by (line_cut text)
unfolding verdict
verdict_short text h = rw (le-ltb 16777216 (length text) h) refl

pub verdict_again : (text : List ℕ) (s : Script) (ps : List Phrase) → SpelledBy text s ps → verdict text ≡ Ok s
verdict_again text s ps h =
    let c : line_cut text ≡ (map phrase_text ps, []) = ap line_cut h.text_is ∙ cut_again ps h.are_lines in
    let d = declared_again ps h.are_lines in
    let r : read_on (declared_of ps) [] (map phrase_text ps) ≡ Ok ps = read_again (declared_of ps) [] ps h.are_lines h.stand h.declared in
    let any : eqb (length (script_of ps).procs) 0 ≡ false = ne_eqb _ _ (λ z. let some = h.some in omega arith) in
    verdict_short text h.short ∙ rw (c, d, r, any) (ap (λ (x : Script). Ok x) (sym h.script_is))

-- ---- A text that is read is spelt.

-- what reading on has found
pub record Read (d : Declared) (before : List Phrase) (lines : List (List ℕ)) (all more : List Phrase) : Type 0 where
  pub all_is : all ≡ before ++ more
  pub texts : lines ≡ map phrase_text more
  pub are_lines : AllByRecursion IsLine more
  pub stand : AllStand before more
  pub declared : AllDeclared d more

pub record Judged (d : Declared) (before : List Phrase) (line : List ℕ) (p : Phrase) : Type 0 where
  pub is_line : IsLine p
  pub text_is : line ≡ phrase_text p
  pub stands : may_stand before p ≡ true
  pub declares : is_declared d p ≡ true

pub judge_found : (d : Declared) (before : List Phrase) (line : List ℕ) (p : Phrase) → judge d before line ≡ Ok p → Judged d before line p
judge_found d before line p e = elim (is_printable line) as
    (λ v. is_printable line ≡ v → cond v (judge_phrase d before line (phrase_at line)) (Err reason.Bytes) ≡ Ok p → Judged d before line p) [
      | false ↦ λ i f. absurd cc
      | true ↦ λ i f. elim (phrase_at line) as (λ o. phrase_at line ≡ o → judge_phrase d before line o ≡ Ok p → Judged d before line p) [
        | None ↦ λ j g. absurd cc
        | Some q
            ↦ λ j g. elim (may_stand before q && is_declared d q) as
            (λ v. (may_stand before q && is_declared d q) ≡ v → cond v (Ok q) (Err (reason_at before line)) ≡ Ok p → Judged d before line p) [
              | false ↦ λ k h. absurd cc
              | true ↦ λ k h.
                  let same : q ≡ p = cc in
                  let t = phrase_found line q j in
                  let u = both (may_stand before q) (is_declared d q) k in
                  subst (Judged d before line) same (record { is_line = (t.0, phrase_needed line q j); text_is = t.1; stands = u.0; declares = u.1 })
            ] refl g
      ] refl f
    ] refl e

pub read_found : (d : Declared) (before : List Phrase) (lines : List (List ℕ)) (all : List Phrase) → read_on d before lines ≡ Ok all
    → (more : List Phrase) × Read d before lines all more
read_found d before [] all e =
    ([], record { all_is = (let same : before ≡ all = cc in sym same ∙ sym (append-nil before)); texts = refl; are_lines = tt; stand = tt; declared = tt })
read_found d before (l ∷ ls) all e = elim (judge d before l) as
    (λ r. judge d before l ≡ r → at_line (suc (length before)) r (λ p. read_on d (before ++ p ∷ []) ls) ≡ Ok all
    → (more : List Phrase) × Read d before (l ∷ ls) all more) [
      | Err x ↦ λ i f. absurd cc
      | Ok p ↦ λ i f.
          let j = judge_found d before l p i in
          let r = read_found d (before ++ p ∷ []) ls all f in (
            p ∷ r.0,
            record {
              all_is = r.1.all_is ∙ append_assoc before (p ∷ []) r.0;
              texts = ap (λ (x : List ℕ). x ∷ ls) j.text_is ∙ ap (λ (x : List (List ℕ)). phrase_text p ∷ x) r.1.texts;
              are_lines = (j.is_line, r.1.are_lines);
              stand = (j.stands, r.1.stand);
              declared = (j.declares, r.1.declared);
            },
          )
    ] refl e

-- the text that was cut
abbrev joined : List (List ℕ) × List ℕ → List ℕ
joined c = flat_map with_newline c.0 ++ c.1

onto_first_joined : (b : ℕ) (ls : List (List ℕ)) (tail : List ℕ) → b ∷ joined (ls, tail) ≡ joined (onto_first b (ls, tail))
onto_first_joined b [] tail = refl
onto_first_joined b (l ∷ ls) tail = refl

cut_found : (text : List ℕ) → text ≡ joined (line_cut text)
cut_found [] = refl
cut_found (b ∷ bs) = elim (eqb b 10) as (λ v. eqb b 10 ≡ v → b ∷ bs ≡ joined (cond v ([] ∷ (line_cut bs).0, (line_cut bs).1) (onto_first b (line_cut bs)))) [
  | true ↦ λ t. rw (eqb-true b 10 t) (ap (λ (l : List ℕ). 10 ∷ l) (cut_found bs))
  | false ↦ λ t. ap (λ (l : List ℕ). b ∷ l) (cut_found bs) ∙ onto_first_joined b (line_cut bs).0 (line_cut bs).1
] refl

spelling_is : (ps : List Phrase) → flat_map with_newline (map phrase_text ps) ≡ spelling ps
spelling_is [] = refl
spelling_is (p ∷ ps) = ap (λ (l : List ℕ). with_newline (phrase_text p) ++ l) (spelling_is ps)

-- all lines of a text that is read
record Finished (r : Result (List Phrase) (ℕ × Reason)) (tail : List ℕ) (s : Script) (ps : List Phrase) : Type 0 where
  were : r ≡ Ok ps
  no_tail : tail ≡ []
  some : 0 < length (script_of ps).procs
  script_is : s ≡ script_of ps

abbrev missing : List Phrase → Result Script (ℕ × Reason)
missing ps = Err (suc (length ps), reason.Missing)

abbrev made : List Phrase → Result Script (ℕ × Reason)
made ps = Ok (script_of ps)

finish_ok : (r : Result (List Phrase) (ℕ × Reason)) (tail : List ℕ) (s : Script) → finish r tail ≡ Ok s → (ps : List Phrase) × Finished r tail s ps
finish_ok (Err f) tail s e = absurd cc
finish_ok (Ok qs) (b ∷ tail) s e = absurd cc
finish_ok (Ok qs) [] s e = elim (eqb (length (script_of qs).procs) 0) as
    (λ v. eqb (length (script_of qs).procs) 0 ≡ v → cond v (missing qs) (made qs) ≡ Ok s → (ps : List Phrase) × Finished (Ok qs) [] s ps) [
      | true ↦ λ t f. absurd cc
      | false ↦ λ t f. (qs, record { were = refl; no_tail = refl; some = (let ne = eqb-false (length (script_of qs).procs) 0 t in omega arith); script_is = (let same : script_of qs ≡ s = cc in sym same) })
    ] refl e

found_spells : (text : List ℕ) (ls : List (List ℕ)) (tail : List ℕ) (s : Script) (ps more : List Phrase) → text ≡ joined (ls, tail)
    → length text ≤ 16777216 → tail ≡ [] → 0 < length (script_of ps).procs → s ≡ script_of ps
    → Read (declared_in (ls ++ tail ∷ [])) [] ls ps more → SpelledBy text s ps
found_spells text ls tail s ps more text-is short none some script-is r =
    let same : ps ≡ more = r.all_is in
    let texts : ls ≡ map phrase_text ps = r.texts ∙ ap (map phrase_text) (sym same) in
    let lines : AllByRecursion IsLine ps = subst (AllByRecursion IsLine) (sym same) r.are_lines in
    let d-is : declared_in (ls ++ tail ∷ []) ≡ declared_of ps = rw (texts, none) (declared_again ps lines) in
    let declared : AllDeclared (declared_in (ls ++ tail ∷ [])) ps = subst (AllDeclared (declared_in (ls ++ tail ∷ []))) (sym same) r.declared in
    record {
      text_is = text-is ∙ rw (texts, none) (append-nil (flat_map with_newline (map phrase_text ps)) ∙ spelling_is ps);
      short = short;
      are_lines = lines;
      stand = subst (AllStand []) (sym same) r.stand;
      declared = subst (λ (x : Declared). AllDeclared x ps) d-is declared;
      some = some;
      script_is = script-is;
    }

pub verdict_found : (text : List ℕ) (s : Script) → length text ≤ 16777216 → verdict_by (line_cut text) ≡ Ok s → Spells text s
verdict_found text s short e =
    let ls = (line_cut text).0 in
    let tail = (line_cut text).1 in
    let g = finish_ok (read_on (declared_in (ls ++ tail ∷ [])) [] ls) tail s e in
    let r = read_found (declared_in (ls ++ tail ∷ [])) [] ls g.0 g.1.were in
    (g.0, found_spells text ls tail s g.0 r.0 (cut_found text) short g.1.no_tail g.1.some g.1.script_is r.1)

-- ---- Answers.

pub spelt_from : (text : List ℕ) (s : Script) → verdict text ≡ Ok s → Spells text s
spelt_from text s e = elim (ltb 16777216 (length text)) as (λ v. ltb 16777216 (length text) ≡ v → Spells text s) [
  | true ↦ λ t. absurd (let no = verdict_long text t in cc)
  | false ↦ λ t. let short : length text ≤ 16777216 = ltb-false 16777216 (length text) t in verdict_found text s short (sym (verdict_short text short) ∙ e)
] refl

pub is_verdict : (text : List ℕ) (s : Script) → Spells text s → verdict text ≡ Ok s
is_verdict text s h = verdict_again text s h.0 h.1

pub one_script : (text : List ℕ) (s t : Script) → Spells text s → Spells text t → s ≡ t
one_script text s t h k = let same : Ok s ≡ Ok t = sym (is_verdict text s h) ∙ is_verdict text t k in cc

pub spelt_by : (text : List ℕ) (r : Result Script ReadErr) → Gives (verdict text) r → IfOk r (λ s. Spells text s)
spelt_by text (Err e) g = tt
spelt_by text (Ok s) g = spelt_from text s g

-- a script that is the verdict is what is read
is_read_as : (s : Script) (r : Result Script ReadErr) → Gives (Ok s) r → IsReadAs s r
is_read_as s (Ok t) g = cc
is_read_as s (Err err.NoMemory) g = tt
is_read_as s (Err (err.Bad line why)) g = cc

pub read_as : (text : List ℕ) (s : Script) (r : Result Script ReadErr) → Gives (verdict text) r → Spells text s → IsReadAs s r
read_as text s r g h = is_read_as s r (subst (λ (v : Result Script (ℕ × Reason)). Gives v r) (is_verdict text s h) g)
