-- A verdict that is no script names the first bad line, and why it is bad.
use Rattle.std.proofs.Common.{◌≡◌, ℕ, suc, ◌<◌, ◌≤◌, true, false, ◌&&◌, cond, eqb, ltb, List, [], ◌∷◌, ◌++◌, length}
use Rattle.std.proofs.Common.{map, Some, None, Result, Ok, Err, refl, sym, ap, subst, ◌∙◌, inl, inr, append_assoc}
use Rattle.std.specs.Prelude.{IsTrue, ◌⊎◌}
use Rattle.std.specs.List.{AllByRecursion}
use Rattle.std.proofs.lemmas.Bool.{eqb-true, ltb-true, ltb-false}
use Rattle.std.proofs.lemmas.List.{append-nil}
use Rattle.lwp_types.specs.TextFields.{is_printable}
use Rattle.script_lines.specs.Phrase.{Phrase}
use Rattle.script_text.specs.declared.reader.Declared.{Declared}
use Rattle.script_text.specs.declared.reason.Reason.{Reason}
use Rattle.script_text.specs.declared.reason.Reason.TheVariants as reason
use Rattle.script_text.specs.declared.script.Script.{Script}
use Rattle.script_lines.specs.Reading.{phrase_at}
use Rattle.script_text.specs.Meaning.{script_of}
use Rattle.script_lines.specs.Line.{phrase_text, IsLine}
use Rattle.script_text.specs.Grammar.{may_stand, is_declared, AllStand}
use Rattle.script_text.specs.Spelling.{line_cut, reason_at, judge_phrase, judge, at_line, read_on, declared_in, finish, verdict}
use Rattle.script_text.specs.Laws.{AreGood, IsBadLine, IsFirstBad, IsBlamed}
use Rattle.script_text.proofs.ScriptLaws.{judge_again, judge_found, read_found, verdict_long, verdict_short}

-- what an error holds
abbrev err_of : {A B : Type 0} → B → Result A B → B
err_of d (Ok a) = d
err_of d (Err b) = b

pair_of : {A : Type 0} (r : Result A (ℕ × Reason)) (k n : ℕ) (why by : Reason) → r ≡ Err (k, why) → r ≡ Err (n, by) → (k ≡ n) × (why ≡ by)
pair_of r k n why by e f =
    let same : (k, why) ≡ (n, by) = sym (ap (err_of (k, why)) e) ∙ ap (err_of (k, why)) f in
    (ap (λ (x : ℕ × Reason). x.0) same, ap (λ (x : ℕ × Reason). x.1) same)

-- the reason of a line that is bad
judge_bad : (d : Declared) (before : List Phrase) (line : List ℕ) (why : Reason) → judge d before line ≡ Err why
    → why ≡ cond (is_printable line) (reason_at before line) reason.Bytes
judge_bad d before line why e = elim (is_printable line) as
    (λ v. cond v (judge_phrase d before line (phrase_at line)) (Err reason.Bytes) ≡ Err why → why ≡ cond v (reason_at before line) reason.Bytes) [
      | false ↦ λ f. let same : reason.Bytes ≡ why = cc in sym same
      | true ↦ λ f. elim (phrase_at line) as (λ o. judge_phrase d before line o ≡ Err why → why ≡ reason_at before line) [
        | None ↦ λ g. let same : reason_at before line ≡ why = cc in sym same
        | Some q
            ↦ λ g. elim (may_stand before q && is_declared d q) as (λ v. cond v (Ok q) (Err (reason_at before line)) ≡ Err why → why ≡ reason_at before line) [
              | true ↦ λ h. absurd cc
              | false ↦ λ h. let same : reason_at before line ≡ why = cc in sym same
            ] g
      ] f
    ] e

-- a line that is judged bad is the text of none that would be good
judged_is_bad : (d : Declared) (before : List Phrase) (line : List ℕ) (why : Reason) → judge d before line ≡ Err why → IsBadLine d before line
judged_is_bad d before line why e p l t s a =
    let good : judge d before line ≡ Ok p = ap (judge d before) t ∙ judge_again d before p l s a in
    let both : Err why ≡ Ok p = sym e ∙ good in
    absurd cc

-- the lines before the first bad line, that line, and those after it
record Stopped (d : Declared) (before : List Phrase) (lines : List (List ℕ)) (k : ℕ) (why : Reason) (more : List Phrase) (line : List ℕ)
    (rest : List (List ℕ)) : Type 0 where
  lines_are : lines ≡ map phrase_text more ++ line ∷ rest
  number : k ≡ suc (length (before ++ more))
  are_lines : AllByRecursion IsLine more
  stand : AllStand before more
  all_declared : AllByRecursion (λ p. IsTrue (is_declared d p)) more
  is_bad : IsBadLine d (before ++ more) line
  reason_is : why ≡ cond (is_printable line) (reason_at (before ++ more) line) reason.Bytes

read_stopped : (d : Declared) (before : List Phrase) (lines : List (List ℕ)) (k : ℕ) (why : Reason) → read_on d before lines ≡ Err (k, why)
    → (more : List Phrase) × (line : List ℕ) × (rest : List (List ℕ)) × Stopped d before lines k why more line rest
read_stopped d before [] k why e = absurd cc
read_stopped d before (l ∷ ls) k why e = elim (judge d before l) as
    (λ r. judge d before l ≡ r → at_line (suc (length before)) r (λ p. read_on d (before ++ p ∷ []) ls) ≡ Err (k, why)
    → (more : List Phrase) × (line : List ℕ) × (rest : List (List ℕ)) × Stopped d before (l ∷ ls) k why more line rest) [
      | Err x ↦ λ i f.
          let at = pair_of (Err (suc (length before), x)) (suc (length before)) k x why refl f in
          let same : x ≡ why = at.1 in
          let number : suc (length before) ≡ k = at.0 in
          let here : before ≡ before ++ [] = sym (append-nil before) in (
            [],
            l,
            ls,
            record {
              lines_are = refl;
              number = sym number ∙ ap (λ (b : List Phrase). suc (length b)) here;
              are_lines = tt;
              stand = tt;
              all_declared = tt;
              is_bad = subst (λ (b : List Phrase). IsBadLine d b l) here (judged_is_bad d before l x i);
              reason_is = subst (λ (b : List Phrase). why ≡ cond (is_printable l) (reason_at b l) reason.Bytes) here (sym same ∙ judge_bad d before l x i);
            },
          )
      | Ok p ↦ λ i f.
          let j = judge_found d before l p i in
          let r = read_stopped d (before ++ p ∷ []) ls k why f in
          let here : (before ++ p ∷ []) ++ r.0 ≡ before ++ (p ∷ r.0) = append_assoc before (p ∷ []) r.0 in (
            p ∷ r.0,
            r.1,
            r.2,
            record {
              lines_are = ap (λ (x : List ℕ). x ∷ ls) j.text_is ∙ ap (λ (x : List (List ℕ)). phrase_text p ∷ x) r.3.lines_are;
              number = r.3.number ∙ ap (λ (b : List Phrase). suc (length b)) here;
              are_lines = (j.is_line, r.3.are_lines);
              stand = (j.stands, r.3.stand);
              all_declared = (j.declares, r.3.all_declared);
              is_bad = subst (λ (b : List Phrase). IsBadLine d b r.1) here r.3.is_bad;
              reason_is = subst (λ (b : List Phrase). why ≡ cond (is_printable r.1) (reason_at b r.1) reason.Bytes) here r.3.reason_is;
            },
          )
    ] refl e

-- all lines of a text that is no script, where each is good
record Ended (d : Declared) (lines : List (List ℕ)) (all : List Phrase) : Type 0 where
  lines_are : lines ≡ map phrase_text all ++ []
  good : AreGood d all

read_all : (d : Declared) (before : List Phrase) (lines : List (List ℕ)) (all : List Phrase) → read_on d before lines ≡ Ok all
    → (more : List Phrase) × (all ≡ before ++ more) × (lines ≡ map phrase_text more) × AllByRecursion IsLine more × AllStand before more
    × AllByRecursion (λ p. IsTrue (is_declared d p)) more
read_all d before lines all e = let r = read_found d before lines all e in (r.0, r.1.all_is, r.1.texts, r.1.are_lines, r.1.stand, r.1.declared)

ended_good : (d : Declared) (lines : List (List ℕ)) (all : List Phrase) → read_on d [] lines ≡ Ok all → Ended d lines all
ended_good d lines all e =
    let r = read_all d [] lines all e in
    let same : r.0 ≡ all = sym r.1 in
    record {
      lines_are = r.2 ∙ ap (map phrase_text) same ∙ sym (append-nil (map phrase_text all));
      good = record {
        are_lines = subst (AllByRecursion IsLine) same r.3;
        stand = subst (AllStand []) same r.4;
        all_declared = subst (AllByRecursion (λ p. IsTrue (is_declared d p))) same r.5;
      };
    }

abbrev Blames : List (List ℕ) → List ℕ → ℕ → Reason → Type 0
Blames lines tail line why = (before : List Phrase) × (behind : List (List ℕ)) × IsFirstBad lines tail line why before behind

-- what lines are blamed for, by what reading them comes to
blamed_in : (r : Result (List Phrase) (ℕ × Reason)) (lines : List (List ℕ)) (tail : List ℕ) (line : ℕ) (why : Reason)
    → read_on (declared_in (lines ++ tail ∷ [])) [] lines ≡ r → finish r tail ≡ Err (line, why) → Blames lines tail line why
blamed_in (Err x) lines tail line why i f =
    let told = pair_of (Err x) x.0 line x.1 why refl f in
    let at : x.0 ≡ line = told.0 in
    let by : x.1 ≡ why = told.1 in
    let s = read_stopped (declared_in (lines ++ tail ∷ [])) [] lines x.0 x.1 i in (
      s.0,
      s.1 ∷ s.2,
      record {
        lines_are = s.3.lines_are;
        number = sym at ∙ s.3.number;
        good = record { are_lines = s.3.are_lines; stand = s.3.stand; all_declared = s.3.all_declared };
        bad = (s.3.is_bad, sym by ∙ s.3.reason_is);
      },
    )
blamed_in (Ok all) lines (b ∷ tail) line why i f =
    let g = ended_good (declared_in (lines ++ (b ∷ tail) ∷ [])) lines all i in
    let told = pair_of (Err (suc (length all), reason.Unended)) (suc (length all)) line reason.Unended why refl f in
    let at : suc (length all) ≡ line = told.0 in
    let by : reason.Unended ≡ why = told.1 in
    (all, [], record { lines_are = g.lines_are; number = sym at; good = g.good; bad = sym by })
blamed_in (Ok all) lines [] line why i f =
    elim (eqb (length (script_of all).procs) 0) as (λ v. eqb (length (script_of all).procs) 0 ≡ v
    → ◌≡◌ {A = Result Script (ℕ × Reason)} (cond v (Err (suc (length all), reason.Missing)) (Ok (script_of all))) (Err (line, why)) → Blames lines [] line why) [
      | true ↦ λ t h.
          let g = ended_good (declared_in (lines ++ [] ∷ [])) lines all i in
          let told = pair_of (Err (suc (length all), reason.Missing)) (suc (length all)) line reason.Missing why refl h in
          let at : suc (length all) ≡ line = told.0 in
          let by : reason.Missing ≡ why = told.1 in
          (all, [], record { lines_are = g.lines_are; number = sym at; good = g.good; bad = (eqb-true (length (script_of all).procs) 0 t, sym by) })
      | false ↦ λ t h. absurd cc
    ] refl f

pub blamed : (text : List ℕ) → IsBlamed text
blamed text line why e = elim (ltb 16777216 (length text)) as
    (λ v. ltb 16777216 (length text) ≡ v
    → (16777216 < length text) × (line ≡ 0) × (why ≡ reason.TooLarge) ⊎ Blames (line_cut text).0 (line_cut text).1 line why) [
      | true ↦ λ t.
          let told = pair_of (verdict text) 0 line reason.TooLarge why (verdict_long text t) e in
          let at : 0 ≡ line = told.0 in
          let by : reason.TooLarge ≡ why = told.1 in
          inl (ltb-true 16777216 (length text) t, sym at, sym by)
      | false ↦ λ t.
          let short : length text ≤ 16777216 = ltb-false 16777216 (length text) t in
          inr (blamed_in (read_on (declared_in ((line_cut text).0 ++ (line_cut text).1 ∷ [])) [] (line_cut text).0) (line_cut text).0
          (line_cut text).1 line why refl (sym (verdict_short text short) ∙ e))
    ] refl
