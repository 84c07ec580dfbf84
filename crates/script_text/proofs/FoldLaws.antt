-- What a reader answers at the end is the verdict on the lines.
use Rattle.std.proofs.Common.{◌≡◌, ℕ, suc, ◌+◌, ◌≤◌, true, false, ◌&&◌, cond, List, [], ◌∷◌, ◌++◌, length, fold}
use Rattle.std.proofs.Common.{Option, Some, None, Result, Ok, Err, refl, sym, ap, subst, ◌∙◌, arith}
use Rattle.lwp_types.specs.TextFields.{is_printable}
use Rattle.script_lines.specs.declared.table.Role.{Role}
use Rattle.script_lines.specs.declared.table.Role.TheVariants as role
use Rattle.script_lines.specs.Phrase.{Phrase}
use Rattle.script_text.specs.declared.reader.Declared.{Declared}
use Rattle.script_text.specs.declared.stage.Stage.{Stage}
use Rattle.script_text.specs.declared.stage.Stage.TheVariants as stages
use Rattle.script_text.specs.declared.reason.Reason.{Reason}
use Rattle.script_text.specs.declared.reason.Reason.TheVariants as reason
use Rattle.script_text.specs.declared.draft.Draft.{Draft}
use Rattle.script_text.specs.declared.reader.Mention.{Mention}
use Rattle.script_text.specs.declared.reader.Reader.{Reader}
use Rattle.script_text.specs.declared.script.Script.{Script}
use Rattle.script_lines.specs.Table.{role_of, starts, starts_any}
use Rattle.script_lines.specs.Reading.{phrase_at}
use Rattle.script_text.specs.Grammar.{follows, keeps_rule, declared_of, posted_of, nothing, has, stage_after, stage_of, may_stand, is_declared}
use Rattle.script_text.specs.Meaning.{after_add}
use Rattle.script_text.specs.Spelling.{reason_behind, reason_at, judge_phrase, judge, at_line, read_on, after_note, declared_in, finish, verdict_by}
use Rattle.script_text.specs.Track.{judge_phrase_at, judge_alone, mention_of, after_verdict, after_judge}
use Rattle.script_text.specs.Track.{knows, step, start, first_missing, answer_by, answer_at}
use Rattle.script_lines.proofs.WordLemmas.{both}
use Rattle.script_lines.proofs.PhraseLaws.{phrase_found, start_is_statement}
use Rattle.script_text.proofs.SaidLaws.{said_declares, starting_word}
use Rattle.script_text.proofs.TrackLaws.{fold_push, first_undeclared, undeclared_push, Tracks, tracks_more}

-- ---- One line, by itself and in its text.

-- a line that is good by itself
record Alone (before : List Phrase) (line : List ℕ) (p : Phrase) : Type 0 where
  printable : is_printable line ≡ true
  said : phrase_at line ≡ Some p
  stands : may_stand before p ≡ true

abbrev alone : List Phrase → List ℕ → Result Phrase Reason
alone before line = judge_alone (stage_of before) (declared_of before) (posted_of before) line

alone_ok : (before : List Phrase) (line : List ℕ) (p : Phrase) → alone before line ≡ Ok p → Alone before line p
alone_ok before line p e = elim (is_printable line) as
    (λ v. is_printable line ≡ v
    → cond v (judge_phrase_at (stage_of before) (declared_of before) (posted_of before) line (phrase_at line)) (Err reason.Bytes) ≡ Ok p → Alone before line p) [
      | false ↦ λ i f. absurd cc
      | true
          ↦ λ i f. elim (phrase_at line) as
          (λ o. phrase_at line ≡ o → judge_phrase_at (stage_of before) (declared_of before) (posted_of before) line o ≡ Ok p → Alone before line p) [
            | None ↦ λ j g. absurd cc
            | Some q
                ↦ λ j g. elim (may_stand before q) as (λ v. may_stand before q ≡ v → cond v (Ok q) (Err (reason_at before line)) ≡ Ok p → Alone before line p) [
                  | false ↦ λ k h. absurd cc
                  | true ↦ λ k h. let same : q ≡ p = cc in subst (Alone before line) same (record { printable = i; said = j; stands = k })
                ] refl g
          ] refl f
    ] refl e

-- what is bad by itself is bad in every text
alone_err : (d : Declared) (before : List Phrase) (line : List ℕ) (why : Reason) → alone before line ≡ Err why → judge d before line ≡ Err why
alone_err d before line why e = elim (is_printable line) as
    (λ v. cond v (judge_phrase_at (stage_of before) (declared_of before) (posted_of before) line (phrase_at line)) (Err reason.Bytes) ≡ Err why
    → cond v (judge_phrase d before line (phrase_at line)) (Err reason.Bytes) ≡ Err why) [
      | false ↦ λ f. f
      | true
          ↦ λ f. elim (phrase_at line) as
          (λ o. judge_phrase_at (stage_of before) (declared_of before) (posted_of before) line o ≡ Err why → judge_phrase d before line o ≡ Err why) [
            | None ↦ λ g. g
            | Some q
                ↦ λ g. elim (may_stand before q) as
                (λ v. cond v (Ok q) (Err (reason_at before line)) ≡ Err why → cond (v && is_declared d q) (Ok q) (Err (reason_at before line)) ≡ Err why) [
                  | false ↦ λ h. h
                  | true ↦ λ h. absurd cc
                ] g
          ] f
    ] e

undeclared_starts : (d : Declared) (p : Phrase) → is_declared d p ≡ false → starts p.op ≡ true
undeclared_starts d p e = elim (starts p.op) as (λ v. cond v (has d (starts_any p.op) p.procedure) true ≡ false → v ≡ true) [
  | true ↦ λ f. refl
  | false ↦ λ f. absurd cc
] e

behind_statement : (stage : Stage) → follows stage role.Statement ≡ true → reason_behind stage None (Some role.Statement) ≡ reason.Statement
behind_statement stages.Start h = absurd cc
behind_statement stages.Header h = absurd cc
behind_statement stages.Pod h = absurd cc
behind_statement stages.Clients h = absurd cc
behind_statement stages.Natives h = absurd cc
behind_statement stages.Proc h = refl
behind_statement stages.Calling h = refl
behind_statement stages.Skipping h = refl
behind_statement stages.Ended h = absurd cc
behind_statement stages.Posts h = absurd cc

-- an undeclared procedure makes a line that stands bad as a statement
undeclared_reason : (d : Declared) (before : List Phrase) (line : List ℕ) (p : Phrase) → Alone before line p → is_declared d p ≡ false
    → reason_at before line ≡ reason.Statement
undeclared_reason d before line p a e =
    let s : starts p.op ≡ true = undeclared_starts d p e in
    let r : role_of p.op ≡ role.Statement = start_is_statement p.op s in
    let f : follows (stage_of before) (role_of p.op)
    ≡ true = (both (follows (stage_of before) (role_of p.op)) (keeps_rule (declared_of before) (posted_of before) (role_of p.op) p) a.stands).0 in
    rw (starting_word line p a.said s, a.said, r) (behind_statement (stage_of before) (subst (λ (x : Role). follows (stage_of before) x ≡ true) r f))

-- ---- The end.

-- a reader that has found no bad line
abbrev good : ℕ → Stage → Declared → List Mention → Draft → Reader
good count stage declared mentions draft = record { count = count; stage = stage; bad = None; declared = declared; mentions = mentions; draft = draft }

-- the answer in a text that declares these procedures
abbrev settled : Declared → Reader → List ℕ → Result Script (ℕ × Reason)
settled d r tail = answer_by (first_missing d r.draft.script.names.procs r.mentions) r.bad r tail

-- after a bad line only what is declared changes
frozen : (d : Declared) (why : Reason) (count : ℕ) (stage : Stage) (declared : Declared) (mentions : List Mention) (draft : Draft)
    (lines : List (List ℕ)) (more tail : List ℕ)
    → settled d (knows (fold step
    (record { count = count; stage = stage; bad = Some why; declared = declared; mentions = mentions; draft = draft }) lines) more)
    tail
    ≡ answer_by (first_missing d draft.script.names.procs mentions) (Some why)
    (record { count = count; stage = stage; bad = Some why; declared = nothing; mentions = mentions; draft = draft })
    tail
frozen d why count stage declared mentions draft [] more tail =
    elim (first_missing d draft.script.names.procs mentions) as (λ o. answer_by o (Some why)
    (record { count = count; stage = stage; bad = Some why; declared = after_note declared more; mentions = mentions; draft = draft }) tail
    ≡ answer_by o (Some why) (record { count = count; stage = stage; bad = Some why; declared = nothing; mentions = mentions; draft = draft }) tail) [
      | None ↦ refl
      | Some k ↦ refl
    ]
frozen d why count stage declared mentions draft (l ∷ ls) more tail = frozen d why count stage (after_note declared l) mentions draft ls more tail

-- a reader goes on as what it knows of the lines says
goes_on : (count : ℕ) (stage : Stage) (declared : Declared) (mentions : List Mention) (draft : Draft) (before : List Phrase) (l : List ℕ) (p : Phrase)
    → Tracks count stage declared mentions draft before → judge_alone stage declared draft.posted l ≡ Ok p
    → Alone before l p
    × Tracks (count + 1) (stage_after stage (role_of p.op)) (after_note declared l)
    (mentions ++ mention_of (count + 1) (after_add draft p).script.names.procs p) (after_add draft p) (before ++ p ∷ [])
goes_on count stage declared mentions draft before l p k e =
    let same : judge_alone stage declared draft.posted l ≡ alone before l = rw (k.stage_is, k.declared_is, k.draft_is) refl in
    let a = alone_ok before l p (sym same ∙ e) in
    (a, rw (said_declares declared l p a.said) (tracks_more count stage declared mentions draft before p k (phrase_found l p a.said).0))

-- a line that starts an undeclared procedure is the first bad line
stays_missed : (d : Declared) (n : ℕ) (count : ℕ) (stage : Stage) (declared : Declared) (mentions : List Mention) (draft : Draft)
    (before : List Phrase) (lines : List (List ℕ)) (more tail : List ℕ)
    → Tracks count stage declared mentions draft before → first_undeclared d 1 before ≡ Some n
    → settled d (knows (fold step (good count stage declared mentions draft) lines) more) tail ≡ Err (n, reason.Statement)
stays_missed d n count stage declared mentions draft before [] more tail k h = rw (k.mentions_tell d, h) refl
stays_missed d n count stage declared mentions draft before (l ∷ ls) more tail k h = elim (judge_alone stage declared draft.posted l) as
    (λ j. judge_alone stage declared draft.posted l ≡ j
    → settled d (knows (fold step (knows (after_verdict (good count stage declared mentions draft) j) l) ls) more) tail ≡ Err (n, reason.Statement)) [
      | Err why ↦ λ e. frozen d why count stage (after_note declared l) mentions draft ls more tail ∙ rw (k.mentions_tell d, h) refl
      | Ok p ↦ λ e.
          let g = goes_on count stage declared mentions draft before l p k e in
          let missed : first_undeclared d 1 (before ++ p ∷ []) ≡ Some n = undeclared_push d 1 before p ∙ rw h refl in
          stays_missed d n (count + 1) _ _ _ _ (before ++ p ∷ []) ls more tail g.1 missed
    ] refl

-- the answer after good lines
all_ended : (d : Declared) (count : ℕ) (stage : Stage) (declared : Declared) (mentions : List Mention) (draft : Draft) (before : List Phrase) (tail : List ℕ)
    → Tracks count stage declared mentions draft before → first_undeclared d 1 before ≡ None
    → settled d (knows (good count stage declared mentions draft) tail) tail ≡ finish (Ok before) tail
all_ended d count stage declared mentions draft before (b ∷ tail) k h =
    let line : count + 1 ≡ suc (length before) = omega (arith, k.count_is) in
    rw (k.mentions_tell d, h, line) refl
all_ended d count stage declared mentions draft before [] k h =
    let line : count + 1 ≡ suc (length before) = omega (arith, k.count_is) in
    rw (k.mentions_tell d, h, line, k.draft_is) refl

-- the answer after lines that are good so far
settles : (d : Declared) (count : ℕ) (stage : Stage) (declared : Declared) (mentions : List Mention) (draft : Draft) (before : List Phrase)
    (lines : List (List ℕ)) (tail : List ℕ)
    → Tracks count stage declared mentions draft before → first_undeclared d 1 before ≡ None
    → settled d (knows (fold step (good count stage declared mentions draft) lines) tail) tail ≡ finish (read_on d before lines) tail
settles d count stage declared mentions draft before [] tail k h = all_ended d count stage declared mentions draft before tail k h
settles d count stage declared mentions draft before (l ∷ ls) tail k h = elim (judge_alone stage declared draft.posted l) as
    (λ j. judge_alone stage declared draft.posted l ≡ j
    → settled d (knows (fold step (knows (after_verdict (good count stage declared mentions draft) j) l) ls) tail) tail
    ≡ finish (at_line (suc (length before)) (judge d before l) (λ p. read_on d (before ++ p ∷ []) ls)) tail) [
      | Err why ↦ λ e.
          let same : judge_alone stage declared draft.posted l ≡ alone before l = rw (k.stage_is, k.declared_is, k.draft_is) refl in
          let bad : judge d before l ≡ Err why = alone_err d before l why (sym same ∙ e) in
          let line : count + 1 ≡ suc (length before) = omega (arith, k.count_is) in
          frozen d why count stage (after_note declared l) mentions draft ls tail tail ∙ rw (k.mentions_tell d, h, bad, line) refl
      | Ok p ↦ λ e.
          let g = goes_on count stage declared mentions draft before l p k e in
          elim (is_declared d p) as
          (λ v. is_declared d p ≡ v
          → settled d (knows (fold step (knows (after_verdict (good count stage declared mentions draft) (Ok p)) l) ls) tail) tail
          ≡ finish (at_line (suc (length before)) (judge d before l) (λ q. read_on d (before ++ q ∷ []) ls)) tail) [
            | true ↦ λ y.
                let none : first_undeclared d 1 (before ++ p ∷ []) ≡ None = undeclared_push d 1 before p ∙ rw (h, y) refl in
                settles d (count + 1) _ _ _ _ (before ++ p ∷ []) ls tail g.1 none ∙ rw (g.0.printable, g.0.said, g.0.stands, y) refl
            | false ↦ λ n.
                let missed : first_undeclared d 1 (before ++ p ∷ []) ≡ Some (1 + length before) = undeclared_push d 1 before p ∙ rw (h, n) refl in
                let line : 1 + length before ≡ suc (length before) = omega arith in
                let why : reason_at before l ≡ reason.Statement = undeclared_reason d before l p g.0 n in
                stays_missed d (1 + length before) (count + 1) _ _ _ _ (before ++ p ∷ []) ls tail tail g.1 missed
                ∙ rw (g.0.printable, g.0.said, g.0.stands, n, why, line) refl
          ] refl
    ] refl

-- what the lines declare is kept
took_declared : (r : Reader) (j : Result Phrase Reason) → (after_verdict r j).declared ≡ r.declared
took_declared r (Ok p) = refl
took_declared r (Err why) = refl

judged_declared : (b : Option Reason) (r : Reader) (l : List ℕ) → (after_judge b r l).declared ≡ r.declared
judged_declared (Some why) r l = refl
judged_declared None r l = took_declared r (judge_alone r.stage r.declared r.draft.posted l)

fold_declared : (r : Reader) (lines : List (List ℕ)) → (fold step r lines).declared ≡ fold after_note r.declared lines
fold_declared r [] = refl
fold_declared r (l ∷ ls) = fold_declared (step r l) ls ∙ ap (λ (x : Declared). fold after_note (after_note x l) ls) (judged_declared r.bad r l)

starts_well : Tracks 0 stages.Start nothing [] start.draft []
starts_well = record { count_is = refl; stage_is = refl; declared_is = refl; draft_is = refl; are_named = tt; mentions_tell = λ d. refl }

-- a reader's answer is the verdict
pub verdict_folds : (lines : List (List ℕ)) (tail : List ℕ) → answer_at (fold step start lines) tail ≡ verdict_by (lines, tail)
verdict_folds lines tail =
    let all = declared_in (lines ++ tail ∷ []) in
    let d : after_note (fold step start lines).declared tail
    ≡ all = ap (λ (x : Declared). after_note x tail) (fold_declared start lines) ∙ sym (fold_push after_note nothing lines tail) in
    ap (λ (x : Declared). settled x (knows (fold step start lines) tail) tail) d
    ∙ settles all 0 stages.Start nothing [] start.draft [] lines tail starts_well refl

-- a step takes one line
took_count : (r : Reader) (j : Result Phrase Reason) → (after_verdict r j).count ≤ r.count + 1
took_count r (Ok p) = omega arith
took_count r (Err why) = omega arith

judged_count : (b : Option Reason) (r : Reader) (l : List ℕ) → (after_judge b r l).count ≤ r.count + 1
judged_count (Some why) r l = omega arith
judged_count None r l = took_count r (judge_alone r.stage r.declared r.draft.posted l)

pub step_count : (r : Reader) (l : List ℕ) → (step r l).count ≤ r.count + 1
step_count r l = judged_count r.bad r l
