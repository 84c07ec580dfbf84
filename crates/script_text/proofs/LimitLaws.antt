-- A script that is read is within the limits of a pod.
use Rattle.std.proofs.Common.{◌≡◌, ℕ, suc, ◌+◌, ◌^◌, ◌<◌, ◌≤◌, Bool, true, false, not, ◌&&◌, cond, leb, List, [], ◌∷◌, ◌++◌, length}
use Rattle.std.proofs.Common.{fold, Option, Some, None, Result, Ok, Err, refl, sym, ap, subst, arith, append_assoc, length-append}
use Rattle.std.specs.Prelude.{IfOk, option_to_list}
use Rattle.std.specs.List.{AllByRecursion}
use Rattle.std.proofs.lemmas.Bool.{leb-true}
use Rattle.std.proofs.lemmas.List.{append-nil}
use Rattle.script_lines.specs.declared.table.Op.{Op}
use Rattle.script_lines.specs.declared.table.Op.TheVariants as op
use Rattle.script_lines.specs.declared.table.Role.{Role}
use Rattle.script_lines.specs.declared.table.Role.TheVariants as role
use Rattle.script_text.specs.declared.stage.Stage.{Stage}
use Rattle.script_text.specs.declared.stage.Stage.TheVariants as stages
use Rattle.script_text.specs.declared.draft.Draft.{Draft}
use Rattle.script_text.specs.declared.draft.Places.{Places}
use Rattle.script_text.specs.declared.reader.Declared.{Declared}
use Rattle.script_text.specs.declared.reason.ReadErr.{ReadErr}
use Rattle.script_text.specs.declared.script.Proc.{Proc}
use Rattle.script_text.specs.declared.script.Script.{Script}
use Rattle.script_text.specs.declared.script.Stmt.{Stmt}
use Rattle.script_lines.specs.Phrase.{Phrase}
use Rattle.script_lines.proofs.TableLaws.{only_of_role}
use Rattle.script_lines.specs.Table.{row_of, role_of, slots_of}
use Rattle.script_lines.specs.Line.{phrase_text, SlotFits, IsPhrase, IsLine}
use Rattle.script_text.specs.Grammar.{declared_of, posted_of, stage_behind_first, stage_after, stage_of, follows}
use Rattle.script_text.specs.Grammar.{keeps_rule, may_stand, AllStand, spelling, SpelledBy, Spells}
use Rattle.script_text.specs.Limits.{IsWithinLimits}
use Rattle.script_text.specs.Meaning.{contains_name, is_some_text, enter, statement_of, with_statement, after_push, native_kind, empty_draft}
use Rattle.script_text.specs.Meaning.{after_name, places_of, after_enter, after_add_at, after_add, draft_of, script_of}
use Rattle.script_lines.proofs.WordLemmas.{both}
use Rattle.script_text.proofs.TrackLaws.{fold_push, stage_push}

-- ---- Counts.

-- each line has its end at least
lines_short : (lines : List Phrase) → length lines ≤ length (spelling lines)
lines_short [] = omega arith
lines_short (p ∷ ps) = omega (arith, lines_short ps, length-append (phrase_text p ++ 10 ∷ []) (spelling ps), length-append (phrase_text p) (10 ∷ []))

-- a line enters one name of a kind at most
enter_short : (names : List (List ℕ)) (w : List ℕ) → length (enter names w) ≤ suc (length names)
enter_short names w = elim (is_some_text w && not (contains_name names w)) as (λ v. length (cond v (names ++ w ∷ []) names) ≤ suc (length names)) [
  | true ↦ omega (arith, length-append names (w ∷ []))
  | false ↦ omega arith
]

grown_alike : (o : Option Stmt) (current : Option Proc) → length (option_to_list (with_statement o current)) ≡ length (option_to_list current)
grown_alike None current = refl
grown_alike (Some s) None = refl
grown_alike (Some s) (Some p) = refl

-- how many procedures there are so far, the last among them
abbrev procs_in : Draft → ℕ
procs_in d = length d.script.procs + length (option_to_list d.current)

-- what holds after so many lines
record Few (n : ℕ) (d : Draft) : Type 0 where
  procs : procs_in d ≤ n
  natives : length d.script.natives ≤ n
  threads : length d.script.names.threads ≤ n
  mons : length d.script.names.mons ≤ n
  conds : length d.script.names.conds ≤ n

few_entered : (n : ℕ) (d : Draft) (p : Phrase) → Few n d
    → Few (suc n) (after_enter d p) × (procs_in (after_enter d p) ≤ n) × (length (after_enter d p).script.natives ≤ n)
few_entered n d p h = (
  record {
    procs = omega (arith, h.procs);
    natives = omega (arith, h.natives);
    threads = omega (arith, h.threads, enter_short d.script.names.threads p.thread);
    mons = omega (arith, h.mons, enter_short d.script.names.mons p.monitor);
    conds = omega (arith, h.conds, enter_short d.script.names.conds p.condition);
  },
  h.procs,
  h.natives,
)

few_pushed : (n : ℕ) (at : Places) (d : Draft) (p : Phrase) → Few n d → Few n (after_push at d p)
few_pushed n at d p h = record {
  procs = omega (arith, h.procs, grown_alike (statement_of p.op at p) d.current);
  natives = h.natives;
  threads = h.threads;
  mons = h.mons;
  conds = h.conds;
}

current_short : (o : Option Proc) → length (option_to_list o) ≤ 1
current_short None = omega arith
current_short (Some p) = omega arith

few_more : (r : Role) (n : ℕ) (at : Places) (d : Draft) (p : Phrase) → Few (suc n) d → procs_in d ≤ n → length d.script.natives ≤ n
    → Few (suc n) (after_add_at r at d p)
few_more role.Header n at d p h procs natives = h
few_more role.Pod n at d p h procs natives = record { procs = h.procs; natives = h.natives; threads = h.threads; mons = h.mons; conds = h.conds }
few_more role.Limit n at d p h procs natives = record { procs = h.procs; natives = h.natives; threads = h.threads; mons = h.mons; conds = h.conds }
few_more role.Client n at d p h procs natives = record { procs = h.procs; natives = h.natives; threads = h.threads; mons = h.mons; conds = h.conds }
few_more role.Native n at d p h procs natives = record {
  procs = h.procs;
  natives = omega (arith, natives, length-append d.script.natives (record { name = at.procedure; kind = native_kind p.event at.thread } ∷ []));
  threads = h.threads;
  mons = h.mons;
  conds = h.conds;
}
few_more role.Proc n at d p h procs natives = record {
  procs = omega (arith, procs, length-append d.script.procs (option_to_list d.current));
  natives = h.natives;
  threads = h.threads;
  mons = h.mons;
  conds = h.conds;
}
few_more role.Post n at d p h procs natives = record { procs = h.procs; natives = h.natives; threads = h.threads; mons = h.mons; conds = h.conds }
few_more role.Statement n at d p h procs natives = few_pushed (suc n) at d p h
few_more role.Skip n at d p h procs natives = few_pushed (suc n) at d p h
few_more role.Again n at d p h procs natives = few_pushed (suc n) at d p h

few_on : (n : ℕ) (d : Draft) (lines : List Phrase) → Few n d → Few (n + length lines) (fold after_add d lines)
few_on n d [] h = subst (λ (m : ℕ). Few m d) (omega arith) h
few_on n d (p ∷ ps) h =
    let e = few_entered n d p h in
    let one = few_more (role_of p.op) n (places_of (after_name d.script.names p) d.script.texts p) (after_enter d p) p e.0 e.1 e.2 in
    subst (λ (m : ℕ). Few m (fold after_add (after_add d p) ps)) (omega arith) (few_on (suc n) (after_add d p) ps one)

few_start : Few 0 empty_draft
few_start = record { procs = omega arith; natives = omega arith; threads = omega arith; mons = omega arith; conds = omega arith }

few_lines : (lines : List Phrase) → Few (length lines) (draft_of lines)
few_lines lines = subst (λ (m : ℕ). Few m (draft_of lines)) (omega arith) (few_on 0 empty_draft lines few_start)

-- ---- The greatest priority.

abbrev Ranks : ℕ → Type 0
Ranks m = (1 ≤ m) × (m ≤ 255)

-- after the line of the pod the priority is within its limits, and before it there is no procedure
abbrev Ranked : Stage → ℕ → ℕ → Type 0
Ranked stages.Start m held = held ≡ 0
Ranked stages.Header m held = held ≡ 0
Ranked stages.Pod m held = Ranks m
Ranked stages.Clients m held = Ranks m
Ranked stages.Natives m held = Ranks m
Ranked stages.Proc m held = Ranks m
Ranked stages.Calling m held = Ranks m
Ranked stages.Skipping m held = Ranks m
Ranked stages.Ended m held = Ranks m
Ranked stages.Posts m held = Ranks m

ranked_some : (s : Stage) (m held : ℕ) → 0 < held → Ranked s m held → Ranks m
ranked_some stages.Start m held some h = absurd (omega (arith, h))
ranked_some stages.Header m held some h = absurd (omega (arith, h))
ranked_some stages.Pod m held some h = h
ranked_some stages.Clients m held some h = h
ranked_some stages.Natives m held some h = h
ranked_some stages.Proc m held some h = h
ranked_some stages.Calling m held some h = h
ranked_some stages.Skipping m held some h = h
ranked_some stages.Ended m held some h = h
ranked_some stages.Posts m held some h = h

-- whether a line of this role comes after that of the pod
abbrev comes_late : Role → Bool
comes_late role.Header = false
comes_late role.Pod = false
comes_late role.Limit = true
comes_late role.Client = true
comes_late role.Native = true
comes_late role.Proc = true
comes_late role.Post = true
comes_late role.Statement = true
comes_late role.Skip = true
comes_late role.Again = true

behind_pod : (s : Stage) (r : Role) (m held : ℕ) → comes_late r ≡ true → follows s r ≡ true → Ranked s m held → Ranks m
behind_pod stages.Start r m held l f h = elim r as (λ x. comes_late x ≡ true → follows stages.Start x ≡ true → Ranks m)
    [ role.Header ↦ λ i j. absurd cc | role.Pod ↦ λ i j. absurd cc | _ ↦ λ i j. absurd cc ] l f
behind_pod stages.Header r m held l f h = elim r as (λ x. comes_late x ≡ true → follows stages.Header x ≡ true → Ranks m)
    [ role.Header ↦ λ i j. absurd cc | role.Pod ↦ λ i j. absurd cc | _ ↦ λ i j. absurd cc ] l f
behind_pod stages.Pod r m held l f h = h
behind_pod stages.Clients r m held l f h = h
behind_pod stages.Natives r m held l f h = h
behind_pod stages.Proc r m held l f h = h
behind_pod stages.Calling r m held l f h = h
behind_pod stages.Skipping r m held l f h = h
behind_pod stages.Ended r m held l f h = h
behind_pod stages.Posts r m held l f h = h

-- a line after that of the pod keeps the priority within its limits
late_ranked : (s : Stage) (r : Role) (m held : ℕ) → comes_late r ≡ true → Ranks m → follows s r ≡ true → Ranked (stage_after s r) m held
late_ranked s role.Header m held l h f = absurd cc
late_ranked s role.Pod m held l h f = absurd cc
late_ranked s role.Limit m held l h f = h
late_ranked s role.Client m held l h f = h
late_ranked s role.Native m held l h f = h
late_ranked s role.Proc m held l h f = h
late_ranked s role.Post m held l h f = h
late_ranked s role.Statement m held l h f = by_stage s f
  where
    by_stage : (s : Stage) → follows s role.Statement ≡ true → Ranked (stage_behind_first stages.Calling s) m held
    by_stage stages.Start f = absurd cc
    by_stage stages.Header f = absurd cc
    by_stage stages.Pod f = absurd cc
    by_stage stages.Clients f = absurd cc
    by_stage stages.Natives f = absurd cc
    by_stage stages.Proc f = h
    by_stage stages.Calling f = h
    by_stage stages.Skipping f = h
    by_stage stages.Ended f = absurd cc
    by_stage stages.Posts f = absurd cc
late_ranked s role.Skip m held l h f = by_stage s f
  where
    by_stage : (s : Stage) → follows s role.Skip ≡ true → Ranked (stage_behind_first stages.Skipping s) m held
    by_stage stages.Start f = absurd cc
    by_stage stages.Header f = absurd cc
    by_stage stages.Pod f = absurd cc
    by_stage stages.Clients f = absurd cc
    by_stage stages.Natives f = absurd cc
    by_stage stages.Proc f = h
    by_stage stages.Calling f = h
    by_stage stages.Skipping f = h
    by_stage stages.Ended f = absurd cc
    by_stage stages.Posts f = absurd cc
late_ranked s role.Again m held l h f = h

header_first : (s : Stage) (m held : ℕ) → follows s role.Header ≡ true → Ranked s m held → held ≡ 0
header_first stages.Start m held f h = h
header_first stages.Header m held f h = absurd cc
header_first stages.Pod m held f h = absurd cc
header_first stages.Clients m held f h = absurd cc
header_first stages.Natives m held f h = absurd cc
header_first stages.Proc m held f h = absurd cc
header_first stages.Calling m held f h = absurd cc
header_first stages.Skipping m held f h = absurd cc
header_first stages.Ended m held f h = absurd cc
header_first stages.Posts m held f h = absurd cc

-- only a line of the pod sets the priority
priority_kept : (r : Role) (at : Places) (d : Draft) (p : Phrase) → comes_late r ≡ true → (after_add_at r at d p).script.maxpri ≡ d.script.maxpri
priority_kept role.Header at d p l = absurd cc
priority_kept role.Pod at d p l = absurd cc
priority_kept role.Limit at d p l = refl
priority_kept role.Client at d p l = refl
priority_kept role.Native at d p l = refl
priority_kept role.Proc at d p l = refl
priority_kept role.Post at d p l = refl
priority_kept role.Statement at d p l = refl
priority_kept role.Skip at d p l = refl
priority_kept role.Again at d p l = refl

-- one more line that may stand
ranked_more : (r : Role) (s : Stage) (known : Declared) (posted : List ℕ) (at : Places) (d : Draft) (p : Phrase)
    → (follows s r && keeps_rule known posted r p) ≡ true → Ranked s d.script.maxpri (procs_in d)
    → Ranked (stage_after s r) (after_add_at r at d p).script.maxpri (procs_in (after_add_at r at d p))
ranked_more role.Header s known posted at d p t h =
    header_first s d.script.maxpri (procs_in d) (both (follows s role.Header) (keeps_rule known posted role.Header p) t).0 h
ranked_more role.Pod s known posted at d p t h =
    let u = both (leb 1 p.number) (leb p.number 255) (both (follows s role.Pod) (keeps_rule known posted role.Pod p) t).1 in
    (leb-true 1 p.number u.0, leb-true p.number 255 u.1)
ranked_more role.Limit s known posted at d p t h =
    let f = (both (follows s role.Limit) (keeps_rule known posted role.Limit p) t).0 in
    late_ranked s role.Limit d.script.maxpri (procs_in (after_add_at role.Limit at d p)) refl (behind_pod s role.Limit d.script.maxpri (procs_in d) refl f h) f
ranked_more role.Client s known posted at d p t h =
    let f = (both (follows s role.Client) (keeps_rule known posted role.Client p) t).0 in
    late_ranked s role.Client d.script.maxpri (procs_in (after_add_at role.Client at d p)) refl
    (behind_pod s role.Client d.script.maxpri (procs_in d) refl f h) f
ranked_more role.Native s known posted at d p t h =
    let f = (both (follows s role.Native) (keeps_rule known posted role.Native p) t).0 in
    late_ranked s role.Native d.script.maxpri (procs_in (after_add_at role.Native at d p)) refl
    (behind_pod s role.Native d.script.maxpri (procs_in d) refl f h) f
ranked_more role.Proc s known posted at d p t h =
    let f = (both (follows s role.Proc) (keeps_rule known posted role.Proc p) t).0 in
    late_ranked s role.Proc d.script.maxpri (procs_in (after_add_at role.Proc at d p)) refl (behind_pod s role.Proc d.script.maxpri (procs_in d) refl f h) f
ranked_more role.Post s known posted at d p t h =
    let f = (both (follows s role.Post) (keeps_rule known posted role.Post p) t).0 in
    late_ranked s role.Post d.script.maxpri (procs_in (after_add_at role.Post at d p)) refl (behind_pod s role.Post d.script.maxpri (procs_in d) refl f h) f
ranked_more role.Statement s known posted at d p t h =
    let f = (both (follows s role.Statement) (keeps_rule known posted role.Statement p) t).0 in
    late_ranked s role.Statement d.script.maxpri (procs_in (after_add_at role.Statement at d p)) refl
    (behind_pod s role.Statement d.script.maxpri (procs_in d) refl f h) f
ranked_more role.Skip s known posted at d p t h =
    let f = (both (follows s role.Skip) (keeps_rule known posted role.Skip p) t).0 in
    late_ranked s role.Skip d.script.maxpri (procs_in (after_add_at role.Skip at d p)) refl (behind_pod s role.Skip d.script.maxpri (procs_in d) refl f h) f
ranked_more role.Again s known posted at d p t h =
    let f = (both (follows s role.Again) (keeps_rule known posted role.Again p) t).0 in
    late_ranked s role.Again d.script.maxpri (procs_in (after_add_at role.Again at d p)) refl (behind_pod s role.Again d.script.maxpri (procs_in d) refl f h) f

-- a draft's ranks after these lines
abbrev AreRanked : List Phrase → Type 0
AreRanked lines = Ranked (stage_of lines) (draft_of lines).script.maxpri (procs_in (draft_of lines))

ranked_push : (before : List Phrase) (p : Phrase) → may_stand before p ≡ true → AreRanked before → AreRanked (before ++ p ∷ [])
ranked_push before p s h =
    let d = draft_of before in
    let more = ranked_more (role_of p.op) (stage_of before) (declared_of before) (posted_of before)
    (places_of (after_name d.script.names p) d.script.texts p) (after_enter d p) p s h in
    rw (stage_push before p, fold_push after_add empty_draft before p) more

ranked_on : (before ps : List Phrase) → AllStand before ps → AreRanked before → AreRanked (before ++ ps)
ranked_on before [] s h = subst AreRanked (sym (append-nil before)) h
ranked_on before (p ∷ ps) s h = subst AreRanked (append_assoc before (p ∷ []) ps) (ranked_on (before ++ p ∷ []) ps s.1 (ranked_push before p s.0 h))

-- ---- The limit on births.

-- a pod takes this limit
abbrev Bears : Draft → Type 0
Bears d = (1 ≤ d.script.births) × (d.script.births < 2 ^ 32)

-- the number of a limit is one of 32 bits
limit_fits : (o : Op) (p : Phrase) → role_of o ≡ role.Limit → AllByRecursion (SlotFits p) (slots_of o) → p.number < 2 ^ 32
unfolding row_of
limit_fits o p e h = (subst (λ x. AllByRecursion (SlotFits p) (slots_of x)) (only_of_role role.Limit op.Limit refl o e) h).0

bears_more : (r : Role) (known : Declared) (posted : List ℕ) (at : Places) (d : Draft) (p : Phrase) → role_of p.op ≡ r
    → keeps_rule known posted r p ≡ true → IsPhrase p → Bears d → Bears (after_add_at r at d p)
bears_more role.Header known posted at d p e k f h = h
bears_more role.Pod known posted at d p e k f h = h
bears_more role.Limit known posted at d p e k f h = (leb-true 1 p.number k, limit_fits p.op p e f)
bears_more role.Client known posted at d p e k f h = h
bears_more role.Native known posted at d p e k f h = h
bears_more role.Proc known posted at d p e k f h = h
bears_more role.Post known posted at d p e k f h = h
bears_more role.Statement known posted at d p e k f h = h
bears_more role.Skip known posted at d p e k f h = h
bears_more role.Again known posted at d p e k f h = h

bears_on : (before ps : List Phrase) → AllStand before ps → AllByRecursion IsLine ps → Bears (draft_of before) → Bears (draft_of (before ++ ps))
bears_on before [] s l h = subst (λ (x : List Phrase). Bears (draft_of x)) (sym (append-nil before)) h
bears_on before (p ∷ ps) s l h =
    let r = role_of p.op in
    let d = draft_of before in
    let k = (both (follows (stage_of before) r) (keeps_rule (declared_of before) (posted_of before) r p) s.0).1 in
    let one = bears_more r (declared_of before) (posted_of before) (places_of (after_name d.script.names p) d.script.texts p)
    (after_enter d p) p refl k l.0.0 h in
    let more : Bears (draft_of (before ++ p ∷ [])) = rw (fold_push after_add empty_draft before p) one in
    subst (λ (x : List Phrase). Bears (draft_of x)) (append_assoc before (p ∷ []) ps) (bears_on (before ++ p ∷ []) ps s.1 l.1 more)

-- ---- A script.

lines_within : (text : List ℕ) (s : Script) (lines : List Phrase) → SpelledBy text s lines → IsWithinLimits (script_of lines)
lines_within text s lines h =
    let d = draft_of lines in
    let few = few_lines lines in
    let procs = length-append d.script.procs (option_to_list d.current) in
    let ranks = ranked_some (stage_of lines) d.script.maxpri (procs_in d) (omega (arith, h.some, procs)) (ranked_on [] lines h.stand refl) in
    let same : length text ≡ length (spelling lines) = ap length h.text_is in
    let bears = bears_on [] lines h.stand h.are_lines (omega arith, omega arith) in
    let short : length lines ≤ 16777216 = omega (arith, h.short, same, lines_short lines) in
    record {
      least_priority = ranks.0;
      most_priority = ranks.1;
      least_births = bears.0;
      most_births = bears.1;
      some_procs = omega (arith, h.some);
      few_procs = omega (arith, procs, few.procs, few.natives, short);
      few_threads = omega (arith, few.threads, short);
      few_mons = omega (arith, few.mons, short);
      few_conds = omega (arith, few.conds, short);
    }

-- ---- Answers.

within_limits : (text : List ℕ) (s : Script) → Spells text s → IsWithinLimits s
within_limits text s h = subst IsWithinLimits (sym h.1.script_is) (lines_within text s h.0 h.1)

pub within_by : (text : List ℕ) (r : Result Script ReadErr) → IfOk r (λ s. Spells text s) → IfOk r IsWithinLimits
within_by text (Err e) h = tt
within_by text (Ok s) h = within_limits text s h
