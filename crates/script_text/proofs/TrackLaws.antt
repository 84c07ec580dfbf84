-- What a reader knows fits the lines that it has taken.
use Rattle.std.proofs.Common.{◌≡◌, ℕ, suc, ◌+◌, ◌<◌, ◌≤◌, true, false, not, ◌&&◌, ◌||◌, cond, List, [], ◌∷◌, ◌++◌}
use Rattle.std.proofs.Common.{length, fold, Option, Some, None, refl, sym, ap, ◌∙◌, arith, length-append}
use Rattle.std.specs.List.{AllByRecursion}
use Rattle.std.specs.Str.{bytes_eq}
use Rattle.std.proofs.lemmas.List.{get_or_append_left}
use Rattle.std.proofs.lemmas.Slice.Eq.{bytes_eq-Decides}
use Rattle.script_lines.specs.declared.table.Role.{Role}
use Rattle.script_lines.specs.declared.table.Role.TheVariants as role
use Rattle.script_lines.specs.Phrase.{Phrase}
use Rattle.script_text.specs.declared.reader.Declared.{Declared}
use Rattle.script_text.specs.declared.draft.Places.{Places}
use Rattle.script_text.specs.declared.stage.Stage.{Stage}
use Rattle.script_text.specs.declared.stage.Stage.TheVariants as stages
use Rattle.script_text.specs.declared.draft.Draft.{Draft}
use Rattle.script_text.specs.declared.reader.Mention.{Mention}
use Rattle.script_lines.specs.Words.{is_name}
use Rattle.script_lines.proofs.WordLemmas.{name_is_text}
use Rattle.script_lines.proofs.PhraseLaws.{start_is_named}
use Rattle.script_lines.specs.Table.{role_of, starts, starts_any}
use Rattle.script_lines.specs.Line.{IsPhrase}
use Rattle.script_text.specs.Grammar.{stage_after, stage_of, declares, declared_of, nothing, has, is_declared}
use Rattle.script_text.specs.Meaning.{contains_name, is_some_text, place, place_of, places_of, after_name, enter}
use Rattle.script_text.specs.Meaning.{after_add_at, after_add, after_enter, empty_draft, draft_of}
use Rattle.script_text.specs.Track.{name_at, mention_of, first_missing}

-- ---- One more of a list.

pub fold_push : {A B : Type 0} (f : B → A → B) (b : B) (xs : List A) (x : A) → fold f b (xs ++ x ∷ []) ≡ f (fold f b xs) x
fold_push f b [] x = refl
fold_push f b (y ∷ ys) x = fold_push f (f b y) ys x

pub all_push : {A : Type 0} (P : A → Type 0) (xs ys : List A) → AllByRecursion P xs → AllByRecursion P ys → AllByRecursion P (xs ++ ys)
all_push P [] ys h k = k
all_push P (x ∷ xs) ys h k = (h.0, all_push P xs ys h.1 k)

pub stage_push : (ps : List Phrase) (p : Phrase) → stage_of (ps ++ p ∷ []) ≡ stage_after (stage_of ps) (role_of p.op)
stage_push ps p = fold_push (λ (s : Stage) (q : Phrase). stage_after s (role_of q.op)) stages.Start ps p

-- ---- Names keep their numbers.

-- a name is a text that isn't empty
name_is_some : (w : List ℕ) → is_name w ≡ true → is_some_text w ≡ true
name_is_some [] h = absurd cc
name_is_some (b ∷ bs) h = name_is_text (b ∷ bs) h

-- the number of a name is its place
pub name_place : (names : List (List ℕ)) (w : List ℕ) → is_name w ≡ true → place_of names w ≡ place names w
name_place names [] h = absurd cc
name_place names (b ∷ bs) h = refl

-- what is entered stands in the list
pub entered_there : (names : List (List ℕ)) (w : List ℕ) → is_name w ≡ true → contains_name (enter names w) w ≡ true
entered_there names w h = rw (name_is_some w h)
    (elim (contains_name names w) as (λ v. contains_name names w ≡ v → contains_name (cond (true && not v) (names ++ w ∷ []) names) w ≡ true) [
      | true ↦ λ e. e
      | false ↦ λ e. at_end names w
    ] refl)
  where
    at_end : (names : List (List ℕ)) (w : List ℕ) → contains_name (names ++ w ∷ []) w ≡ true
    at_end [] w = rw ((bytes_eq-Decides w w).1 refl) refl
    at_end (n ∷ ns) w = elim (bytes_eq n w) as (λ v. (v || contains_name (ns ++ w ∷ []) w) ≡ true) [ true ↦ refl | false ↦ at_end ns w ]

-- at its number stands the name
pub place_there : (names : List (List ℕ)) (w : List ℕ) → contains_name names w ≡ true → (place names w < length names) × (name_at names (place names w) ≡ w)
place_there [] w h = absurd cc
place_there (n ∷ ns) w h = elim (bytes_eq n w) as
    (λ v. bytes_eq n w ≡ v → (v || contains_name ns w) ≡ true
    → (cond v 0 (suc (place ns w)) < length (n ∷ ns)) × (name_at (n ∷ ns) (cond v 0 (suc (place ns w))) ≡ w)) [
      | true ↦ λ e f. (omega arith, (bytes_eq-Decides n w).0 e)
      | false ↦ λ e f. let t = place_there ns w f in (omega (arith, t.0), t.1)
    ] refl h

-- a new name moves none
pub name_stays : (names : List (List ℕ)) (w : List ℕ) (k : ℕ) → k < length names → name_at (enter names w) k ≡ name_at names k
name_stays names w k lt = elim (is_some_text w && not (contains_name names w)) as (λ v. name_at (cond v (names ++ w ∷ []) names) k ≡ name_at names k) [
  | true ↦ get_or_append_left names (w ∷ []) [] k lt
  | false ↦ refl
]

pub few_names : (names : List (List ℕ)) (w : List ℕ) → length names ≤ length (enter names w)
few_names names w = elim (is_some_text w && not (contains_name names w)) as (λ v. length names ≤ length (cond v (names ++ w ∷ []) names)) [
  | true ↦ omega (arith, length-append names (w ∷ []))
  | false ↦ omega arith
]

-- ---- Mentions.

-- the numbers of mentions are those of names
abbrev pub AreNamed : List (List ℕ) → List Mention → Type 0
AreNamed names ms = AllByRecursion (λ m. m.name < length names) ms

named_still : (names : List (List ℕ)) (w : List ℕ) (ms : List Mention) → AreNamed names ms → AreNamed (enter names w) ms
named_still names w [] h = tt
named_still names w (m ∷ ms) h = (omega (arith, h.0, few_names names w), named_still names w ms h.1)

missing_still : (d : Declared) (names : List (List ℕ)) (w : List ℕ) (ms : List Mention) → AreNamed names ms
    → first_missing d (enter names w) ms ≡ first_missing d names ms
missing_still d names w [] h = refl
missing_still d names w (m ∷ ms) h = rw (name_stays names w m.name h.0, missing_still d names w ms h.1) refl

-- the first answer, if there is one, and else the second
abbrev pub or_else : Option ℕ → Option ℕ → Option ℕ
or_else None o = o
or_else (Some k) o = Some k

missing_push : (d : Declared) (names : List (List ℕ)) (ms ns : List Mention)
    → first_missing d names (ms ++ ns) ≡ or_else (first_missing d names ms) (first_missing d names ns)
missing_push d names [] ns = refl
missing_push d names (m ∷ ms) ns = elim (has d m.any (name_at names m.name)) as
    (λ v. cond v (first_missing d names (ms ++ ns)) (Some m.line) ≡ or_else (cond v (first_missing d names ms) (Some m.line)) (first_missing d names ns)) [
      | true ↦ missing_push d names ms ns
      | false ↦ refl
    ]

-- the number of the first line that starts an undeclared procedure
abbrev pub first_undeclared : Declared → ℕ → List Phrase → Option ℕ
first_undeclared d k [] = None
first_undeclared d k (p ∷ ps) = cond (is_declared d p) (first_undeclared d (suc k) ps) (Some k)

pub undeclared_push : (d : Declared) (k : ℕ) (ps : List Phrase) (q : Phrase)
    → first_undeclared d k (ps ++ q ∷ []) ≡ or_else (first_undeclared d k ps) (cond (is_declared d q) None (Some (k + length ps)))
undeclared_push d k [] q = ap (λ (n : ℕ). cond (is_declared d q) None (Some n)) (omega arith)
undeclared_push d k (p ∷ ps) q = elim (is_declared d p) as
    (λ v. cond v (first_undeclared d (suc k) (ps ++ q ∷ [])) (Some k)
    ≡ or_else (cond v (first_undeclared d (suc k) ps) (Some k)) (cond (is_declared d q) None (Some (k + suc (length ps))))) [
      | true ↦ undeclared_push d (suc k) ps q ∙ ap (λ (n : ℕ). or_else (first_undeclared d (suc k) ps) (cond (is_declared d q) None (Some n))) (omega arith)
      | false ↦ refl
    ]

-- the mention of one line
mention_tells : (d : Declared) (names : List (List ℕ)) (k : ℕ) (p : Phrase) → IsPhrase p
    → AreNamed (enter names p.procedure) (mention_of k (enter names p.procedure) p)
    × (first_missing d (enter names p.procedure) (mention_of k (enter names p.procedure) p) ≡ cond (is_declared d p) None (Some k))
mention_tells d names k p h =
    elim (starts p.op) as (λ v. starts p.op ≡ v
    → AreNamed (enter names p.procedure) (cond v (record { line = k; name = place_of (enter names p.procedure) p.procedure; any = starts_any p.op } ∷ []) [])
    × (first_missing d (enter names p.procedure)
    (cond v (record { line = k; name = place_of (enter names p.procedure) p.procedure; any = starts_any p.op } ∷ []) [])
    ≡ cond (cond v (has d (starts_any p.op) p.procedure) true) None (Some k))) [
      | true ↦ λ e.
          let is = start_is_named p h e in
          let there = place_there (enter names p.procedure) p.procedure (entered_there names p.procedure is) in
          rw (name_place (enter names p.procedure) p.procedure is) ((there.0, tt), rw there.1 refl)
      | false ↦ λ e. (tt, refl)
    ] refl

-- ---- A reader.

-- one more phrase declares what it does
pub declared_push : (ps : List Phrase) (p : Phrase) → declared_of (ps ++ p ∷ []) ≡ declares (role_of p.op) (declared_of ps) p
declared_push ps p = fold_push (λ (d : Declared) (q : Phrase). declares (role_of q.op) d q) nothing ps p

-- a reader that has found no bad line knows this of the lines
pub record Tracks (count : ℕ) (stage : Stage) (declared : Declared) (mentions : List Mention) (draft : Draft) (before : List Phrase) : Type 0 where
  pub count_is : count ≡ length before
  pub stage_is : stage ≡ stage_of before
  pub declared_is : declared ≡ declared_of before
  pub draft_is : draft ≡ draft_of before
  pub are_named : AreNamed draft.script.names.procs mentions
  pub mentions_tell : (d : Declared) → first_missing d draft.script.names.procs mentions ≡ first_undeclared d 1 before

procs_after : (d : Draft) (p : Phrase) → (after_add d p).script.names.procs ≡ enter d.script.names.procs p.procedure
procs_after d p = by_role (role_of p.op) (places_of (after_name d.script.names p) d.script.texts p) (after_enter d p) p
  where
    by_role : (r : Role) (at : Places) (d : Draft) (p : Phrase) → (after_add_at r at d p).script.names.procs ≡ d.script.names.procs
    by_role role.Header at d p = refl
    by_role role.Pod at d p = refl
    by_role role.Limit at d p = refl
    by_role role.Client at d p = refl
    by_role role.Native at d p = refl
    by_role role.Proc at d p = refl
    by_role role.Post at d p = refl
    by_role role.Statement at d p = refl
    by_role role.Skip at d p = refl
    by_role role.Again at d p = refl

-- one more line
pub tracks_more : (count : ℕ) (stage : Stage) (declared : Declared) (mentions : List Mention) (draft : Draft) (before : List Phrase) (p : Phrase)
    → Tracks count stage declared mentions draft before → IsPhrase p
    → Tracks (count + 1) (stage_after stage (role_of p.op)) (declares (role_of p.op) declared p)
    (mentions ++ mention_of (count + 1) (after_add draft p).script.names.procs p) (after_add draft p) (before ++ p ∷ [])
tracks_more count stage declared mentions draft before p k h =
    let names = draft.script.names.procs in
    let grown = enter names p.procedure in
    let same : (after_add draft p).script.names.procs ≡ grown = procs_after draft p in
    let line : count + 1 ≡ 1 + length before = omega (arith, k.count_is) in
    record {
      count_is = omega (arith, k.count_is, length-append before (p ∷ []));
      stage_is = ap (λ (s : Stage). stage_after s (role_of p.op)) k.stage_is ∙ sym (stage_push before p);
      declared_is = ap (λ (d : Declared). declares (role_of p.op) d p) k.declared_is ∙ sym (declared_push before p);
      draft_is = ap (λ (d : Draft). after_add d p) k.draft_is ∙ sym (fold_push after_add empty_draft before p);
      are_named = rw same (all_push _ mentions (mention_of (count + 1) grown p) (named_still names p.procedure mentions k.are_named)
          (mention_tells nothing names (count + 1) p h).0);
      mentions_tell = λ d. rw same (missing_push d grown mentions (mention_of (count + 1) grown p)
          ∙ rw (missing_still d names p.procedure mentions k.are_named, k.mentions_tell d, (mention_tells d names (count + 1) p h).1)
          (ap (λ (n : ℕ). or_else (first_undeclared d 1 before) (cond (is_declared d p) None (Some n))) line ∙ sym (undeclared_push d 1 before p)));
    }
