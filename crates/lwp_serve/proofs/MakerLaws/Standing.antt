-- Where the lines of a script may stand, told by the lines before them.
use Rattle.std.proofs.Common.{◌≡◌, ℕ, Bool, true, ◌&&◌, List, [], ◌∷◌, ◌++◌, fold, Option, Some, None, refl, sym, ap, subst, ◌∙◌}
use Rattle.std.specs.Prelude.{is_some}
use Rattle.std.proofs.lemmas.List.Sums.{fold-append}
use Rattle.script_text.specs.declared.draft.Draft.{Draft}
use Rattle.script_text.specs.declared.draft.Places.{Places}
use Rattle.script_text.specs.declared.reader.Declared.{Declared}
use Rattle.script_text.specs.declared.stage.Stage.{Stage}
use Rattle.script_text.specs.declared.stage.Stage.TheVariants as stages
use Rattle.script_text.specs.declared.script.Proc.{Proc}
use Rattle.script_text.specs.declared.script.Stmt.{Stmt}
use Rattle.script_lines.specs.declared.table.Role.{Role}
use Rattle.script_lines.specs.declared.table.Role.TheVariants as role
use Rattle.script_lines.specs.Phrase.{Phrase}
use Rattle.script_lines.specs.Table.{role_of}
use Rattle.script_text.specs.Grammar.{stage_after, stage_of, declares, declared_of, nothing, posted_of, may_stand_at, AllStand}
use Rattle.script_text.specs.Meaning.{after_raise, with_statement, statement_of, after_name, places_of}
use Rattle.script_text.specs.Meaning.{after_add_at, after_add, after_enter, empty_draft, draft_of}
use Rattle.lwp_serve.proofs.MakerLaws.Gathered.{both}

-- what the lines before one come to, as far as a line's rules look at it
pub record Place : Type 0 where
  pub stage : Stage
  pub known : Declared
  pub posted : List ℕ

-- how many lines each client has posted, one line later
abbrev pub counted : Role → ℕ → List ℕ → List ℕ
counted role.Client c posted = posted ++ 0 ∷ []
counted role.Post c posted = after_raise c posted
counted role.Header c posted = posted
counted role.Pod c posted = posted
counted role.Limit c posted = posted
counted role.Native c posted = posted
counted role.Proc c posted = posted
counted role.Statement c posted = posted
counted role.Skip c posted = posted
counted role.Again c posted = posted

-- the place one line later
abbrev pub moved : Place → Phrase → Place
moved s p = record { stage = stage_after s.stage (role_of p.op); known = declares (role_of p.op) s.known p; posted = counted (role_of p.op) p.client s.posted }

-- the place at the beginning
abbrev pub start : Place
start = record { stage = stages.Start; known = nothing; posted = [] }

-- each line may stand, from this place on
abbrev pub stands : Place → List Phrase → Bool
stands s [] = true
stands s (p ∷ ps) = may_stand_at s.stage s.known s.posted p && stands (moved s p) ps

pub stands_append : (s : Place) (ps qs : List Phrase) → stands s ps ≡ true → stands (fold moved s ps) qs ≡ true → stands s (ps ++ qs) ≡ true
stands_append s [] qs h k = k
stands_append s (p ∷ ps) qs h k =
    let t = both (may_stand_at s.stage s.known s.posted p) (stands (moved s p) ps) h in
    rw (t.0, stands_append (moved s p) ps qs t.1 k) refl

abbrev place_of : List Phrase → Place
place_of ps = record { stage = stage_of ps; known = declared_of ps; posted = posted_of ps }

counted_at : (r : Role) (at : Places) (d : Draft) (p : Phrase) → (after_add_at r at d p).posted ≡ counted r p.client d.posted
counted_at role.Client at d p = refl
counted_at role.Post at d p = refl
counted_at role.Header at d p = refl
counted_at role.Pod at d p = refl
counted_at role.Limit at d p = refl
counted_at role.Native at d p = refl
counted_at role.Proc at d p = refl
counted_at role.Statement at d p = refl
counted_at role.Skip at d p = refl
counted_at role.Again at d p = refl

place_push : (ps : List Phrase) (p : Phrase) → place_of (ps ++ p ∷ []) ≡ moved (place_of ps) p
place_push ps p =
    let s : stage_of (ps ++ p ∷ [])
    ≡ stage_after (stage_of ps) (role_of p.op) = fold-append (λ (s : Stage) (q : Phrase). stage_after s (role_of q.op)) stages.Start ps (p ∷ []) in
    let k : declared_of (ps ++ p ∷ [])
    ≡ declares (role_of p.op) (declared_of ps) p = fold-append (λ (d : Declared) (q : Phrase). declares (role_of q.op) d q) nothing ps (p ∷ []) in
    let d : draft_of (ps ++ p ∷ []) ≡ after_add (draft_of ps) p = fold-append after_add empty_draft ps (p ∷ []) in
    let n : posted_of (ps ++ p ∷ []) ≡ counted (role_of p.op) p.client (posted_of ps) =
    ap (λ (x : Draft). x.posted) d
    ∙ counted_at (role_of p.op) (places_of (after_name (draft_of ps).script.names p) (draft_of ps).script.texts p) (after_enter (draft_of ps) p) p in
    rw (s, k, n) refl

all_stand_behind : (before ps : List Phrase) (s : Place) → place_of before ≡ s → stands s ps ≡ true → AllStand before ps
all_stand_behind before [] s e h = tt
all_stand_behind before (p ∷ ps) s e h =
    let t = both (may_stand_at s.stage s.known s.posted p) (stands (moved s p) ps) h in (
      subst (λ (x : Place). may_stand_at x.stage x.known x.posted p ≡ true) (sym e) t.0,
      all_stand_behind (before ++ p ∷ []) ps (moved s p) (place_push before p ∙ ap (λ (x : Place). moved x p) e) t.1,
    )

-- each line of a script may stand
pub all_stand : (ps : List Phrase) → stands start ps ≡ true → AllStand [] ps
all_stand ps h = all_stand_behind [] ps start refl h

known_behind : (s : Place) (ps : List Phrase) → (fold moved s ps).known ≡ fold (λ (d : Declared) (p : Phrase). declares (role_of p.op) d p) s.known ps
known_behind s [] = refl
known_behind s (p ∷ ps) = known_behind (moved s p) ps

-- the place after lines knows what they declare
pub known_is : (ps : List Phrase) → declared_of ps ≡ (fold moved start ps).known
known_is ps = sym (known_behind start ps)

-- ---- A procedure that has begun is there at the end.

grown_some : (s : Option Stmt) (o : Option Proc) → is_some o ≡ true → is_some (with_statement s o) ≡ true
grown_some None o h = h
grown_some (Some s) None h = absurd cc
grown_some (Some s) (Some p) h = refl

some_at : (r : Role) (at : Places) (d : Draft) (p : Phrase) → is_some d.current ≡ true → is_some (after_add_at r at d p).current ≡ true
some_at role.Client at d p h = h
some_at role.Post at d p h = h
some_at role.Header at d p h = h
some_at role.Pod at d p h = h
some_at role.Limit at d p h = h
some_at role.Native at d p h = h
some_at role.Proc at d p h = refl
some_at role.Statement at d p h = grown_some (statement_of p.op at p) d.current h
some_at role.Skip at d p h = grown_some (statement_of p.op at p) d.current h
some_at role.Again at d p h = grown_some (statement_of p.op at p) d.current h

pub some_behind : (d : Draft) (ps : List Phrase) → is_some d.current ≡ true → is_some (fold after_add d ps).current ≡ true
some_behind d [] h = h
some_behind d (p ∷ ps) h =
    some_behind (after_add d p) ps (some_at (role_of p.op) (places_of (after_name d.script.names p) d.script.texts p) (after_enter d p) p h)
