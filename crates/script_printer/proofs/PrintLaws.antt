-- The printed text of a script spells it.
use Rattle.std.proofs.Common.{◌≡◌, ℕ, zero, suc, ◌+◌, ◌<◌, ◌≤◌, Bool, true, false, cond, eqb, List, [], ◌∷◌, ◌++◌, length, map, fold}
use Rattle.std.proofs.Common.{Option, Some, None, refl, sym, ap, subst, ◌∙◌, arith, inl, inr, append_assoc, length-append}
use Rattle.std.specs.Prelude.{◌⊎◌, is_some, option_to_list}
use Rattle.std.specs.List.{flat_map, AllByRecursion}
use Rattle.std.proofs.lemmas.Bool.{eqb-true}
use Rattle.std.proofs.lemmas.List.{append-nil}
use Rattle.script_lines.specs.declared.table.Op.{Op}
use Rattle.script_lines.specs.declared.table.Op.TheVariants as op
use Rattle.script_lines.specs.declared.table.Role.{Role}
use Rattle.script_lines.specs.declared.table.Role.TheVariants as role
use Rattle.script_text.specs.declared.stage.Stage.{Stage}
use Rattle.script_text.specs.declared.stage.Stage.TheVariants as stages
use Rattle.script_text.specs.declared.draft.Draft.{Draft}
use Rattle.script_text.specs.declared.draft.Places.{Places}
use Rattle.script_text.specs.declared.reader.Declared.{Declared}
use Rattle.script_text.specs.declared.script.Names.{Names}
use Rattle.script_text.specs.declared.script.Proc.{Proc}
use Rattle.script_text.specs.declared.script.Script.{Script}
use Rattle.script_text.specs.declared.script.Stmt.{Stmt}
use Rattle.script_lines.specs.Phrase.{Phrase}
use Rattle.script_lines.proofs.TableLaws.{only_of_role}
use Rattle.script_lines.specs.Table.{row_of, role_of, slots_of}
use Rattle.script_lines.specs.Line.{phrase_text, IsLine, blank, copy_slots, with_newline}
use Rattle.script_text.specs.Grammar.{stage_behind_first, stage_after, stage_of, follows, declares, declared_of, nothing}
use Rattle.script_text.specs.Grammar.{keeps_rule, may_stand_at, AllStand, spelling, SpelledBy, Spells}
use Rattle.script_text.specs.Meaning.{after_name, places_of, statement_of, with_statement, after_raise, after_push, after_enter}
use Rattle.script_text.specs.Meaning.{after_add_at, after_add, empty_draft, draft_of, script_of, with_last_procedure}
use Rattle.script_printer.specs.Building.{number_line}
use Rattle.script_printer.specs.Printing.{stmt_line, limit_lines, client_line, client_lines, native_line}
use Rattle.script_printer.specs.Printing.{proc_lines, post_line, body_lines, lines_of, text_of_script}
use Rattle.script_lines.proofs.WordLemmas.{both}
use Rattle.script_text.proofs.TrackLaws.{fold_push, stage_push, declared_push}
use Rattle.script_printer.proofs.BackLaws.{Later, later_all, later_entered, later_step, backs, SaidBy, said}

-- ---- One more of a list.

map_push : {A B : Type 0} (f : A → B) (xs : List A) (x : A) → map f (xs ++ x ∷ []) ≡ map f xs ++ f x ∷ []
map_push f [] x = refl
map_push f (y ∷ ys) x = ap (λ l. f y ∷ l) (map_push f ys x)

flat_push : {A B : Type 0} (f : A → List B) (xs : List A) (x : A) → flat_map f (xs ++ x ∷ []) ≡ flat_map f xs ++ f x
flat_push f [] x = append-nil (f x)
flat_push f (y ∷ ys) x = ap (λ l. f y ++ l) (flat_push f ys x) ∙ sym (append_assoc (f y) (flat_map f ys) (f x))

clients_push : (n : ℕ) (es : List ℕ) (e : ℕ) → client_lines n (es ++ e ∷ []) ≡ client_lines n es ++ client_line (n + length es) e ∷ []
clients_push n [] e = ap (λ k. client_line k e ∷ []) (omega arith)
clients_push n (x ∷ es) e = ap (λ l. client_line n x ∷ l) (clients_push (suc n) es e ∙ ap (λ k. client_lines (suc n) es ++ client_line k e ∷ []) (omega arith))

-- a list that grows at its end, where nothing stands after it
end_here : {A : Type 0} (xs ys rest : List A) (x : A) → rest ≡ [] → ys ≡ xs ++ x ∷ [] → ys ++ rest ≡ (xs ++ rest) ++ x ∷ []
end_here xs ys rest x r e = ap (λ l. ys ++ l) r ∙ append-nil ys ∙ e ∙ ap (λ l. l ++ x ∷ []) (sym (append-nil xs) ∙ ap (λ l. xs ++ l) (sym r))

-- a list that grows at its end, after one that stays
behind : {A : Type 0} (front xs ys : List A) (x : A) → ys ≡ xs ++ x ∷ [] → front ++ ys ≡ (front ++ xs) ++ x ∷ []
behind front xs ys x e = ap (λ l. front ++ l) e ∙ sym (append_assoc front xs (x ∷ []))

-- ---- Which sections are empty.

-- no built-in procedure stands before this stage's lines
abbrev before_natives : Stage → Bool
before_natives stages.Start = true
before_natives stages.Header = true
before_natives stages.Pod = true
before_natives stages.Clients = true
before_natives stages.Natives = false
before_natives stages.Proc = false
before_natives stages.Calling = false
before_natives stages.Skipping = false
before_natives stages.Ended = false
before_natives stages.Posts = false

-- nor any of statements
abbrev before_procs : Stage → Bool
before_procs stages.Natives = true
before_procs stages.Start = true
before_procs stages.Header = true
before_procs stages.Pod = true
before_procs stages.Clients = true
before_procs stages.Proc = false
before_procs stages.Calling = false
before_procs stages.Skipping = false
before_procs stages.Ended = false
before_procs stages.Posts = false

-- nor a posted line
abbrev before_posts : Stage → Bool
before_posts stages.Posts = false
before_posts stages.Start = true
before_posts stages.Header = true
before_posts stages.Pod = true
before_posts stages.Clients = true
before_posts stages.Natives = true
before_posts stages.Proc = true
before_posts stages.Calling = true
before_posts stages.Skipping = true
before_posts stages.Ended = true

-- a procedure has begun, and no later section
abbrev in_proc : Stage → Bool
in_proc stages.Proc = true
in_proc stages.Calling = true
in_proc stages.Skipping = true
in_proc stages.Ended = true
in_proc stages.Start = false
in_proc stages.Header = false
in_proc stages.Pod = false
in_proc stages.Clients = false
in_proc stages.Natives = false
in_proc stages.Posts = false

-- the limit's place is past
abbrev is_past : Stage → Bool
is_past stages.Start = false
is_past stages.Header = false
is_past stages.Pod = false
is_past stages.Clients = true
is_past stages.Natives = true
is_past stages.Proc = true
is_past stages.Calling = true
is_past stages.Skipping = true
is_past stages.Ended = true
is_past stages.Posts = true

record Sections (s : Stage) (d : Draft) : Type 0 where
  no_natives : before_natives s ≡ true → d.script.natives ≡ []
  no_procs : before_procs s ≡ true → (d.script.procs ≡ []) × (d.current ≡ None)
  no_posts : before_posts s ≡ true → d.script.posts ≡ []
  some_proc : in_proc s ≡ true → is_some d.current ≡ true
  as_clients : length d.posted ≡ length d.script.clients

-- what no line that follows can be
follows_clients : (s : Stage) → follows s role.Client ≡ true → (before_natives s ≡ true) × (before_procs s ≡ true) × (before_posts s ≡ true)
follows_clients s f = elim s as (λ x. follows x role.Client ≡ true → (before_natives x ≡ true) × (before_procs x ≡ true) × (before_posts x ≡ true)) [
  | stages.Pod ↦ λ e. (refl, refl, refl)
  | stages.Clients ↦ λ e. (refl, refl, refl)
  | _ ↦ λ e. absurd cc
] f

follows_natives : (s : Stage) → follows s role.Native ≡ true → (before_procs s ≡ true) × (before_posts s ≡ true)
follows_natives s f = elim s as (λ x. follows x role.Native ≡ true → (before_procs x ≡ true) × (before_posts x ≡ true)) [
  | stages.Pod ↦ λ e. (refl, refl)
  | stages.Clients ↦ λ e. (refl, refl)
  | stages.Natives ↦ λ e. (refl, refl)
  | _ ↦ λ e. absurd cc
] f

follows_procs : (s : Stage) → follows s role.Proc ≡ true → before_posts s ≡ true
follows_procs s f = elim s as (λ x. follows x role.Proc ≡ true → before_posts x ≡ true) [
  | stages.Posts ↦ λ e. absurd cc
  | _ ↦ λ e. refl
] f

-- a statement stands in a procedure, and leaves it open
record Inside (s t : Stage) : Type 0 where
  was_in : in_proc s ≡ true
  posts_later : before_posts s ≡ true
  natives_done : before_natives t ≡ false
  procs_done : before_procs t ≡ false
  goes_past : is_past t ≡ true

inside_statement : (s : Stage) → follows s role.Statement ≡ true → Inside s (stage_after s role.Statement)
inside_statement s f = elim s as (λ x. follows x role.Statement ≡ true → Inside x (stage_behind_first stages.Calling x)) [
  | stages.Proc ↦ λ e. record { was_in = refl; posts_later = refl; natives_done = refl; procs_done = refl; goes_past = refl }
  | stages.Calling ↦ λ e. record { was_in = refl; posts_later = refl; natives_done = refl; procs_done = refl; goes_past = refl }
  | stages.Skipping ↦ λ e. record { was_in = refl; posts_later = refl; natives_done = refl; procs_done = refl; goes_past = refl }
  | _ ↦ λ e. absurd cc
] f

inside_skip : (s : Stage) → follows s role.Skip ≡ true → Inside s (stage_after s role.Skip)
inside_skip s f = elim s as (λ x. follows x role.Skip ≡ true → Inside x (stage_behind_first stages.Skipping x)) [
  | stages.Proc ↦ λ e. record { was_in = refl; posts_later = refl; natives_done = refl; procs_done = refl; goes_past = refl }
  | stages.Calling ↦ λ e. record { was_in = refl; posts_later = refl; natives_done = refl; procs_done = refl; goes_past = refl }
  | stages.Skipping ↦ λ e. record { was_in = refl; posts_later = refl; natives_done = refl; procs_done = refl; goes_past = refl }
  | _ ↦ λ e. absurd cc
] f

inside_again : (s : Stage) → follows s role.Again ≡ true → Inside s (stage_after s role.Again)
inside_again s f = elim s as (λ x. follows x role.Again ≡ true → Inside x stages.Ended) [
  | stages.Calling ↦ λ e. record { was_in = refl; posts_later = refl; natives_done = refl; procs_done = refl; goes_past = refl }
  | _ ↦ λ e. absurd cc
] f

no_header : {A : Type 0} (s : Stage) → follows s role.Header ≡ true → is_past s ≡ true → A
no_header {A} s f p = elim s as (λ x. follows x role.Header ≡ true → is_past x ≡ true → A) [ stages.Start ↦ λ e h. absurd cc | _ ↦ λ e h. absurd cc ] f p

no_pod : {A : Type 0} (s : Stage) → follows s role.Pod ≡ true → is_past s ≡ true → A
no_pod {A} s f p = elim s as (λ x. follows x role.Pod ≡ true → is_past x ≡ true → A) [ stages.Header ↦ λ e h. absurd cc | _ ↦ λ e h. absurd cc ] f p

no_limit : {A : Type 0} (s : Stage) → follows s role.Limit ≡ true → is_past s ≡ true → A
no_limit {A} s f p = elim s as (λ x. follows x role.Limit ≡ true → is_past x ≡ true → A) [ stages.Pod ↦ λ e h. absurd cc | _ ↦ λ e h. absurd cc ] f p

not_both : {A : Type 0} (b : Bool) → b ≡ false → b ≡ true → A
not_both true f t = absurd cc
not_both false f t = absurd cc

-- ---- One line more.

-- the lines of a draft after those of the header, the pod and the limit
abbrev body : Names → List (List ℕ) → Draft → List Phrase
body N T d = body_lines N T d.script.clients d.script.natives (d.script.procs ++ option_to_list d.current) d.script.posts

-- what one more line p makes of them at the next stage
record Grows (s : Stage) (N : Names) (T : List (List ℕ)) (old new : Draft) (p : Phrase) : Type 0 where
  past : is_past s ≡ true
  sections : Sections s new
  lines : body N T new ≡ body N T old ++ p ∷ []
  priority : new.script.maxpri ≡ old.script.maxpri
  limit : new.script.births ≡ old.script.births

procs_none : (N : Names) (T : List (List ℕ)) (d : Draft) → (d.script.procs ≡ []) × (d.current ≡ None) → d.script.posts ≡ []
    → flat_map (proc_lines N T) (d.script.procs ++ option_to_list d.current) ++ map (post_line T) d.script.posts ≡ []
procs_none N T d h k = λ i. flat_map (proc_lines N T) (h.0 i ++ option_to_list (h.1 i)) ++ map (post_line T) (k i)

grows_client : (N : Names) (T : List (List ℕ)) (s : Stage) (at : Places) (d : Draft) (p : Phrase) → Sections s d
    → follows s role.Client ≡ true → p.client ≡ length d.posted → client_line p.client p.event ≡ p
    → Grows stages.Clients N T d (after_add_at role.Client at d p) p
grows_client N T s at d p h f c e =
    let b = follows_clients s f in
    let tail = procs_none N T d (h.no_procs b.1) (h.no_posts b.2) in
    let rest : map (native_line N) d.script.natives
    ++ (flat_map (proc_lines N T) (d.script.procs ++ option_to_list d.current) ++ map (post_line T) d.script.posts)
    ≡ [] = λ i. map (native_line N) (h.no_natives b.0 i) ++ tail i in
    let last : client_line (0 + length d.script.clients) p.event ≡ p = ap (λ k. client_line k p.event) (omega (arith, c, h.as_clients)) ∙ e in
    record {
      past = refl;
      sections = record {
        no_natives = λ t. h.no_natives b.0;
        no_procs = λ t. h.no_procs b.1;
        no_posts = λ t. h.no_posts b.2;
        some_proc = λ t. absurd cc;
        as_clients = omega (arith, h.as_clients, length-append d.posted (0 ∷ []), length-append d.script.clients (p.event ∷ []));
      };
      lines = end_here (client_lines 0 d.script.clients) (client_lines 0 (d.script.clients ++ p.event ∷ []))
          (map (native_line N) d.script.natives ++ (flat_map (proc_lines N T) (d.script.procs ++ option_to_list d.current) ++ map (post_line T) d.script.posts))
          p rest (clients_push 0 d.script.clients p.event ∙ ap (λ q. client_lines 0 d.script.clients ++ q ∷ []) last);
      priority = refl;
      limit = refl;
    }

grows_native : (N : Names) (T : List (List ℕ)) (s : Stage) (at : Places) (d : Draft) (p : Phrase) → Sections s d
    → follows s role.Native ≡ true → SaidBy role.Native p.op N T at p → Grows stages.Natives N T d (after_add_at role.Native at d p) p
grows_native N T s at d p h f e =
    let b = follows_natives s f in
    let rest = procs_none N T d (h.no_procs b.0) (h.no_posts b.1) in
    let new = (after_add_at role.Native at d p).script.natives in
    record {
      past = refl;
      sections = record {
        no_natives = λ t. absurd cc;
        no_procs = λ t. h.no_procs b.0;
        no_posts = λ t. h.no_posts b.1;
        some_proc = λ t. absurd cc;
        as_clients = h.as_clients;
      };
      lines = behind (client_lines 0 d.script.clients) _ _ p (end_here (map (native_line N) d.script.natives) (map (native_line N) new) _ p
          rest (map_push (native_line N) d.script.natives _ ∙ ap (λ q. map (native_line N) d.script.natives ++ q ∷ []) e));
      priority = refl;
      limit = refl;
    }

grows_proc : (N : Names) (T : List (List ℕ)) (s : Stage) (at : Places) (d : Draft) (p : Phrase) → Sections s d → follows s role.Proc ≡ true
    → SaidBy role.Proc p.op N T at p → Grows stages.Proc N T d (after_add_at role.Proc at d p) p
grows_proc N T s at d p h f e =
    let b = follows_procs s f in
    let posts : map (post_line T) d.script.posts ≡ [] = ap (map (post_line T)) (h.no_posts b) in
    let old = d.script.procs ++ option_to_list d.current in
    record {
      past = refl;
      sections = record {
        no_natives = λ t. absurd cc;
        no_procs = λ t. absurd cc;
        no_posts = λ t. h.no_posts b;
        some_proc = λ t. refl;
        as_clients = h.as_clients;
      };
      lines = behind (client_lines 0 d.script.clients) _ _ p
          (behind (map (native_line N) d.script.natives) _ _ p (end_here (flat_map (proc_lines N T) old) _
          (map (post_line T) d.script.posts) p posts (flat_push (proc_lines N T) old _ ∙ ap (λ q. flat_map (proc_lines N T) old ++ q ∷ []) e)));
      priority = refl;
      limit = refl;
    }

-- the procedure that is open
grown_lines : (N : Names) (T : List (List ℕ)) (procs : List Proc) (current : Option Proc) (o : Option Stmt) (st : Stmt) (p : Phrase)
    → is_some current ≡ true → o ≡ Some st → stmt_line N T st ≡ p
    → (is_some (with_statement o current) ≡ true)
    × (flat_map (proc_lines N T) (procs ++ option_to_list (with_statement o current)) ≡ flat_map (proc_lines N T) (procs ++ option_to_list current) ++ p ∷ [])
grown_lines N T procs None o st p c s e = absurd cc
grown_lines N T procs (Some q) o st p c s e = (
  ap (λ x. is_some (with_statement x (Some q))) s,
  ap (λ x. flat_map (proc_lines N T) (procs ++ option_to_list (with_statement x (Some q)))) s
      ∙ flat_push (proc_lines N T) procs (record q { stmts = q.stmts ++ st ∷ [] })
      ∙ behind (flat_map (proc_lines N T) procs) (proc_lines N T q) (proc_lines N T (record q { stmts = q.stmts ++ st ∷ [] })) p
      (ap (λ l. (proc_lines N T (record q { stmts = [] })) ++ l) (map_push (stmt_line N T) q.stmts st ∙ ap (λ x. map (stmt_line N T) q.stmts ++ x ∷ []) e))
      ∙ ap (λ l. l ++ p ∷ []) (sym (flat_push (proc_lines N T) procs q)),
)

grows_statement : (N : Names) (T : List (List ℕ)) (s t : Stage) (at : Places) (d : Draft) (p : Phrase) → Sections s d → Inside s t
    → ((st : Stmt) × (statement_of p.op at p ≡ Some st) × (stmt_line N T st ≡ p)) → Grows t N T d (after_push at d p) p
grows_statement N T s t at d p h x e =
    let g = grown_lines N T d.script.procs d.current (statement_of p.op at p) e.0 p (h.some_proc x.was_in) e.1 e.2 in
    let posts : map (post_line T) d.script.posts ≡ [] = ap (map (post_line T)) (h.no_posts x.posts_later) in
    record {
      past = x.goes_past;
      sections = record {
        no_natives = λ y. not_both (before_natives t) x.natives_done y;
        no_procs = λ y. not_both (before_procs t) x.procs_done y;
        no_posts = λ y. h.no_posts x.posts_later;
        some_proc = λ y. g.0;
        as_clients = h.as_clients;
      };
      lines = behind (client_lines 0 d.script.clients) _ _ p (behind (map (native_line N) d.script.natives) _ _ p (end_here (flat_map
          (proc_lines N T) (d.script.procs ++ option_to_list d.current)) (flat_map (proc_lines N T)
          (d.script.procs ++ option_to_list (with_statement (statement_of p.op at p) d.current))) (map (post_line T) d.script.posts) p posts g.1));
      priority = refl;
      limit = refl;
    }

raised_alike : (c : ℕ) (ns : List ℕ) → length (after_raise c ns) ≡ length ns
raised_alike c [] = refl
raised_alike zero (n ∷ ns) = refl
raised_alike (suc c) (n ∷ ns) = ap suc (raised_alike c ns)

grows_post : (N : Names) (T : List (List ℕ)) (s : Stage) (at : Places) (d : Draft) (p : Phrase) → Sections s d
    → SaidBy role.Post p.op N T at p → Grows stages.Posts N T d (after_add_at role.Post at d p) p
grows_post N T s at d p h e =
    record {
      past = refl;
      sections = record {
        no_natives = λ t. absurd cc;
        no_procs = λ t. absurd cc;
        no_posts = λ t. absurd cc;
        some_proc = λ t. absurd cc;
        as_clients = raised_alike p.client d.posted ∙ h.as_clients;
      };
      lines = behind (client_lines 0 d.script.clients) _ _ p (behind (map (native_line N) d.script.natives) _ _ p
          (behind (flat_map (proc_lines N T) (d.script.procs ++ option_to_list d.current)) _ _ p
          (map_push (post_line T) d.script.posts _ ∙ ap (λ q. map (post_line T) d.script.posts ++ q ∷ []) e)));
      priority = refl;
      limit = refl;
    }

grows : (r : Role) (N : Names) (T : List (List ℕ)) (s : Stage) (known : Declared) (at : Places) (d : Draft) (p : Phrase) → is_past s ≡ true
    → Sections s d → follows s r ≡ true → keeps_rule known d.posted r p ≡ true → SaidBy r p.op N T at p
    → Grows (stage_after s r) N T d (after_add_at r at d p) p
grows role.Header N T s known at d p past h f k e = no_header s f past
grows role.Pod N T s known at d p past h f k e = no_pod s f past
grows role.Limit N T s known at d p past h f k e = no_limit s f past
grows role.Client N T s known at d p past h f k e = grows_client N T s at d p h f (eqb-true p.client (length d.posted) k) e
grows role.Native N T s known at d p past h f k e = grows_native N T s at d p h f e
grows role.Proc N T s known at d p past h f k e = grows_proc N T s at d p h f e
grows role.Post N T s known at d p past h f k e = grows_post N T s at d p h e
grows role.Statement N T s known at d p past h f k e = grows_statement N T s (stage_after s role.Statement) at d p h (inside_statement s f) e
grows role.Skip N T s known at d p past h f k e = grows_statement N T s (stage_after s role.Skip) at d p h (inside_skip s f) e
grows role.Again N T s known at d p past h f k e = grows_statement N T s (stage_after s role.Again) at d p h (inside_again s f) e

-- ---- All lines after the limit.

-- each line may stand at this stage, with these procedures declared, after this draft
abbrev AllAt : Stage → Declared → Draft → List Phrase → Type 0
AllAt s known d [] = Unit {0}
AllAt s known d (p ∷ ps) = (may_stand_at s known d.posted p ≡ true) × AllAt (stage_after s (role_of p.op)) (declares (role_of p.op) known p) (after_add d p) ps

record Runs (N : Names) (T : List (List ℕ)) (old new : Draft) (ps : List Phrase) : Type 0 where
  lines : body N T new ≡ body N T old ++ ps
  priority : new.script.maxpri ≡ old.script.maxpri
  limit : new.script.births ≡ old.script.births

runs : (ps : List Phrase) (N : Names) (T : List (List ℕ)) (s : Stage) (known : Declared) (d : Draft) → is_past s ≡ true → Sections s d
    → AllAt s known d ps → AllByRecursion IsLine ps → Later (fold after_add d ps).script.names (fold after_add d ps).script.texts N T
    → Runs N T d (fold after_add d ps) ps
runs [] N T s known d past h a l k = record { lines = sym (append-nil (body N T d)); priority = refl; limit = refl }
runs (p ∷ ps) N T s known d past h a l k =
    let r = role_of p.op in
    let at = places_of (after_name d.script.names p) d.script.texts p in
    let u = both (follows s r) (keeps_rule known d.posted r p) a.0 in
    let seen = all_later ps (after_add d p) N T k in
    let b = backs d.script.names d.script.texts p N T (later_step d p N T seen) in
    let g = grows r N T s known at (after_enter d p) p past
    (record { no_natives = h.no_natives; no_procs = h.no_procs; no_posts = h.no_posts; some_proc = h.some_proc; as_clients = h.as_clients })
    u.0 u.1 (said N T at p b l.0) in
    let more = runs ps N T (stage_after s r) (declares r known p) (after_add d p) g.past g.sections a.1 l.1 k in
    record {
      lines = more.lines ∙ ap (λ x. x ++ ps) g.lines ∙ append_assoc (body N T d) (p ∷ []) ps;
      priority = more.priority ∙ g.priority;
      limit = more.limit ∙ g.limit;
    }
  where
    all_later : (ps : List Phrase) (d : Draft) (N : Names) (T : List (List ℕ))
        → Later (fold after_add d ps).script.names (fold after_add d ps).script.texts N T → Later d.script.names d.script.texts N T
    all_later [] d N T k = k
    all_later (p ∷ ps) d N T k = later_entered d.script.names d.script.texts p N T (later_step d p N T (all_later ps (after_add d p) N T k))

-- ---- From the lines before to what they come to, and back.

to_at : (ps before : List Phrase) → AllStand before ps → AllAt (stage_of before) (declared_of before) (draft_of before) ps
to_at [] before h = tt
to_at (p ∷ ps) before h =
    let r = role_of p.op in
    let one = to_at ps (before ++ p ∷ []) h.1 in
    let two = subst (λ (s : Stage). AllAt s (declared_of (before ++ p ∷ [])) (draft_of (before ++ p ∷ [])) ps) (stage_push before p) one in
    let three = subst (λ (k : Declared). AllAt (stage_after (stage_of before) r) k (draft_of (before ++ p ∷ [])) ps) (declared_push before p) two in
    (h.0, subst (λ (d : Draft). AllAt (stage_after (stage_of before) r) (declares r (declared_of before) p) d ps) (fold_push after_add empty_draft before p) three)

from_at : (ps before : List Phrase) → AllAt (stage_of before) (declared_of before) (draft_of before) ps → AllStand before ps
from_at [] before h = tt
from_at (p ∷ ps) before h =
    let r = role_of p.op in
    let one = subst (λ (d : Draft). AllAt (stage_after (stage_of before) r) (declares r (declared_of before) p) d ps)
    (sym (fold_push after_add empty_draft before p)) h.1 in
    let two = subst (λ (k : Declared). AllAt (stage_after (stage_of before) r) k (draft_of (before ++ p ∷ [])) ps) (sym (declared_push before p)) one in
    let three = subst (λ (s : Stage). AllAt s (declared_of (before ++ p ∷ [])) (draft_of (before ++ p ∷ [])) ps) (sym (stage_push before p)) two in
    (h.0, from_at ps (before ++ p ∷ []) three)

-- ---- The first lines.

header_first : (r : Role) → follows stages.Start r ≡ true → r ≡ role.Header
header_first r f = elim r as (λ x. follows stages.Start x ≡ true → x ≡ role.Header) [ role.Header ↦ λ e. refl | _ ↦ λ e. absurd cc ] f

op_header : (o : Op) → follows stages.Start (role_of o) ≡ true → o ≡ op.Lwp
op_header o f = only_of_role role.Header op.Lwp refl o (header_first (role_of o) f)

pod_second : (r : Role) → follows stages.Header r ≡ true → r ≡ role.Pod
pod_second r f = elim r as (λ x. follows stages.Header x ≡ true → x ≡ role.Pod) [ role.Pod ↦ λ e. refl | _ ↦ λ e. absurd cc ] f

op_pod : (o : Op) → follows stages.Header (role_of o) ≡ true → o ≡ op.Pod
op_pod o f = only_of_role role.Pod op.Pod refl o (pod_second (role_of o) f)

-- a line that fills the slots of its row is made of them
by_its_row : (p : Phrase) (o : Op) → p.op ≡ o → IsLine p → copy_slots (slots_of o) p (blank o) ≡ p
by_its_row p o e h = subst (λ (x : Op). copy_slots (slots_of x) p (blank x) ≡ p) e h.1

first_line : (known : Declared) (posted : List ℕ) (p : Phrase) → IsLine p → may_stand_at stages.Start known posted p ≡ true → p ≡ number_line op.Lwp 1
unfolding row_of
first_line known posted p l h =
    let u = both (follows stages.Start (role_of p.op)) (keeps_rule known posted (role_of p.op) p) h in
    let o = op_header p.op u.0 in
    let one = subst (λ (x : Op). keeps_rule known posted (role_of x) p ≡ true) o u.1 in
    sym (by_its_row p op.Lwp o l) ∙ ap (number_line op.Lwp) (eqb-true p.number 1 one)

second_line : (known : Declared) (posted : List ℕ) (p : Phrase) → IsLine p → may_stand_at stages.Header known posted p ≡ true → p ≡ number_line op.Pod p.number
unfolding row_of
second_line known posted p l h =
    let u = both (follows stages.Header (role_of p.op)) (keeps_rule known posted (role_of p.op) p) h in
    sym (by_its_row p op.Pod (op_pod p.op u.0) l)

limit_line : (p : Phrase) → p.op ≡ op.Limit → IsLine p → p ≡ number_line op.Limit p.number
unfolding row_of
limit_line p o l = sym (by_its_row p op.Limit o l)

-- the limit is the third line, or there is none
third_line : (p : Phrase) → IsLine p → follows stages.Pod (role_of p.op) ≡ true
    → (p ≡ number_line op.Limit p.number)
    ⊎ (follows stages.Clients (role_of p.op) ≡ true) × (stage_after stages.Pod (role_of p.op) ≡ stage_after stages.Clients (role_of p.op))
third_line p l f = by_role (role_of p.op) refl f
  where
    by_role : (r : Role) → role_of p.op ≡ r → follows stages.Pod r ≡ true
        → (p ≡ number_line op.Limit p.number) ⊎ (follows stages.Clients r ≡ true) × (stage_after stages.Pod r ≡ stage_after stages.Clients r)
    by_role r e g = elim r as
        (λ x. role_of p.op ≡ x → follows stages.Pod x ≡ true
        → (p ≡ number_line op.Limit p.number) ⊎ (follows stages.Clients x ≡ true) × (stage_after stages.Pod x ≡ stage_after stages.Clients x)) [
          | role.Limit ↦ λ e g. inl (limit_line p (only_of_role role.Limit op.Limit refl p.op e) l)
          | role.Client ↦ λ e g. inr (refl, refl)
          | role.Native ↦ λ e g. inr (refl, refl)
          | role.Proc ↦ λ e g. inr (refl, refl)
          | _ ↦ λ e g. absurd cc
        ] e g

-- where a client may come next, a line may come that may come after the pod, but for a limit
from_pod : (known : Declared) (d : Draft) (p : Phrase) (ps : List Phrase)
    → (follows stages.Clients (role_of p.op) ≡ true) × (stage_after stages.Pod (role_of p.op) ≡ stage_after stages.Clients (role_of p.op))
    → AllAt stages.Pod known d (p ∷ ps) → AllAt stages.Clients known d (p ∷ ps)
from_pod known d p ps c h =
    let u = both (follows stages.Pod (role_of p.op)) (keeps_rule known d.posted (role_of p.op) p) h.0 in
    (rw (c.0, u.1) refl, subst (λ (s : Stage). AllAt s (declares (role_of p.op) known p) (after_add d p) ps) c.1 h.1)

to_pod : (known : Declared) (d : Draft) (ps : List Phrase) → AllAt stages.Clients known d ps → AllAt stages.Pod known d ps
to_pod known d [] h = tt
to_pod known d (p ∷ ps) h =
    let u = both (follows stages.Clients (role_of p.op)) (keeps_rule known d.posted (role_of p.op) p) h.0 in
    let c = alike (role_of p.op) u.0 in
    (rw (c.0, u.1) refl, subst (λ (s : Stage). AllAt s (declares (role_of p.op) known p) (after_add d p) ps) c.1 h.1)
  where
    alike : (r : Role) → follows stages.Clients r ≡ true → (follows stages.Pod r ≡ true) × (stage_after stages.Clients r ≡ stage_after stages.Pod r)
    alike r f = elim r as (λ x. follows stages.Clients x ≡ true → (follows stages.Pod x ≡ true) × (stage_after stages.Clients x ≡ stage_after stages.Pod x)) [
      | role.Client ↦ λ e. (refl, refl)
      | role.Native ↦ λ e. (refl, refl)
      | role.Proc ↦ λ e. (refl, refl)
      | _ ↦ λ e. absurd cc
    ] f

-- ---- The whole script.

-- the header, the pod, and the lines after them
abbrev headed : ℕ → List Phrase → List Phrase
headed m rest = number_line op.Lwp 1 ∷ number_line op.Pod m ∷ rest

-- what the header and the pod have made, with a limit on births
abbrev podded : ℕ → ℕ → Draft
podded m births = record empty_draft { script = record empty_draft.script { maxpri = m; births = births } }

sections_podded : (m births : ℕ) → Sections stages.Clients (podded m births)
sections_podded m births = record { no_natives = λ t. refl; no_procs = λ t. (refl, refl); no_posts = λ t. refl; some_proc = λ t. absurd cc; as_clients = refl }

-- the script of lines after a limit is printed as the header, the pod, the limit and these lines
lines_back : (m births : ℕ) (rest : List Phrase) → AllAt stages.Clients nothing (podded m births) rest → AllByRecursion IsLine rest
    → lines_of (with_last_procedure (fold after_add (podded m births) rest)) ≡ headed m (limit_lines births ++ rest)
lines_back m births rest a l =
    let fin = fold after_add (podded m births) rest in
    let r = runs rest fin.script.names fin.script.texts stages.Clients nothing (podded m births) refl (sections_podded m births) a l
    (later_all fin.script.names fin.script.texts) in
    λ i. headed (r.priority i) (limit_lines (r.limit i) ++ r.lines i)

spells_back : (text : List ℕ) (s : Script) (ps : List Phrase) → SpelledBy text s ps → lines_of s ≡ ps → Spells (text_of_script s) s
unfolding text_of_script
spells_back text s ps h e = (
  ps,
  record {
    text_is = ap spelling e;
    short = subst (λ (t : List ℕ). length t ≤ 16777216) (h.text_is ∙ ap spelling (sym e)) h.short;
    are_lines = h.are_lines;
    stand = h.stand;
    declared = h.declared;
    some = h.some;
    script_is = h.script_is;
  },
)

-- with no limit line
plain_back : (text : List ℕ) (s : Script) (m : ℕ) (rest : List Phrase) → SpelledBy text s (headed m rest)
    → AllAt stages.Clients nothing (podded m 4294967295) rest → Spells (text_of_script s) s
unfolding row_of
plain_back text s m rest h a = spells_back text s (headed m rest) h (ap lines_of h.script_is ∙ lines_back m 4294967295 rest a h.are_lines.1.1)

-- without a limit line that says what is so without it
shorter : (m : ℕ) (rest : List Phrase) → length (spelling (headed m rest)) ≤ length (spelling (headed m (number_line op.Limit 4294967295 ∷ rest)))
shorter m rest =
    let a = with_newline (phrase_text (number_line op.Lwp 1)) in
    let b = with_newline (phrase_text (number_line op.Pod m)) in
    let c = with_newline (phrase_text (number_line op.Limit 4294967295)) in
    omega (
      arith,
      length-append a (b ++ spelling rest),
      length-append b (spelling rest),
      length-append a (b ++ (c ++ spelling rest)),
      length-append b (c ++ spelling rest),
      length-append c (spelling rest),
    )

default_back : (text : List ℕ) (s : Script) (m : ℕ) (rest : List Phrase)
    → SpelledBy text s (headed m (number_line op.Limit 4294967295 ∷ rest)) → AllAt stages.Clients nothing (podded m 4294967295) rest
    → Spells (text_of_script s) s
unfolding row_of
default_back text s m rest h a =
    let stand = to_at (headed m (number_line op.Limit 4294967295 ∷ rest)) [] h.stand in
    plain_back (spelling (headed m rest)) s m rest (record {
      text_is = refl;
      short = omega (arith, h.short, ap length h.text_is, shorter m rest);
      are_lines = (h.are_lines.0, (h.are_lines.1.0, h.are_lines.1.1.1));
      stand = from_at (headed m rest) [] (stand.0, (stand.1.0, to_pod nothing (podded m 4294967295) rest a));
      declared = (h.declared.0, (h.declared.1.0, h.declared.1.1.1));
      some = h.some;
      script_is = h.script_is;
    }) a

-- with a limit line
limit_back : (text : List ℕ) (s : Script) (m n : ℕ) (rest : List Phrase) → SpelledBy text s (headed m (number_line op.Limit n ∷ rest))
    → AllAt stages.Clients nothing (podded m n) rest → Spells (text_of_script s) s
unfolding row_of
limit_back text s m n rest h a = elim (eqb n 4294967295) as (λ v. eqb n 4294967295 ≡ v → Spells (text_of_script s) s) [
  | true ↦ λ t.
      let e : n ≡ 4294967295 = eqb-true n 4294967295 t in
      default_back text s m rest (subst (λ (k : ℕ). SpelledBy text s (headed m (number_line op.Limit k ∷ rest))) e h)
      (subst (λ (k : ℕ). AllAt stages.Clients nothing (podded m k) rest) e a)
  | false ↦ λ t.
      let lines : limit_lines n ≡ number_line op.Limit n ∷ [] = λ i. cond (t i) [] (number_line op.Limit n ∷ []) in
      spells_back text s (headed m (number_line op.Limit n ∷ rest)) h
      (ap lines_of h.script_is ∙ lines_back m n rest a h.are_lines.1.1.1 ∙ ap (λ l. headed m (l ++ rest)) lines)
] refl

headed_back : (text : List ℕ) (s : Script) (m : ℕ) (rest : List Phrase) → SpelledBy text s (headed m rest) → Spells (text_of_script s) s
unfolding row_of
headed_back text s m [] h = plain_back text s m [] h tt
headed_back text s m (p ∷ rest) h =
    let all = (to_at (headed m (p ∷ rest)) [] h.stand).1.1 in
    by_kind (third_line p h.are_lines.1.1.0 (both (follows stages.Pod (role_of p.op)) (keeps_rule nothing [] (role_of p.op) p) all.0).0) all
  where
    by_kind : (p ≡ number_line op.Limit p.number)
        ⊎ (follows stages.Clients (role_of p.op) ≡ true) × (stage_after stages.Pod (role_of p.op) ≡ stage_after stages.Clients (role_of p.op))
        → AllAt stages.Pod nothing (podded m 4294967295) (p ∷ rest) → Spells (text_of_script s) s
    by_kind (inl e) a =
        limit_back text s m p.number rest
        (subst (λ (q : Phrase). SpelledBy text s (headed m (q ∷ rest))) e h)
        (subst
        (λ (q : Phrase). AllAt (stage_after stages.Pod (role_of q.op)) (declares (role_of q.op) nothing q) (after_add (podded m 4294967295) q) rest) e a.1)
    by_kind (inr c) a = plain_back text s m (p ∷ rest) h (from_pod nothing (podded m 4294967295) p rest c a)

pub prints_back : (s : Script) (text : List ℕ) → Spells text s → Spells (text_of_script s) s
unfolding row_of
prints_back s text h = by_lines h.0 h.1
  where
    by_two : (p q : Phrase) (ps : List Phrase) → p ≡ number_line op.Lwp 1 → SpelledBy text s (p ∷ q ∷ ps) → Spells (text_of_script s) s
    by_two p q ps e h =
        let k = subst (λ (x : Phrase). SpelledBy text s (x ∷ q ∷ ps)) e h in
        let all = to_at (number_line op.Lwp 1 ∷ q ∷ ps) [] k.stand in
        let two = second_line nothing [] q k.are_lines.1.0 all.1.0 in
        headed_back text s q.number ps (subst (λ (x : Phrase). SpelledBy text s (number_line op.Lwp 1 ∷ x ∷ ps)) two k)

    by_lines : (ps : List Phrase) → SpelledBy text s ps → Spells (text_of_script s) s
    by_lines [] h = absurd (let some = h.some in omega (arith, some))
    by_lines (p ∷ []) h =
        let e = first_line nothing [] p h.are_lines.0 h.stand.0 in
        let some : 0 < length (script_of (number_line op.Lwp 1 ∷ [])).procs = subst (λ (x : Phrase). 0 < length (script_of (x ∷ [])).procs) e h.some in
        absurd (omega (arith, some))
    by_lines (p ∷ q ∷ ps) h = by_two p q ps (first_line nothing [] p h.are_lines.0 h.stand.0) h
