-- The lines before the posts keep every rule, for each number of clients that there may be.
use Rattle.std.proofs.Common.{◌≡◌, ℕ, zero, suc, ◌+◌, ◌<◌, ◌≤◌, Bool, true, false, ◌&&◌, eqb, leb, List, []}
use Rattle.std.proofs.Common.{◌∷◌, ◌++◌, length, fold, refl, sym, ap, ◌∙◌, arith, inl, inr, append_assoc}
use Rattle.std.specs.Prelude.{IsTrue, codes, is_some, slice_index_or}
use Rattle.std.specs.Fmt.{decimal, digits}
use Rattle.std.specs.List.{AllByRecursion, list_all}
use Rattle.std.proofs.lemmas.Bool.{ne_eqb, leb-true, eqb-true}
use Rattle.std.proofs.lemmas.List.{append-nil}
use Rattle.std.proofs.lemmas.List.Sums.{fold-append}
use Rattle.script_lines.specs.Table.{row_of}
use Rattle.script_lines.specs.declared.table.Role.TheVariants as role
use Rattle.script_lines.specs.declared.table.Op.TheVariants as op
use Rattle.script_lines.specs.Phrase.{Phrase}
use Rattle.script_lines.specs.Words.{is_name}
use Rattle.script_lines.specs.Line.{built_text, blank, IsLine}
use Rattle.script_text.specs.Grammar.{spelling, follows, declared_of, is_declared}
use Rattle.script_lines.specs.Reading.{flags_by}
use Rattle.script_text.specs.Meaning.{after_add, empty_draft, draft_of}
use Rattle.lwp_serve.specs.declared.maker.script.ClientLine.{ClientLine}
use Rattle.lwp_serve.specs.declared.maker.script.ClientLine.TheVariants as line
use Rattle.lwp_serve.specs.Maker.Made.{each, client_line, declarations, procedure}
use Rattle.lwp_serve.proofs.MakerLaws.Gathered.{both, gathered, spelling_append, spelt_each, all_append, all_gathered, all_true, AllBelow, below}
use Rattle.lwp_serve.proofs.MakerLaws.Standing.{moved, start, stands, some_behind}

-- ---- What the lines say.

abbrev pub post : ℕ → List ℕ → Phrase
post c text = record (blank op.Post) { client = c; text = text }

-- what a line of client c says
abbrev pub client_phrase : ClientLine → ℕ → Phrase
client_phrase line.Client c = record (blank op.Client) { client = c; event = c + 1 }
client_phrase line.Native c = record (blank op.Native) { procedure = 115 ∷ decimal c; event = c + 1; thread = codes "db" }
client_phrase line.Create c = record (blank op.Create) { thread = 97 ∷ decimal c; procedure = 115 ∷ decimal c; number = 1 }
client_phrase line.Join c = record (blank op.Join) { thread = 97 ∷ decimal c }
client_phrase line.Quit c = post c (codes "quit")

-- what the lines of the clients below n say
abbrev pub client_phrases : ClientLine → ℕ → List Phrase
client_phrases l n = gathered (λ c. client_phrase l c ∷ []) n

abbrev version : Phrase
version = record (blank op.Lwp) { number = 1 }

abbrev pod : Phrase
pod = record (blank op.Pod) { number = 2 }

abbrev store : Phrase
store = record (blank op.Native) { procedure = codes "db" }

abbrev main : Phrase
main = record (blank op.«Proc») { procedure = codes "main" }

abbrev create : Phrase
create = record (blank op.Create) { thread = codes "db"; procedure = codes "db"; number = 2; flags = flags_by false false true }

-- the lines before the procedure
abbrev front : ℕ → List Phrase
front t = version ∷ pod ∷ (client_phrases line.Client t ++ (store ∷ client_phrases line.Native t))

-- the procedure's statements
abbrev body : ℕ → List Phrase
body t = create ∷ (client_phrases line.Create t ++ client_phrases line.Join t)

-- what the heading says
abbrev pub head : ℕ → List Phrase
head t = front t ++ (main ∷ body t)

-- ---- Each of them is a line.

letters_name : AllBelow (λ c. (is_name (115 ∷ decimal c) && is_name (97 ∷ decimal c)) ≡ true) 16
unfolding digits
letters_name = ((((((((((((((((tt, refl), refl), refl), refl), refl), refl), refl), refl), refl), refl), refl), refl), refl), refl), refl), refl)

are_names : (c : ℕ) → c < 16 → (is_name (115 ∷ decimal c) ≡ true) × (is_name (97 ∷ decimal c) ≡ true)
are_names c h = both (is_name (115 ∷ decimal c)) (is_name (97 ∷ decimal c))
    (below (λ c. (is_name (115 ∷ decimal c) && is_name (97 ∷ decimal c)) ≡ true) 16 letters_name c h)

is_client_line : (l : ClientLine) (c : ℕ) → c < 16 → IsLine (client_phrase l c)
unfolding row_of
is_client_line line.Client c h = ((omega arith, (omega arith, tt)), refl)
is_client_line line.Native c h = (((are_names c h).0, (inr ((omega arith, omega arith), refl), tt)), refl)
is_client_line line.Create c h = (((are_names c h).1, ((are_names c h).0, (omega arith, (tt, tt)))), refl)
is_client_line line.Join c h = (((are_names c h).1, tt), refl)
is_client_line line.Quit c h = ((omega arith, (refl, tt)), refl)

pub are_client_lines : (l : ClientLine) (n : ℕ) → n ≤ 16 → AllByRecursion IsLine (client_phrases l n)
are_client_lines l n h = all_gathered IsLine (λ c. client_phrase l c ∷ []) n (λ c lt. (is_client_line l c (omega arith), tt))

pub are_lines : (t : ℕ) → t ≤ 16 → AllByRecursion IsLine (head t)
unfolding row_of
are_lines t h =
    let bodies : AllByRecursion IsLine (body t) = (
      ((refl, (refl, (omega arith, (tt, tt)))), refl),
      all_append IsLine (client_phrases line.Create t) (client_phrases line.Join t) (are_client_lines line.Create t h) (are_client_lines line.Join t h),
    ) in
    let natives : AllByRecursion IsLine (store ∷ client_phrases line.Native t) = (((refl, (inl (refl, refl), tt)), refl), are_client_lines line.Native t h) in
    let fronts : AllByRecursion IsLine (front t) = (
      ((omega arith, tt), refl),
      (
        ((omega arith, tt), refl),
        all_append IsLine (client_phrases line.Client t) (store ∷ client_phrases line.Native t) (are_client_lines line.Client t h) natives,
      ),
    ) in
    all_append IsLine (front t) (main ∷ body t) fronts (((refl, tt), refl), bodies)

-- ---- The text spells them.

-- the end of a line whose last slot is m, after a
pub line_end : (a m : List ℕ) → a ++ (m ++ 10 ∷ []) ≡ ((a ++ (m ++ [])) ++ 10 ∷ []) ++ []
line_end a m = sym (append-nil _ ∙ append_assoc a (m ++ []) (10 ∷ []) ∙ ap (λ (l : List ℕ). a ++ l) (append_assoc m [] (10 ∷ [])))

-- the end of such a line where its last bytes are known
line_end_known : (a m : List ℕ) → a ++ (m ++ 10 ∷ []) ≡ ((a ++ m) ++ 10 ∷ []) ++ []
line_end_known a m = sym (append-nil _ ∙ append_assoc a m (10 ∷ []))

one_written : decimal 1 ≡ codes "1"
unfolding digits
one_written = refl

two_written : decimal 2 ≡ codes "2"
unfolding digits
two_written = refl

session_text : (c : ℕ) (w : List ℕ) → built_text (c + 1) w ≡ codes "session " ++ (decimal (c + 1) ++ 32 ∷ w)
session_text c w = rw (ne_eqb (c + 1) 0 (λ z. omega arith)) refl

client_spelt : (l : ClientLine) (c : ℕ) → client_line l c ≡ spelling (client_phrase l c ∷ [])
unfolding row_of
client_spelt line.Client c = ap (λ (l : List ℕ). codes "client " ++ l) (line_end (decimal c) (32 ∷ decimal (c + 1)))
client_spelt line.Native c = rw (session_text c (codes "db")) (ap (λ (l : List ℕ). codes "native s" ++ l)
    (ap (λ (l : List ℕ). decimal c ++ (codes " session " ++ l)) (sym (append_assoc (decimal (c + 1)) (codes " db") (10 ∷ [])))
    ∙ line_end (decimal c) (codes " session " ++ (decimal (c + 1) ++ codes " db"))))
client_spelt line.Create c = rw one_written (ap (λ (l : List ℕ). codes "create a" ++ l)
    (ap (λ (l : List ℕ). decimal c ++ (codes " s" ++ l)) (sym (append_assoc (decimal c) (codes " 1 -") (10 ∷ [])))
    ∙ line_end_known (decimal c) (codes " s" ++ (decimal c ++ codes " 1 -"))))
client_spelt line.Join c = ap (λ (l : List ℕ). codes "join a" ++ l) (line_end (decimal c) [])
client_spelt line.Quit c = ap (λ (l : List ℕ). codes "post " ++ l) (line_end_known (decimal c) (codes " quit"))

pub clients_spelt : (l : ClientLine) (n : ℕ) → each (client_line l) n ≡ spelling (client_phrases l n)
clients_spelt l n = spelt_each (client_line l) (λ c. client_phrase l c ∷ []) n (λ c lt. client_spelt l c)

procedure_spelt : (t : ℕ) → procedure t ≡ spelling (main ∷ body t)
unfolding row_of
procedure_spelt t =
    rw (two_written, clients_spelt line.Create t, clients_spelt line.Join t, spelling_append (client_phrases line.Create t) (client_phrases line.Join t)) refl

declarations_spelt : (t : ℕ) → declarations t ≡ spelling (front t)
unfolding row_of
declarations_spelt t = rw (
  one_written,
  two_written,
  clients_spelt line.Client t,
  clients_spelt line.Native t,
  spelling_append (client_phrases line.Client t) (store ∷ client_phrases line.Native t),
)
    refl

-- the lines before the posts
abbrev pub heading : ℕ → List ℕ
heading t = declarations t ++ procedure t

pub heading_spelt : (t : ℕ) → heading t ≡ spelling (head t)
heading_spelt t =
    ap (λ (l : List ℕ). l ++ procedure t) (declarations_spelt t)
    ∙ ap (λ (l : List ℕ). spelling (front t) ++ l) (procedure_spelt t)
    ∙ sym (spelling_append (front t) (main ∷ body t))

-- ---- They stand.

abbrev check : ℕ → Bool
check t = stands start (head t)
    && list_all (is_declared (declared_of (head t))) (head t)
    && follows (fold moved start (head t)).stage role.Post
    && list_all (λ n. eqb n 0) (fold moved start (head t)).posted
    && eqb (length (fold moved start (head t)).posted) t
    && leb (length (heading t)) 10000

checked : AllBelow (λ t. check (suc t) ≡ true) 16
unfolding digits row_of
checked = ((((((((((((((((tt, refl), refl), refl), refl), refl), refl), refl), refl), refl), refl), refl), refl), refl), refl), refl), refl)

pub record Heads (t : ℕ) : Type 0 where
  pub stand : stands start (head t) ≡ true
  pub declared : AllByRecursion (λ p. IsTrue (is_declared (declared_of (head t)) p)) (head t)
  pub posts_follow : follows (fold moved start (head t)).stage role.Post ≡ true
  pub none_posted : (d : ℕ) → d < t → slice_index_or (fold moved start (head t)).posted d 20000 ≡ 0
  pub short : length (heading t) ≤ 10000

zeros : (ns : List ℕ) (d e : ℕ) → list_all (λ n. eqb n 0) ns ≡ true → d < length ns → slice_index_or ns d e ≡ 0
zeros [] d e h lt = absurd (omega arith)
zeros (n ∷ ns) zero e h lt = eqb-true n 0 (both (eqb n 0) (list_all (λ n. eqb n 0) ns) h).0
zeros (n ∷ ns) (suc d) e h lt = zeros ns d e (both (eqb n 0) (list_all (λ n. eqb n 0) ns) h).1 (omega arith)

heads_by : (t : ℕ) → check t ≡ true → Heads t
heads_by t h =
    let s = stands start (head t) in
    let d = list_all (is_declared (declared_of (head t))) (head t) in
    let f = follows (fold moved start (head t)).stage role.Post in
    let z = list_all (λ n. eqb n 0) (fold moved start (head t)).posted in
    let l = eqb (length (fold moved start (head t)).posted) t in
    let g = leb (length (heading t)) 10000 in
    let a = both (s && d && f && z && l) g h in
    let b = both (s && d && f && z) l a.0 in
    let c = both (s && d && f) z b.0 in
    let e = both (s && d) f c.0 in
    let i = both s d e.0 in
    let long : length (fold moved start (head t)).posted ≡ t = eqb-true (length (fold moved start (head t)).posted) t b.1 in
    record {
      stand = i.0;
      declared = all_true (is_declared (declared_of (head t))) (head t) i.1;
      posts_follow = e.1;
      none_posted = λ k lt. zeros (fold moved start (head t)).posted k 20000 c.1 (omega arith);
      short = leb-true (length (heading t)) 10000 a.1;
    }

pub heads : (t : ℕ) → 1 ≤ t → t ≤ 16 → Heads t
heads zero some few = absurd (omega arith)
heads (suc t) some few = heads_by (suc t) (below (λ t. check (suc t) ≡ true) 16 checked t (omega arith))

-- the procedure has begun
pub has_procedure : (t : ℕ) → is_some (draft_of (head t)).current ≡ true
unfolding row_of
has_procedure t =
    let e : draft_of (head t) ≡ fold after_add (after_add (draft_of (front t)) main) (body t) = fold-append after_add empty_draft (front t) (main ∷ body t) in
    rw e (some_behind (after_add (draft_of (front t)) main) (body t) refl)
