-- How many lines each client posts, counted one by one.
use Rattle.event_gate.proofs.Lines.{cond_other, cond_same, of-append}
use Rattle.event_gate.specs.Port.{of}
use Rattle.lwp_state.specs.Clients.{clients_from}
use Rattle.lwp_types.specs.declared.call.Line.{Line}
use Rattle.script_body.specs.Posted.{IsPosted}
use Rattle.script_text.specs.Script.{line_of, lines_posted}
use Rattle.script_text.specs.declared.script.Post.{Post}
use Rattle.script_text.specs.declared.script.Script.{Script}
use Rattle.state_text.specs.declared.clients.ClientLines.{ClientLines}
use Rattle.std.proofs.Common.{Bool, List, [], ap, append-nil, arith, cond, eqb, false, get_or, length, length-append, length-take}
use Rattle.std.proofs.Common.{map, refl, set, suc, sym, take, true, zero, ℕ, ◌++◌, ◌+◌, ◌<◌, ◌∙◌, ◌∷◌, ◌≡◌, ◌≤◌}
use Rattle.std.proofs.Math.Seq.{take-suc}
use Rattle.std.proofs.lemmas.List.Elements.{All-get_or}
use Rattle.std.proofs.lemmas.List.{get_or-map, length-map, map-append}

-- a client that posts nothing
abbrev pub quiet : ℕ → ClientLines
quiet event = record { event = event; posts = 0 }

pub all-quiet : (c : ℕ) (es : List ℕ) → clients_from c es [] ≡ map quiet es
all-quiet c [] = refl
all-quiet c (e ∷ es) = ap (λ xs. quiet e ∷ xs) (all-quiet (c + 1) es)

-- a client more that posts nothing
pub quiet-on : (es : List ℕ) (place : ℕ) (held : List ClientLines) → held ≡ map quiet (take place es) → place < length es
    → held ++ quiet (get_or es place 0) ∷ [] ≡ map quiet (take (place + 1) es)
quiet-on es place held is low =
    ap (λ xs. xs ++ quiet (get_or es place 0) ∷ []) is
    ∙ sym (map-append quiet (take place es) (get_or es place 0 ∷ []))
    ∙ ap (map quiet) (sym (take-suc es place 0 low))
    ∙ (let same : suc place ≡ place + 1 = omega arith in ap (λ n. map quiet (take n es)) same)

pub length-clients : (c : ℕ) (es : List ℕ) (posts : List Line) → length (clients_from c es posts) ≡ length es
length-clients c [] posts = refl
length-clients c (e ∷ es) posts = ap suc (length-clients (c + 1) es posts)

-- a client with a line more
abbrev pub with_line : ClientLines → ClientLines
with_line x = record x { posts = x.posts + 1 }

of-other : (c : ℕ) (posts : List Line) (l : Line) → (l.client ≡ c → ⊥) → of c (posts ++ l ∷ []) ≡ of c posts
of-other c posts l other = of-append c posts (l ∷ []) ∙ ap (λ ls. of c posts ++ ls) (cond_other l.client c (l ∷ []) [] other) ∙ append-nil (of c posts)

of-mine : (c : ℕ) (posts : List Line) (l : Line) → l.client ≡ c → length (of c (posts ++ l ∷ [])) ≡ length (of c posts) + 1
of-mine c posts l is = ap length (of-append c posts (l ∷ [])) ∙ ap (λ ls. length (of c posts ++ ls)) (cond_same l.client c (l ∷ []) [] is)
    ∙ length-append (of c posts) (l ∷ [])

-- one client of all, with so many lines
abbrev with_count : ℕ → ℕ → ClientLines
with_count e n = record { event = e; posts = n }

others : (c : ℕ) (es : List ℕ) (posts : List Line) (l : Line) → l.client < c → clients_from c es (posts ++ l ∷ []) ≡ clients_from c es posts
others c [] posts l low = refl
others c (e ∷ es) posts l low =
    ap (λ ls. with_count e (length ls) ∷ clients_from (c + 1) es (posts ++ l ∷ [])) (of-other c posts l (λ is. absurd (omega (arith, is, low))))
    ∙ ap (λ xs. with_count e (length (of c posts)) ∷ xs) (others (c + 1) es posts l (omega (arith, low)))

-- a line more of the client at a place
pub one-more : (c place : ℕ) (es : List ℕ) (posts : List Line) (l : Line) (d : ClientLines) → l.client ≡ c + place → place < length es
    → clients_from c es (posts ++ l ∷ []) ≡ set (clients_from c es posts) place (with_line (get_or (clients_from c es posts) place d))
one-more c place [] posts l d is low = absurd (omega (arith, low))
one-more c zero (e ∷ es) posts l d is low =
    ap (λ n. with_count e n ∷ clients_from (c + 1) es (posts ++ l ∷ [])) (of-mine c posts l (omega (arith, is)))
    ∙ ap (λ xs. with_count e (length (of c posts) + 1) ∷ xs) (others (c + 1) es posts l (omega (arith, is)))
one-more c (suc place) (e ∷ es) posts l d is low =
    ap (λ ls. with_count e (length ls) ∷ clients_from (c + 1) es (posts ++ l ∷ [])) (of-other c posts l (λ same. absurd (omega (arith, same, is))))
    ∙ ap (λ xs. with_count e (length (of c posts)) ∷ xs) (one-more (c + 1) place es posts l d (omega (arith, is)) (omega (arith, low)))

-- how many lines it has
pub posts-at : (c place : ℕ) (es : List ℕ) (posts : List Line) (d : ClientLines) → place < length es
    → (get_or (clients_from c es posts) place d).posts ≡ length (of (c + place) posts)
posts-at c place [] posts d low = absurd (omega (arith, low))
posts-at c zero (e ∷ es) posts d low = ap (λ n. length (of n posts)) (omega arith)
posts-at c (suc place) (e ∷ es) posts d low = posts-at (c + 1) place es posts d (omega (arith, low)) ∙ ap (λ n. length (of n posts)) (omega arith)

-- the client of a post is one of the clients
pub client-known : (script : Script) (posts : List Post) (i c : ℕ) (d : Post) → IsPosted script → posts ≡ script.posts → i < length posts
    → c ≡ (get_or posts i d).client → c < length script.clients
client-known script posts i c d posted same there whose =
    let within : i < length script.posts = omega (arith, there, ap length same) in
    let line = get_or-map (line_of script.texts) script.posts i d (line_of script.texts d) within in
    let known = All-get_or (λ (l : Line). l.client < length script.clients) (lines_posted script) i (line_of script.texts d)
    (omega (arith, within, length-map script.posts (line_of script.texts))) posted.clients in
    omega (arith, known, ap (λ (l : Line). l.client) line, whose, ap (λ (ps : List Post). (get_or ps i d).client) same)

-- a line more, of the post at a place
pub counted-on : (script : Script) (posts : List Post) (place client : ℕ) (d : ClientLines) (e : Post) → posts ≡ script.posts
    → place < length posts → client ≡ (get_or posts place e).client → client < length script.clients
    → clients_from 0 script.clients (take (place + 1) (lines_posted script))
    ≡ set (clients_from 0 script.clients (take place (lines_posted script))) client
    (with_line (get_or (clients_from 0 script.clients (take place (lines_posted script))) client d))
counted-on script posts place client d e is low whose known =
    let there : place < length script.posts = omega (arith, low, ap length is) in
    let line = line_of script.texts (get_or script.posts place e) in
    let more : take (suc place) (lines_posted script) ≡ take place (lines_posted script) ++ line ∷ [] =
    take-suc (lines_posted script) place line (omega (arith, there, length-map script.posts (line_of script.texts)))
    ∙ ap (λ l. take place (lines_posted script) ++ l ∷ []) (get_or-map (line_of script.texts) script.posts place e line there) in
    let mine : line.client ≡ client = ap (λ ps. (get_or ps place e).client) (sym is) ∙ sym whose in
    let next : place + 1 ≡ suc place = omega arith in
    ap (λ n. clients_from 0 script.clients (take n (lines_posted script))) next ∙ ap (clients_from 0 script.clients) more
    ∙ one-more 0 client script.clients (take place (lines_posted script)) line d (omega (arith, mine)) known

length-of : (c : ℕ) (xs : List Line) → length (of c xs) ≤ length xs
length-of c [] = omega arith
length-of c (x ∷ xs) = by (eqb x.client c) (of c xs) (length-of c xs)
  where
    by : (b : Bool) (ls : List Line) → length ls ≤ length xs → length (cond b (x ∷ ls) ls) ≤ suc (length xs)
    by true ls h = omega (arith, h)
    by false ls h = omega (arith, h)

-- no client has more lines than there are
pub few-lines : (script : Script) (place client : ℕ) (d : ClientLines) → IsPosted script → client < length script.clients
    → (get_or (clients_from 0 script.clients (take place (lines_posted script))) client d).posts < 4294967296
few-lines script place client d posted known =
    omega (
      arith,
      posts-at 0 client script.clients (take place (lines_posted script)) d known,
      length-of (0 + client) (take place (lines_posted script)),
      length-take place (lines_posted script),
      posted.few,
    )
