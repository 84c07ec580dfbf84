-- The lines that clients have left, by the places of their posts.
use Rattle.event_gate.proofs.Lines.{cond_other, cond_same, same_or}
use Rattle.event_gate.specs.Port.{IsNumbered, of}
use Rattle.event_gate.specs.Shelves.{event_of}
use Rattle.lwp_types.specs.declared.call.Line.{Line}
use Rattle.replay.specs.Asked.{Asked}
use Rattle.replay.specs.Next.{next_in, without_next}
use Rattle.replay.specs.Walk.{AreLeft, ClientsLeft, IsFit}
use Rattle.script_body.specs.Places.{line_at, no_line}
use Rattle.script_body.specs.Posted.{IsPosted}
use Rattle.replay.specs.Stock.{AreFrom, lines_by_places, with_place, without_first}
use Rattle.script_text.specs.Script.{line_of, lines_posted}
use Rattle.script_text.specs.declared.script.Post.{Post}
use Rattle.script_text.specs.declared.script.Script.{Script}
use Rattle.std.proofs.Common.{List, [], add-one, ap, arith, drop, get_or, get_or-set_other, get_or-set_same, length, length-set, map, refl}
use Rattle.std.proofs.Common.{set, slice_get, subst, suc, sym, take, zero, ℕ, ⊎_elim, ◌++◌, ◌+◌, ◌<◌, ◌^◌, ◌∙◌, ◌∷◌, ◌≡◌, ◌≢◌, ◌≤◌}
use Rattle.std.proofs.lemmas.List.{drop-map, drop_all, drop_more, get_or-map, length-map, map-set}
use Rattle.std.proofs.lemmas.List.Elements.{All-get_or, recursion_from_All}
use Rattle.std.proofs.lemmas.Option.{slice_get-map}
use Rattle.std.specs.List.{AllByRecursion}
use Rattle.std.specs.Prelude.{All, option_map, replicate, slice_index_or}

nobody-at : (n c : ℕ) → ◌≡◌ {A = List ℕ} (slice_index_or (replicate n []) c []) []
nobody-at zero c = refl
nobody-at (suc n) zero = refl
nobody-at (suc n) (suc c) = nobody-at n c

-- past the last line nobody has any
pub from-none : (posts : List Line) (place n : ℕ) (all : List (List ℕ)) → place ≡ length posts → all ≡ replicate n [] → AreFrom posts place all
from-none posts place n all at none c low =
    ap (λ l. map (line_at posts) (slice_index_or l c [])) none ∙ ap (map (line_at posts)) (nobody-at n c)
    ∙ sym (ap (of c) (drop_all place posts (omega (arith, at))))

-- one line before
pub from-before : (posts : List Line) (all : List (List ℕ)) (k c : ℕ) → k < length posts → (line_at posts k).client ≡ c
    → AreFrom posts (k + 1) all → AreFrom posts k (with_place c k all)
from-before posts all k c low own was d there = ⊎_elim
    (λ (same : c ≡ d).
    ap (λ e. map (line_at posts) (slice_index_or (with_place c k all) e [])) (sym same)
    ∙ ap (map (line_at posts)) (get_or-set_same all c (k ∷ slice_index_or all c []) [] (omega (arith, within, same)))
    ∙ ap (λ l. line_at posts k ∷ l) (was c (omega (arith, within, same)))
    ∙ sym (ap (of c) front ∙ cond_same (line_at posts k).client c (line_at posts k ∷ of c (drop (k + 1) posts)) (of c (drop (k + 1) posts)) own)
    ∙ ap (λ e. of e (drop k posts)) same)
    (λ (apart : c ≢ d).
    ap (map (line_at posts)) (get_or-set_other all c d (k ∷ slice_index_or all c []) [] (λ e. apart (sym e)))
    ∙ was d within
    ∙ sym (ap (of d) front
    ∙ cond_other (line_at posts k).client d (line_at posts k ∷ of d (drop (k + 1) posts)) (of d (drop (k + 1) posts)) (λ e. apart (sym own ∙ e))))
    (same_or c d)
  where
    within : d < length all
    within = omega (arith, there, length-set all c (k ∷ slice_index_or all c []))

    front : drop k posts ≡ line_at posts k ∷ drop (k + 1) posts
    front = drop_more posts k no_line low

module _ (posts : List Line) where
  left-at : (all : List (List ℕ)) (c : ℕ) → c < length all → slice_index_or (lines_by_places posts all) c [] ≡ map (line_at posts) (slice_index_or all c [])
  left-at all c low = get_or-map (λ places. map (line_at posts) places) all c [] [] low

  pub are-left : (clients : List ℕ) (all : List (List ℕ)) → length all ≡ length clients → AreFrom posts 0 all
      → AreLeft (record { clients = clients; left = lines_by_places posts all }) posts
  are-left clients all long from = record {
    long = length-map all (λ places. map (line_at posts) places) ∙ long;
    each = λ c low. left-at all c (omega (arith, low, long)) ∙ from c (omega (arith, low, long));
  }

  pub next-at : (clients : List ℕ) (all : List (List ℕ)) (c : ℕ) → c < length all
      → next_in (record { clients = clients; left = lines_by_places posts all }) c ≡ option_map (line_at posts) (slice_get (slice_index_or all c []) 0)
  next-at clients all c low = ap (λ l. slice_get l 0) (left-at all c low) ∙ slice_get-map (line_at posts) (slice_index_or all c []) 0

  pub left-without : (clients : List ℕ) (all : List (List ℕ)) (c : ℕ) → c < length all
      → ◌≡◌ {A = ClientsLeft} (record { clients = clients; left = lines_by_places posts (without_first c all) })
      (without_next (record { clients = clients; left = lines_by_places posts all }) c)
  left-without clients all c low = ap (λ (l : List (List Line)). record { clients = clients; left = l })
      (map-set (λ places. map (line_at posts) places) all c (drop 1 (slice_index_or all c []))
      ∙ ap (set (lines_by_places posts all) c) (sym (drop-map (line_at posts) 1 (slice_index_or all c [])) ∙ ap (drop 1) (sym (left-at all c low))))

  pub counts-are : (all : List (List ℕ)) → map (λ (l : List Line). length l) (lines_by_places posts all) ≡ map (λ (l : List ℕ). length l) all
  counts-are [] = refl
  counts-are (places ∷ all) = ap (λ n. n ∷ map (λ (l : List Line). length l) (lines_by_places posts all)) (length-map places (line_at posts))
      ∙ ap (λ ns. length places ∷ ns) (counts-are all)

-- ---- the posts of a script

-- the client of a post, and that it is one of the clients
pub client-at : (script : Script) (posts : List Post) (i : ℕ) (d : Post) → posts ≡ script.posts → i < length posts
    → (line_at (lines_posted script) i).client ≡ (get_or posts i d).client
client-at script posts i d same there =
    ap (λ (l : Line). l.client) (get_or-map (line_of script.texts) script.posts i d no_line (omega (arith, there, ap length same)))
    ∙ sym (ap (λ (ps : List Post). (get_or ps i d).client) same)

pub client-known : (script : Script) (i : ℕ) → IsPosted script → i < length (lines_posted script)
    → (line_at (lines_posted script) i).client < length script.clients
client-known script i posted there = All-get_or (λ (l : Line). l.client < length script.clients) (lines_posted script) i no_line there posted.clients

pub posts-long : (script : Script) (posts : List Post) → posts ≡ script.posts → length (lines_posted script) ≡ length posts
posts-long script posts same = length-map script.posts (line_of script.texts) ∙ sym (ap length same)

-- the numbers of clients and events are small, and each client's lines are numbered
pub posted-fits : {B : Type 0} (asked : Asked B) (script : Script) → IsPosted script → asked.clients ≡ script.clients
    → asked.posts ≡ lines_posted script → IsFit asked
posted-fits asked script posted clients posts = record {
  events = λ c. subst (λ es. event_of es c < 2 ^ 64) (sym clients) (small script.clients c (all-small script.clients posted.events));
  posters = subst (λ cs. All (λ (line : Line). line.client < length cs) asked.posts) (sym clients)
      (subst (λ ls. All (λ (line : Line). line.client < length script.clients) ls) (sym posts) posted.clients);
  few = omega (arith, posted.most, ap length clients);
  numbered = λ c. subst (λ ls. IsNumbered 0 (of c ls)) (sym posts) (posted.numbered c);
}
  where
    small : (es : List ℕ) (c : ℕ) → AllByRecursion (λ e. e ≤ 31) es → event_of es c < 2 ^ 64
    small [] c all = omega arith
    small (e ∷ es) zero all = omega (arith, all.0)
    small (e ∷ es) (suc c) all = small es c all.1

    all-small : (es : List ℕ) → All (λ e. e ≤ 31) es → AllByRecursion (λ e. e ≤ 31) es
    all-small es all = recursion_from_All (λ e. e ≤ 31) es all

-- ---- how many are left

counts-next : (all : List (List ℕ)) (i n : ℕ) → i < length all → n ≡ length (slice_index_or all i [])
    → map (λ (l : List ℕ). length l) (take i all) ++ n ∷ [] ≡ map (λ (l : List ℕ). length l) (take (suc i) all)
counts-next [] i n low is = absurd (omega (arith, low))
counts-next (places ∷ all) zero n low is = ap (λ k. k ∷ []) is
counts-next (places ∷ all) (suc i) n low is = ap (λ ns. length places ∷ ns) (counts-next all i n (omega (arith, low)) is)

pub counts-more : (all : List (List ℕ)) (i n : ℕ) → i < length all → n ≡ length (slice_index_or all i [])
    → map (λ (l : List ℕ). length l) (take i all) ++ n ∷ [] ≡ map (λ (l : List ℕ). length l) (take (i + 1) all)
counts-more all i n low is = rw add-one (counts-next all i n low is)
