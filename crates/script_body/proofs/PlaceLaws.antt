-- What a take and a post more make of the lines by their places, and of the counts.
use Rattle.event_gate.proofs.ShelfLaws.{Counts, add_next, add_of, begins, no_counts, take_of, taken_none}
use Rattle.event_gate.specs.Shelves.{Shelf, after_add_to, after_next, after_take_from, bare, bare_rack, first_left, full_shelves}
use Rattle.event_gate.specs.Shelves.{has_left, left_in_all, left_of_client, shelf_of, with_one_more}
use Rattle.lwp_types.specs.declared.call.Line.{Line}
use Rattle.script_body.specs.Posted.{IsPosted}
use Rattle.script_body.specs.Stocked.{stock_of}
use Rattle.script_text.specs.Script.{line_of, lines_posted}
use Rattle.script_text.specs.declared.script.Post.{Post}
use Rattle.script_text.specs.declared.script.Script.{Script}
use Rattle.script_body.specs.Places.{line_at, no_line, shelf_by, shelves_by}
use Rattle.std.specs.Prelude.{IfNone, IfSome, is_some, option_map, replicate}
use Rattle.std.specs.Slice.Scan.{HoldsNowhere, IsFirstPlace}
use Rattle.std.proofs.Common.{List, None, Option, Some, [], ap, arith, drop, get_or, length, length-set, map, refl, set, slice_get}
use Rattle.std.proofs.Common.{slice_index, subst, suc, sym, take, zero, ℕ, ◌++◌, ◌+◌, ◌-◌, ◌<◌, ◌∙◌, ◌∷◌, ◌≡◌, ◌≤◌}
use Rattle.std.proofs.lemmas.List.{drop-map, get_or-map, get_or_default, length-map, length-replicate, map-append, map-set, take-map, take_all}
use Rattle.std.proofs.lemmas.List.Elements.{All-get_or}
use Rattle.std.proofs.Math.ListN.{get_or-eq_default}
use Rattle.std.proofs.lemmas.Option.{get_or_from_slice_get, slice_get-map, slice_get_within}

-- ---- one shelf of places, as a shelf of lines

moved-is : (lines : List Line) (p : Shelf ℕ) → shelf_by lines (after_next p) ≡ after_next (shelf_by lines p)
moved-is lines p =
    let f = line_at lines in
    ap (λ (xs : List Line). record { taken = xs; left = map f (drop 1 p.left) })
    (map-append f p.taken (take 1 p.left) ∙ ap (λ xs. map f p.taken ++ xs) (sym (take-map f 1 p.left)))
    ∙ ap (λ (xs : List Line). record { taken = map f p.taken ++ take 1 (map f p.left); left = xs }) (sym (drop-map f 1 p.left))

more-is : (lines : List Line) (p : Shelf ℕ) (place : ℕ) → shelf_by lines (with_one_more p place) ≡ with_one_more (shelf_by lines p) (line_at lines place)
more-is lines p place = ap (λ (xs : List Line). record { taken = map (line_at lines) p.taken; left = xs }) (map-append (line_at lines) p.left (place ∷ []))

-- the lines of an event are those of its places
shelf-is : (lines : List Line) (places : List (Shelf ℕ)) (e : ℕ) → e < length places → shelf_by lines (shelf_of places e) ≡ shelf_of (shelves_by lines places) e
shelf-is lines places e there = sym (get_or-map (shelf_by lines) places e bare bare there)

-- ---- a take

pub first-is : (lines : List Line) (places : List (Shelf ℕ)) (e : ℕ) → e < length places
    → option_map (line_at lines) (first_left places e) ≡ first_left (shelves_by lines places) e
first-is lines places e there = sym (slice_get-map (line_at lines) (shelf_of places e).left 0)
    ∙ ap (λ (s : Shelf Line). slice_get s.left 0) (shelf-is lines places e there)

pub after-is : (lines : List Line) (places : List (Shelf ℕ)) (e : ℕ) → e < length places
    → shelves_by lines (after_take_from places e) ≡ after_take_from (shelves_by lines places) e
after-is lines places e there =
    map-set (shelf_by lines) places e (after_next (shelf_of places e))
    ∙ ap (set (shelves_by lines places) e) (moved-is lines (shelf_of places e) ∙ ap after_next (shelf-is lines places e there))

-- of an event a place is left where a line is
pub left-is : (lines : List Line) (places : List (Shelf ℕ)) (e : ℕ) → e < length places → has_left places e ≡ has_left (shelves_by lines places) e
left-is lines places e there = some-is (first_left places e) ∙ ap is_some (first-is lines places e there)
  where
    some-is : (o : Option ℕ) → is_some o ≡ is_some (option_map (line_at lines) o)
    some-is None = refl
    some-is (Some place) = refl

pub none-is : (lines : List Line) (places : List (Shelf ℕ)) (from : ℕ) (o : Option ℕ) → length places ≡ 256
    → IfNone o (HoldsNowhere (has_left places) from 32) → IfNone o (HoldsNowhere (has_left (shelves_by lines places)) from 32)
none-is lines places from None long none = λ k low high. sym (left-is lines places k (omega (arith, high, long))) ∙ none k low high
none-is lines places from (Some e) long none = tt

pub next-is : (lines : List Line) (places : List (Shelf ℕ)) (from : ℕ) (o : Option ℕ) → length places ≡ 256 → IfSome o (λ e. e < 32)
    → IfSome o (λ e. IsFirstPlace (has_left places) from 32 e) → IfSome o (λ e. IsFirstPlace (has_left (shelves_by lines places)) from 32 e)
next-is lines places from None long within is = tt
next-is lines places from (Some e) long within is = record {
  low = is.low;
  high = is.high;
  before = λ k low under. sym (left-is lines places k (omega (arith, under, within, long))) ∙ is.before k low under;
  hit = λ below. sym (left-is lines places e (omega (arith, within, long))) ∙ is.hit below;
}

pub line_taken : (lines : List Line) (left : List ℕ) (places : List (Shelf ℕ)) (e i n place : ℕ) → Counts left (shelves_by lines places)
    → e < length places → i < length left → first_left places e ≡ Some place → i ≡ (line_at lines place).client → n ≡ get_or left i n
    → (1 ≤ n) × Counts (set left i (n - 1)) (shelves_by lines (after_take_from places e))
line_taken lines left places e i n place h there known first i_is n_is =
    let took = take_of left (shelves_by lines places) e i n (line_at lines place) h
    (omega (arith, there, length-map places (shelf_by lines))) known
    (sym (first-is lines places e there) ∙ ap (option_map (line_at lines)) first) i_is n_is in
    (took.0, subst (Counts (set left i (n - 1))) (sym (after-is lines places e there)) took.1)

-- where no place is left, none is taken
pub none_taken : (places : List (Shelf ℕ)) (e : ℕ) → first_left places e ≡ None → after_take_from places e ≡ places
none_taken places e none = taken_none places e none

-- ---- the line that a place means

pub line-at : (script : Script) (i : ℕ) (post : Post) → slice_get script.posts i ≡ Some post → line_at (lines_posted script) i ≡ line_of script.texts post
line-at script i post is =
    get_or-map (line_of script.texts) script.posts i post no_line (slice_get_within script.posts i post is)
    ∙ ap (line_of script.texts) (get_or_from_slice_get script.posts i post post is)

pub no-line-at : (script : Script) (i : ℕ) → slice_get script.posts i ≡ None → line_at (lines_posted script) i ≡ no_line
no-line-at script i none =
    get_or-eq_default (lines_posted script) no_line (omega (arith, length-map script.posts (line_of script.texts), past script.posts i none))
  where
    past : (xs : List Post) (i : ℕ) → slice_get xs i ≡ None → length xs ≤ i
    past [] i none = omega arith
    past (x ∷ xs) zero none = absurd (cc none)
    past (x ∷ xs) (suc i) none = omega (arith, past xs i none)

-- ---- all posts, one after the other

-- the places of the first i posts of a script are on the shelves of their events
pub record Shelved (script : Script) (i : ℕ) (places : List (Shelf ℕ)) (left : List ℕ) : Type 0 where
  pub places_are : length places ≡ 256
  pub left_are : length left ≡ 256
  pub stocked_are : shelves_by (lines_posted script) places ≡ full_shelves script.clients (take i (lines_posted script))
  pub all : left_in_all (shelves_by (lines_posted script) places) ≡ i
  pub counts : Counts left (shelves_by (lines_posted script) places)

pub shelved-none : (script : Script) (places : List (Shelf ℕ)) (left : List ℕ) → places ≡ bare_rack → left ≡ replicate 256 0 → Shelved script 0 places left
shelved-none script places left p_is l_is =
    let lines = lines_posted script in
    let bares : shelves_by lines places ≡ replicate 256 bare = ap (shelves_by lines) p_is ∙ none 256 in
    let start = begins script.clients (shelves_by lines places) bares in
    record {
      places_are = ap length p_is ∙ length-replicate {A = Shelf ℕ} 256 bare;
      left_are = ap length l_is ∙ length-replicate {A = ℕ} 256 0;
      stocked_are = start.0;
      all = start.1;
      counts = λ c. ap (λ ns. slice_index ns c) l_is ∙ no_counts c ∙ ap (left_of_client c) (sym bares);
    }
  where
    none : (n : ℕ) → shelves_by (lines_posted script) (replicate n bare) ≡ replicate n bare
    none zero = refl
    none (suc n) = ap (λ ss. bare ∷ ss) (none n)

-- the client of a post is one of the clients
pub client-known : (script : Script) (posts : List Post) (i c : ℕ) (d : Post) → IsPosted script → posts ≡ script.posts → i < length posts
    → c ≡ (get_or posts i d).client → c < length script.clients
client-known script posts i c d posted same there c_is =
    let within : i < length script.posts = omega (arith, there, ap length same) in
    let line = get_or-map (line_of script.texts) script.posts i d (line_of script.texts d) within in
    let known = All-get_or (λ (l : Line). l.client < length script.clients) (lines_posted script) i (line_of script.texts d)
    (omega (arith, within, length-map script.posts (line_of script.texts))) posted.clients in
    omega (arith, known, ap (λ (l : Line). l.client) line, c_is, ap (λ (ps : List Post). (get_or ps i d).client) same)

pub shelved-more : (script : Script) (clients : List ℕ) (posts : List Post) (i c e n : ℕ) (d : Post) (z : ℕ) (places : List (Shelf ℕ)) (left : List ℕ)
    → Shelved script i places left → clients ≡ script.clients → posts ≡ script.posts
    → i < length posts → c ≡ (get_or posts i d).client → c < length clients → c < 256 → e ≡ get_or clients c z → e < 256 → n ≡ get_or left c n
    → (n ≤ i) × Shelved script (i + 1) (after_add_to places e i) (set left c (n + 1))
shelved-more script clients posts i c e n d z places left h clients_are posts_are there c_is c_known c_low e_is e_low n_is =
    let lines = lines_posted script in
    let line = line_at lines i in
    let within : i < length script.posts = omega (arith, there, ap length posts_are) in
    let under : i < length lines = omega (arith, within, length-map script.posts (line_of script.texts)) in
    let line_is : line ≡ line_of script.texts (get_or script.posts i d) = get_or-map (line_of script.texts) script.posts i d no_line within in
    let client_is : c ≡ line.client = c_is ∙ ap (λ (ps : List Post). (get_or ps i d).client) posts_are ∙ sym (ap (λ (l : Line). l.client) line_is) in
    let event_is : e
    ≡ slice_index script.clients line.client = e_is ∙ get_or_default clients c z 0 c_known
    ∙ ap (λ (es : List ℕ). get_or es c 0) clients_are ∙ ap (λ k. get_or script.clients k 0) client_is in
    let shelves = shelves_by lines places in
    let long : length shelves ≡ 256 = length-map places (shelf_by lines) ∙ h.places_are in
    let added = add_of left shelves e c n line h.counts (omega (arith, e_low, long)) (omega (arith, c_low, h.left_are)) client_is n_is in
    let now : shelves_by lines (after_add_to places e i) ≡ after_add_to shelves e line
    = map-set (shelf_by lines) places e (with_one_more (shelf_of places e) i)
    ∙ ap (set shelves e)
    (more-is lines (shelf_of places e) i ∙ ap (λ s. with_one_more s line) (shelf-is lines places e (omega (arith, e_low, h.places_are)))) in
    let next = add_next script.clients lines i e line shelves (shelves_by lines (after_add_to places e i)) under
    (get_or_default lines i no_line line under) h.stocked_are h.all event_is e_low now in (
      omega (arith, added.0, h.all),
      record {
        places_are = length-set places e (with_one_more (shelf_of places e) i) ∙ h.places_are;
        left_are = length-set left c (n + 1) ∙ h.left_are;
        stocked_are = next.0;
        all = next.1;
        counts = subst (Counts (set left c (n + 1))) (sym now) added.1;
      },
    )

pub shelved-all : (script : Script) (i : ℕ) (places : List (Shelf ℕ)) (left : List ℕ) → Shelved script i places left
    → length script.posts ≤ i → shelves_by (lines_posted script) places ≡ stock_of script
shelved-all script i places left h past =
    h.stocked_are ∙ ap (full_shelves script.clients) (take_all i (lines_posted script) (omega (arith, past, length-map script.posts (line_of script.texts))))
