-- Scripts with the lines that were posted.
use Rattle.event_gate.specs.Port.{of}
use Rattle.lwp_live.specs.Laws.{HasPostTexts, RecordedPosts}
use Rattle.lwp_live.specs.Reading.{with_line}
use Rattle.lwp_live.specs.Recorded.{lines_of_client, recorded, with_arrival}
use Rattle.lwp_live.specs.declared.arrival.Arrival.{Arrival}
use Rattle.lwp_types.specs.declared.call.Line.{Line}
use Rattle.script_text.specs.Script.{line_of, lines_posted}
use Rattle.script_text.specs.declared.script.Post.{Post}
use Rattle.script_text.specs.declared.script.Script.{Script}
use Rattle.std.proofs.Common.{Bool, List, [], ap, arith, cond, eqb, false, filter, fold, length, length-append}
use Rattle.std.proofs.Common.{map, refl, slice_index_or, sym, true, ℕ, ◌+◌, ◌++◌, ◌<◌, ◌∙◌, ◌∷◌, ◌≡◌}
use Rattle.std.proofs.Math.Seq.{get_or-append_seam}
use Rattle.std.proofs.lemmas.List.{get_or_append_left, map-append}
use Rattle.std.specs.List.{AllByRecursion}

-- each text stands there still when one comes after
same_lines : (texts : List (List ℕ)) (text : List ℕ) (posts : List Post) → AllByRecursion (λ (p : Post). p.text < length texts) posts
    → map (line_of (texts ++ text ∷ [])) posts ≡ map (line_of texts) posts
same_lines texts text [] h = refl
same_lines texts text (p ∷ posts) h =
    let here = get_or_append_left texts (text ∷ []) [] p.text h.0 in
    λ i. record { client = p.client; seq = p.seq; text = here i } ∷ same_lines texts text posts h.1 i

count_if : (b : Bool) (x : Line) (p : Post) (xs : List Line) (ps : List Post) → length ps ≡ length xs
    → length (cond b (p ∷ ps) ps) ≡ length (cond b (x ∷ xs) xs)
count_if true x p xs ps h = omega (arith, h)
count_if false x p xs ps h = h

-- as many posts as lines
pub same_count : (c : ℕ) (texts : List (List ℕ)) (posts : List Post) → lines_of_client c posts ≡ length (of c (map (line_of texts) posts))
same_count c texts [] = refl
same_count c texts (p ∷ posts) =
    count_if (eqb p.client c) (line_of texts p) p (of c (map (line_of texts) posts)) (filter (λ (q : Post). eqb q.client c) posts) (same_count c texts posts)

more_texts : (n m : ℕ) (posts : List Post) → m ≡ n + 1 → AllByRecursion (λ (p : Post). p.text < n) posts → AllByRecursion (λ (p : Post). p.text < m) posts
more_texts n m [] e h = tt
more_texts n m (p ∷ posts) e h = ((let l = h.0 in omega (arith, e, l)), more_texts n m posts e h.1)

one_more : (n : ℕ) (posts : List Post) (p : Post) → p.text < n → AllByRecursion (λ (q : Post). q.text < n) posts
    → AllByRecursion (λ (q : Post). q.text < n) (posts ++ p ∷ [])
one_more n [] p lt h = (lt, tt)
one_more n (q ∷ posts) p lt h = (h.0, one_more n posts p lt h.1)

pub texts_after : (script : Script) (a : Arrival) → HasPostTexts script → HasPostTexts (with_arrival script a)
texts_after script a h =
    let more : length (script.texts ++ a.text ∷ []) ≡ length script.texts + 1 = length-append script.texts (a.text ∷ []) in
    one_more (length (script.texts ++ a.text ∷ [])) script.posts _ (omega (arith, more))
    (more_texts (length script.texts) (length (script.texts ++ a.text ∷ [])) script.posts more h)

pub posts_after : (script : Script) (a : Arrival) → HasPostTexts script → lines_posted (with_arrival script a) ≡ with_line (lines_posted script) a
posts_after script a h =
    let texts : List (List ℕ) = script.texts ++ a.text ∷ [] in
    let seq = same_count a.client script.texts script.posts in
    let text : slice_index_or texts (length script.texts) [] ≡ a.text = get_or-append_seam script.texts a.text [] [] in
    map-append (line_of texts) script.posts _
    ∙ (λ i. same_lines script.texts a.text script.posts h i ++ record { client = a.client; seq = seq i; text = text i } ∷ [])

recorded_from : (arrivals : List Arrival) (script : Script) → HasPostTexts script
    → lines_posted (fold with_arrival script arrivals) ≡ fold with_line (lines_posted script) arrivals
recorded_from [] script h = refl
recorded_from (a ∷ arrivals) script h =
    recorded_from arrivals (with_arrival script a) (texts_after script a h) ∙ ap (λ lines. fold with_line lines arrivals) (posts_after script a h)

pub recorded_posts : RecordedPosts
unfolding recorded
recorded_posts script arrivals h = recorded_from arrivals script h
