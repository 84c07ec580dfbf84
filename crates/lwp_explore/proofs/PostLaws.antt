-- The places of clients' posts, one by one.
use Rattle.event_gate.specs.Clients.{of}
use Rattle.lwp_explore.specs.Posts.{all_places, places_from}
use Rattle.lwp_types.specs.declared.call.Line.{Line}
use Rattle.script_text.specs.Script.{line_of}
use Rattle.script_text.specs.declared.script.Post.{Post}
use Rattle.std.proofs.Common.{Bool, List, Option, Some, [], ap, arith, cond, false, get_or, length, map, refl, slice_get, suc, sym, take, true}
use Rattle.std.proofs.Common.{zero, ℕ, ◌++◌, ◌+◌, ◌<◌, ◌∙◌, ◌∷◌, ◌≡◌, ◌≤◌, ◌-◌}
use Rattle.std.proofs.Math.Seq.{take-suc}
use Rattle.std.proofs.lemmas.List.{length-map}
use Rattle.std.specs.List.{range_with_len}
use Rattle.std.specs.Prelude.{if◌then◌else◌, slice_index_or, ◌==◌}

-- ---- one post more

-- its place, if it is this client's
abbrev place_if : ℕ → ℕ → Post → List ℕ
place_if c k post = if post.client == c then k ∷ [] else []

places_push : (c k : ℕ) (posts : List Post) (post : Post)
    → places_from c k (posts ++ post ∷ []) ≡ places_from c k posts ++ place_if c (k + length posts) post
places_push c k [] post = let same : k + 0 ≡ k = omega arith in ap (λ n. place_if c n post) (sym same)
places_push c k (p ∷ posts) post =
    let same : (k + 1) + length posts ≡ k + suc (length posts) = omega arith in
    by (p.client == c) (places_push c (k + 1) posts post ∙ ap (λ n. places_from c (k + 1) posts ++ place_if c n post) same)
  where
    by : (b : Bool) → places_from c (k + 1) (posts ++ post ∷ []) ≡ places_from c (k + 1) posts ++ place_if c (k + suc (length posts)) post
        → (if b then k ∷ places_from c (k + 1) (posts ++ post ∷ []) else places_from c (k + 1) (posts ++ post ∷ []))
        ≡ (if b then k ∷ places_from c (k + 1) posts else places_from c (k + 1) posts) ++ place_if c (k + suc (length posts)) post
    by true later = ap (λ ks. k ∷ ks) later
    by false later = later

length_take : (posts : List Post) (n : ℕ) → n < length posts → length (take n posts) ≡ n
length_take [] n low = absurd (omega (arith, low))
length_take (p ∷ posts) zero low = refl
length_take (p ∷ posts) (suc n) low = ap suc (length_take posts n (omega (arith, low)))

module _ (c : ℕ) (posts : List Post) (place : ℕ) (d : Post) (low : place < length posts) where
  more : places_from c 0 (take (place + 1) posts) ≡ places_from c 0 (take place posts) ++ place_if c place (get_or posts place d)
  more = let on : place + 1 ≡ suc place = omega arith in
      let at : 0 + length (take place posts) ≡ place = omega (arith, length_take posts place low) in
      ap (λ n. places_from c 0 (take n posts)) on ∙ ap (places_from c 0) (take-suc posts place d low)
      ∙ places_push c 0 (take place posts) (get_or posts place d) ∙ ap (λ n. places_from c 0 (take place posts) ++ place_if c n (get_or posts place d)) at

  -- it is the client's
  pub put_place : (held new : List ℕ) → held ≡ places_from c 0 (take place posts) → ((get_or posts place d).client == c) ≡ true
      → new ≡ held ++ place ∷ [] → new ≡ places_from c 0 (take (place + 1) posts)
  put_place held new was is put = put ∙ ap (λ ks. ks ++ place ∷ []) was
      ∙ ap (λ b. places_from c 0 (take place posts) ++ (if b then place ∷ [] else [])) (sym is) ∙ sym more

  -- it is another's
  pub pass_place : (held : List ℕ) → held ≡ places_from c 0 (take place posts) → ((get_or posts place d).client == c) ≡ false
      → held ≡ places_from c 0 (take (place + 1) posts)
  pass_place held was is = was ∙ sym (nothing (places_from c 0 (take place posts)))
      ∙ ap (λ b. places_from c 0 (take place posts) ++ (if b then place ∷ [] else [])) (sym is) ∙ sym more
    where
      nothing : (ks : List ℕ) → ks ++ [] ≡ ks
      nothing [] = refl
      nothing (k ∷ ks) = ap (λ l. k ∷ l) (nothing ks)

-- ---- all of them

length_range : (a n : ℕ) → length (range_with_len a n) ≡ n
length_range a zero = refl
length_range a (suc n) = ap suc (length_range (a + 1) n)

pub length_all : (n : ℕ) (posts : List Post) → length (all_places n posts) ≡ n
length_all n posts = length-map (range_with_len 0 n) (λ c. places_from c 0 posts) ∙ length_range 0 n

pub at_client : (n c : ℕ) (posts : List Post) (d : List ℕ) → c < n → slice_index_or (all_places n posts) c d ≡ places_from c 0 posts
at_client n c posts d low = at 0 n c low ∙ (let same : 0 + c ≡ c = omega arith in ap (λ k. places_from k 0 posts) same)
  where
    at : (a n k : ℕ) → k < n → slice_index_or (map (λ c. places_from c 0 posts) (range_with_len a n)) k d ≡ places_from (a + k) 0 posts
    at a zero k low = absurd (omega (arith, low))
    at a (suc n) zero low = let same : a ≡ a + 0 = omega arith in ap (λ k. places_from k 0 posts) same
    at a (suc n) (suc k) low = let same : (a + 1) + k ≡ a + suc k = omega arith in
        at (a + 1) n k (omega (arith, low)) ∙ ap (λ k. places_from k 0 posts) same

-- ---- the lines there

module _ (c : ℕ) (texts : List (List ℕ)) where
  pub as_many : (k : ℕ) (posts : List Post) → length (places_from c k posts) ≡ length (of c (map (line_of texts) posts))
  as_many k [] = refl
  as_many k (p ∷ posts) = by (p.client == c) (as_many (k + 1) posts)
    where
      by : (b : Bool) → length (places_from c (k + 1) posts) ≡ length (of c (map (line_of texts) posts))
          → length (if b then k ∷ places_from c (k + 1) posts else places_from c (k + 1) posts)
          ≡ length (cond b (line_of texts p ∷ of c (map (line_of texts) posts)) (of c (map (line_of texts) posts)))
      by true later = ap suc later
      by false later = later

  -- the line at a place
  pub record IsLineAt (k : ℕ) (posts : List Post) (place : ℕ) (line : Option Line) : Type 0 where
    pub from : k ≤ place
    pub within : place < k + length posts
    pub is : (d : Post) → line ≡ Some (line_of texts (get_or posts (place - k) d))

  pub line_at : (k : ℕ) (posts : List Post) (n d : ℕ) → n < length (places_from c k posts)
      → IsLineAt k posts (slice_index_or (places_from c k posts) n d) (slice_get (of c (map (line_of texts) posts)) n)
  line_at k [] n d low = absurd (omega (arith, low))
  line_at k (p ∷ posts) n d low = by (p.client == c) n low (λ m less. later (places_from c (k + 1) posts) m (line_at (k + 1) posts m d less))
    where
      later : (ks : List ℕ) (m : ℕ) → IsLineAt (k + 1) posts (slice_index_or ks m d) (slice_get (of c (map (line_of texts) posts)) m)
          → IsLineAt k (p ∷ posts) (slice_index_or ks m d) (slice_get (of c (map (line_of texts) posts)) m)
      later ks m at = record {
        from = omega (arith, at.from);
        within = omega (arith, at.within);
        is = λ post. at.is post ∙ (let on : slice_index_or ks m d - k ≡ suc (slice_index_or ks m d - (k + 1)) = omega (arith, at.from) in
            ap (λ i. Some (line_of texts (get_or (p ∷ posts) i post))) (sym on));
      }

      by : (b : Bool) (n : ℕ) → n < length (if b then k ∷ places_from c (k + 1) posts else places_from c (k + 1) posts)
          → ((m : ℕ) → m < length (places_from c (k + 1) posts)
          → IsLineAt k (p ∷ posts) (slice_index_or (places_from c (k + 1) posts) m d) (slice_get (of c (map (line_of texts) posts)) m))
          → IsLineAt k (p ∷ posts) (slice_index_or (if b then k ∷ places_from c (k + 1) posts else places_from c (k + 1) posts) n d)
          (slice_get (cond b (line_of texts p ∷ of c (map (line_of texts) posts)) (of c (map (line_of texts) posts))) n)
      by true zero low rest = record {
        from = omega arith;
        within = omega arith;
        is = λ post. let none : 0 ≡ k - k = omega arith in ap (λ i. Some (line_of texts (get_or (p ∷ posts) i post))) none;
      }
      by true (suc m) low rest = rest m (omega (arith, low))
      by false n low rest = rest n low
