-- Names that are found by their bytes.
use Rattle.std.proofs.Common.{◌≡◌, ℕ, suc, Bool, true, false, ◌&&◌, ◌||◌, cond, List, [], ◌∷◌, ◌++◌}
use Rattle.std.proofs.Common.{length, Option, Some, None, is_some, option_map, refl, sym, ap, ◌∙◌}
use Rattle.std.specs.Prelude.{Result, Ok, Err, OnErr, OnOk}
use Rattle.std.specs.Str.{bytes_eq}
use Rattle.std.specs.Cmp.Lexicographic.{bytes_decides, nat_list_eq_equiv}
use Rattle.script_text.specs.Parts.{IsIndexed, place_in}
use Rattle.script_text.specs.Meaning.{contains_name, is_some_text, place, enter}
use Rattle.script_text.specs.WordIndex.{Numbered, Puts, number_of}

-- ---- A name that is none of these.

absent_by : (b : Bool) (rest : Bool) (m n : ℕ) → (b || rest) ≡ false → (rest ≡ false → m ≡ n) → cond b 0 (suc m) ≡ suc n
absent_by true rest m n h f = absurd cc
absent_by false rest m n h f = ap suc (f h)

-- it would come after the last
pub absent_place : (names : List (List ℕ)) (w : List ℕ) → contains_name names w ≡ false → place names w ≡ length names
absent_place [] w h = refl
absent_place (n ∷ ns) w h = absent_by (bytes_eq n w) (contains_name ns w) (place ns w) (length ns) h (absent_place ns w)

last_place : (names : List (List ℕ)) (w : List ℕ) → contains_name names w ≡ false → place (names ++ w ∷ []) w ≡ length names
last_place [] w h = rw (nat_list_eq_equiv.refl w) refl
last_place (n ∷ ns) w h = absent_by (bytes_eq n w) (contains_name ns w) (place (ns ++ w ∷ []) w) (length ns) h (last_place ns w)

-- and once it is entered, it does
pub entered_place : (names : List (List ℕ)) (w : List ℕ) → contains_name names w ≡ false → place (enter names w) w ≡ length names
entered_place names w h = rw h (by (is_some_text w))
  where
    by : (b : Bool) → place (cond (b && true) (names ++ w ∷ []) names) w ≡ length names
    by true = last_place names w h
    by false = absent_place names w h

-- a name that is there is entered already
pub entered_again : (names : List (List ℕ)) (w : List ℕ) → contains_name names w ≡ true → enter names w ≡ names
entered_again names w h = rw h (by (is_some_text w))
  where
    by : (b : Bool) → cond (b && false) (names ++ w ∷ []) names ≡ names
    by true = refl
    by false = refl

-- ---- Numbers.

mapped : (o : Option ℕ) → is_some (option_map suc o) ≡ is_some o
mapped None = refl
mapped (Some n) = refl

pub found : (names : List (List ℕ)) (w : List ℕ) → contains_name names w ≡ is_some (place_in names w)
found [] w = refl
found (n ∷ ns) w = by (bytes_eq n w) (found ns w)
  where
    by : (b : Bool) → contains_name ns w ≡ is_some (place_in ns w) → (b || contains_name ns w) ≡ is_some (cond b (Some 0) (option_map suc (place_in ns w)))
    by true h = refl
    by false h = h ∙ sym (mapped (place_in ns w))

one_more : (b : Bool) (k : ℕ) (o : Option ℕ) → ((i : ℕ) → o ≡ Some i → k ≡ i) → (i : ℕ) → cond b (Some 0) (option_map suc o) ≡ Some i → cond b 0 (suc k) ≡ i
one_more true k o h i e = cc
one_more false k None h i e = absurd cc
one_more false k (Some n) h i e = let up : Some (suc n) ≡ Some i = e in let same : k ≡ n = h n refl in ap suc same ∙ cc

pub found_place : (names : List (List ℕ)) (w : List ℕ) (i : ℕ) → place_in names w ≡ Some i → place names w ≡ i
found_place [] w i e = absurd cc
found_place (n ∷ ns) w i e = one_more (bytes_eq n w) (place ns w) (place_in ns w) (found_place ns w) i e

raised : (b : Bool) (k : ℕ) (o : Option ℕ) → option_map suc (cond b (Some k) o) ≡ cond b (Some (suc k)) (option_map suc o)
raised true k o = refl
raised false k o = refl

neither : (a b : Bool) → (a || b) ≡ false → (a ≡ false) × (b ≡ false)
neither true b h = absurd cc
neither false b h = (refl, h)

-- a name that is new has the next number
pub pushed : (names : List (List ℕ)) (w : List ℕ) → contains_name names w ≡ false → (v : List ℕ)
    → place_in (names ++ w ∷ []) v ≡ cond (bytes_eq w v) (Some (length names)) (place_in names v)
pushed [] w new v = refl
pushed (n ∷ ns) w new v = by (bytes_eq n v) refl (pushed ns w (neither (bytes_eq n w) (contains_name ns w) new).1 v)
  where
    apart : bytes_eq n v ≡ true → bytes_eq w v ≡ false
    apart h = nat_list_eq_equiv.symm w v ∙ sym (nat_list_eq_equiv.congr n v w h) ∙ (neither (bytes_eq n w) (contains_name ns w) new).0

    by : (b : Bool) → bytes_eq n v ≡ b → place_in (ns ++ w ∷ []) v ≡ cond (bytes_eq w v) (Some (length ns)) (place_in ns v)
        → cond b (Some 0) (option_map suc (place_in (ns ++ w ∷ []) v))
        ≡ cond (bytes_eq w v) (Some (suc (length ns))) (cond b (Some 0) (option_map suc (place_in ns v)))
    by true h later = sym (λ i. cond (apart h i) (Some (suc (length ns))) (Some 0))
    by false h later = ap (option_map suc) later ∙ raised (bytes_eq w v) (length ns) (place_in ns v)

pub put_indexed : (names : List (List ℕ)) (w : List ℕ) (old new : Numbered) (n : ℕ) → IsIndexed names old → contains_name names w ≡ false → n ≡ length names
    → Puts old new w (Some n) → IsIndexed (names ++ w ∷ []) new
put_indexed names w old new n kept h e puts v = puts v ∙ (λ i. cond (bytes_eq w v) (Some (e i)) (kept v i)) ∙ sym (pushed names w h v)

-- what was put and taken back leaves the index as it was
pub back_indexed : (names : List (List ℕ)) (w : List ℕ) (old mid new : Numbered) (n : Option ℕ) → IsIndexed names old → contains_name names w ≡ false
    → Puts old mid w n → Puts mid new w None → IsIndexed names new
back_indexed names w old mid new n kept h puts takes v = takes v ∙ by (bytes_eq w v) refl
  where
    none : (o : Option ℕ) → false ≡ is_some o → o ≡ None
    none None e = refl
    none (Some k) e = absurd cc

    by : (b : Bool) → bytes_eq w v ≡ b → cond b None (number_of mid v) ≡ place_in names v
    by true e = sym (none (place_in names v) (sym h ∙ ap (contains_name names) ((bytes_decides w v).0 e) ∙ found names v))
    by false e = puts v ∙ (λ i. cond (e i) n (number_of old v)) ∙ kept v

-- ---- Results.

pub on_ok : {A E P : Type 0} (r : Result A E) → P → OnOk r P
on_ok (Ok x) p = p
on_ok (Err e) p = tt

pub on_err : {A E P : Type 0} (r : Result A E) → P → OnErr r P
on_err (Ok x) p = tt
on_err (Err e) p = p
