-- The loops over texts and takes, a step further.
use Rattle.lwp_types.specs.declared.call.Line.{Line}
use Rattle.lwp_types.specs.declared.text.Text.{Text}
use Rattle.script_run.specs.Clients.{count_taken, counts_of, texts_for, texts_from}
use Rattle.pod_runner.specs.declared.session.Took.{Took}
use Rattle.std.proofs.Common.{Global, Vec, List, [], ap, arith, length, map, refl, slice_index_or, suc, sym, take, zero, ℕ, ◌++◌, ◌+◌, ◌-◌, ◌<◌, ◌∙◌, ◌∷◌, ◌≡◌}
use Rattle.std.proofs.lemmas.List.{length-map, take-map}

-- one element more of a list
take-next : {A : Type 0} (i : ℕ) (xs : List A) (d : A) → i < length xs → take (i + 1) xs ≡ take i xs ++ slice_index_or xs i d ∷ []
take-next i [] d h = absurd (omega (arith, h))
take-next zero (x ∷ xs) d h = refl
take-next (suc i) (x ∷ xs) d h = (let e : suc i + 1 ≡ suc (i + 1) = omega arith in ap (λ n. take n (x ∷ xs)) e)
    ∙ ap (λ ys. x ∷ ys) (take-next i xs d (omega (arith, h)))

-- ---- texts

-- those of one client more, counted from a
all-more : (a i : ℕ) (clients : List ℕ) (lines : List Line) → i < length clients
    → texts_from a (take (suc i) clients) lines ≡ texts_from a (take i clients) lines ++ texts_for (a + i) lines ∷ []
all-more a i [] lines h = absurd (omega (arith, h))
all-more a zero (e ∷ es) lines h = ap (λ k. texts_for k lines ∷ []) (omega arith)
all-more a (suc i) (e ∷ es) lines h = ap (λ ts. texts_for a lines ∷ ts) (all-more (a + 1) i es lines (omega (arith, h)))
    ∙ ap (λ k. texts_for a lines ∷ (texts_from (a + 1) (take i es) lines ++ texts_for k lines ∷ [])) (omega arith)

pub texts-next : (i : ℕ) (clients : List ℕ) (lines : List Line) → i < length clients
    → texts_from 0 (take (i + 1) clients) lines ≡ texts_from 0 (take i clients) lines ++ texts_for i lines ∷ []
texts-next i clients lines h =
    let next : i + 1 ≡ suc i = omega arith in
    let from : 0 + i ≡ i = omega arith in
    ap (λ k. texts_from 0 (take k clients) lines) next ∙ all-more 0 i clients lines h
    ∙ ap (λ k. texts_from 0 (take i clients) lines ++ texts_for k lines ∷ []) from

-- ---- counts

counts-more : (a i : ℕ) (texts : List (List (List ℕ))) (takes : List Took) → i < length texts
    → counts_of a (take (suc i) texts) takes ≡ counts_of a (take i texts) takes ++ (length (slice_index_or texts i []) - count_taken (a + i) takes) ∷ []
counts-more a i [] takes h = absurd (omega (arith, h))
counts-more a zero (t ∷ ts) takes h = ap (λ k. (length t - count_taken k takes) ∷ []) (omega arith)
counts-more a (suc i) (t ∷ ts) takes h = ap (λ ns. (length t - count_taken a takes) ∷ ns) (counts-more (a + 1) i ts takes (omega (arith, h)))
    ∙ ap (λ k. (length t - count_taken a takes) ∷ (counts_of (a + 1) (take i ts) takes ++ (length (slice_index_or ts i []) - count_taken k takes) ∷ [])) (omega
    arith)

pub counts-next : (i : ℕ) (texts : List (List (List ℕ))) (takes : List Took) → i < length texts
    → counts_of 0 (take (i + 1) texts) takes ≡ counts_of 0 (take i texts) takes ++ (length (slice_index_or texts i []) - count_taken i takes) ∷ []
counts-next i texts takes h =
    let next : i + 1 ≡ suc i = omega arith in
    let from : 0 + i ≡ i = omega arith in
    ap (λ k. counts_of 0 (take k texts) takes) next ∙ counts-more 0 i texts takes h
    ∙ ap (λ k. counts_of 0 (take i texts) takes ++ (length (slice_index_or texts i []) - count_taken k takes) ∷ []) from

-- the texts of a client, as a list
abbrev pub items_of : Vec Text Global → List (List ℕ)
items_of v = v.items

pub counts-on : (i : ℕ) (vs : List (Vec Text Global)) (takes : List Took) (counts : List ℕ) (v : Vec Text Global) (n : ℕ) → i < length vs
    → slice_index_or vs i v ≡ v
    → counts ≡ counts_of 0 (map items_of (take i vs)) takes → n ≡ length v.items - count_taken i takes
    → counts ++ n ∷ [] ≡ counts_of 0 (map items_of (take (i + 1) vs)) takes
counts-on i vs takes counts v n low is h e =
    ap (λ ns. ns ++ n ∷ []) (h ∙ ap (λ ts. counts_of 0 ts takes) (sym (take-map items_of i vs)))
    ∙ ap (λ m. counts_of 0 (take i (map items_of vs)) takes ++ m ∷ [])
    (e ∙ ap (λ (ts : List (List ℕ)). length ts - count_taken i takes) (sym (at i vs low ∙ ap items_of is)))
    ∙ sym (counts-next i (map items_of vs) takes (omega (arith, low, length-map vs items_of)))
    ∙ ap (λ ts. counts_of 0 ts takes) (take-map items_of (i + 1) vs)
  where
    at : (i : ℕ) (vs : List (Vec Text Global)) → i < length vs → slice_index_or (map items_of vs) i [] ≡ (slice_index_or vs i v).items
    at i [] low = absurd (omega (arith, low))
    at zero (x ∷ xs) low = refl
    at (suc i) (x ∷ xs) low = at i xs (omega (arith, low))
