-- A tree of the least: how it is mended, and how the first leaf that has come is found.
use Rattle.std.proofs.Common.{List, None, Some, [], add-one, ap, arith, get_or, get_or-drop, get_or-set_other, get_or-set_same, inl, inr}
use Rattle.std.proofs.Common.{length, length-set, min, refl, set, suc, zero, drop, ℕ, ◌*◌, ◌+◌, ◌-◌, ◌<◌, ◌∙◌, ◌∷◌, ◌≡◌, ◌≢◌, ◌≤◌}
use Rattle.std.proofs.lemmas.Bool.{cases_eq, cases_lt, le-leb, lt-leb}
use Rattle.std.proofs.lemmas.List.{drop-set-add, drop-set-lt, length-drop}
use Rattle.pod_sched.specs.Timers.Minima.{IsLesser, IsMended, first_within, leaf_under, least, node}

-- ---- the leaves under a node

at_least : (k i : ℕ) → i ≤ leaf_under k i
at_least zero i = omega arith
at_least (suc k) i = omega (arith, at_least k (2 * i))

rises : (k i j : ℕ) → i < j → leaf_under k i < leaf_under k j
rises zero i j less = less
rises (suc k) i j less = rises k (2 * i) (2 * j) (omega (arith, less))

doubles : (k i : ℕ) → leaf_under k (2 * i) ≡ 2 * leaf_under k i
doubles zero i = refl
doubles (suc k) i = doubles k (2 * i)

pub one_higher : (k : ℕ) → leaf_under (k + 1) 1 ≡ 2 * leaf_under k 1
one_higher k = ap (λ m. leaf_under m 1) (add-one k) ∙ doubles k 1

-- ---- the first that is at most so much

first_is : (now : ℕ) (xs : List ℕ) (j : ℕ) → j < length xs → get_or xs j 0 ≤ now → ((i : ℕ) → i < j → now < get_or xs i 0) → first_within now xs ≡ Some j
first_is now [] j within here before = absurd (omega arith)
first_is now (x ∷ xs) zero within here before = rw (le-leb x now here) refl
first_is now (x ∷ xs) (suc j) within here before =
    rw (lt-leb x now (before 0 (omega arith)), first_is now xs j (omega arith) here (λ i less. before (suc i) (omega arith))) refl

first_none : (now : ℕ) (xs : List ℕ) → ((i : ℕ) → i < length xs → now < get_or xs i 0) → first_within now xs ≡ None
first_none now [] later = refl
first_none now (x ∷ xs) later = rw (lt-leb x now (later 0 (omega arith)), first_none now xs (λ i less. later (suc i) (omega arith))) refl

-- ---- the way down

-- the first leaf that has come is under this node, which stands so high over the leaves
pub record Descends (nodes : List ℕ) (width now k at : ℕ) : Type 0 where
  pub some : 1 ≤ at
  pub come : node nodes at ≤ now
  pub from : width ≤ leaf_under k at
  pub to : leaf_under k (at + 1) ≤ 2 * width
  pub before : (x : ℕ) → width ≤ x → x < leaf_under k at → now < node nodes x

module _ (nodes : List ℕ) (width now : ℕ) (mended : IsMended nodes width) where
  -- no leaf has come under a node that hasn't
  above : (k i : ℕ) → 1 ≤ i → leaf_under k (i + 1) ≤ 2 * width → now < node nodes i → (x : ℕ) → leaf_under k i ≤ x
      → x < leaf_under k (i + 1) → now < node nodes x
  above zero i some inside high x from to =
      let same : x ≡ i = omega (arith, from, to) in
      rw same high
  above (suc k) i some inside high x from to =
      let even : leaf_under k (2 * (i + 1)) ≡ leaf_under k (2 * i + 1 + 1) = ap (leaf_under k) (omega arith) in
      let low : i < width = omega (arith, at_least k (2 * (i + 1)), inside) in
      let lesser = mended i some low in
      elim (cases_lt x (leaf_under k (2 * i + 1))) [
        | inl left
            ↦ above k (2 * i) (omega arith) (omega (arith, rises k (2 * i + 1) (2 * i + 1 + 1) (omega arith), even, inside))
            (omega (arith, lesser, high)) x from left
        | inr right ↦ above k (2 * i + 1) (omega arith) (omega (arith, even, inside)) (omega (arith, lesser, high)) x right (omega (arith, even, to))
      ]

  pub inside : (k at : ℕ) → Descends nodes width now (suc k) at → at < width
  inside k at d = omega (arith, at_least k (2 * (at + 1)), d.to)

  pub goes_left : (k at : ℕ) → Descends nodes width now (suc k) at → node nodes (2 * at) ≤ now → Descends nodes width now k (2 * at)
  goes_left k at d come = record {
    some = omega (arith, d.some);
    come = come;
    from = d.from;
    to = omega (arith, d.to, rises k (2 * at + 1) (2 * (at + 1)) (omega arith));
    before = d.before;
  }

  pub goes_right : (k at : ℕ) → Descends nodes width now (suc k) at → now < node nodes (2 * at) → Descends nodes width now k (2 * at + 1)
  goes_right k at d late = record {
    some = omega arith;
    come = omega (arith, mended at d.some (inside k at d), d.come, late);
    from = omega (arith, d.from, rises k (2 * at) (2 * at + 1) (omega arith));
    to = omega (arith, d.to, even);
    before = λ x from to. elim (cases_lt x (leaf_under k (2 * at))) [
      | inl left ↦ d.before x from left
      | inr right ↦ above k (2 * at) (omega (arith, d.some)) (omega (arith, rises k (2 * at + 1) (2 * at + 1 + 1) (omega arith), even, d.to)) late x right to
    ];
  }
    where
      even : leaf_under k (2 * (at + 1)) ≡ leaf_under k (2 * at + 1 + 1)
      even = ap (leaf_under k) (omega arith)

  module _ (halves : length nodes ≡ 2 * width) where
    pub found : (at : ℕ) → Descends nodes width now 0 at → first_within now (drop width nodes) ≡ Some (at - width)
    found at d = first_is now (drop width nodes) (at - width)
        (omega (arith, length-drop width nodes, d.from, d.to, halves))
        (rw (get_or-drop width nodes (at - width) 0) here)
        (λ i less. rw (get_or-drop width nodes i 0) (d.before (width + i) (omega arith) (omega (arith, less, d.from))))
      where
        here : node nodes (width + (at - width)) ≤ now
        here = let same : width + (at - width) ≡ at = omega (arith, d.from) in rw same d.come

    module _ (height : ℕ) (full : width ≡ leaf_under height 1) where
      pub starts : node nodes 1 ≤ now → Descends nodes width now height 1
      starts come = record {
        some = omega arith;
        come = come;
        from = omega (arith, full);
        to = omega (arith, full, doubles height 1);
        before = λ x from to. absurd (omega (arith, from, to, full));
      }

      pub none_found : now < node nodes 1 → first_within now (drop width nodes) ≡ None
      none_found late = first_none now (drop width nodes) (λ i less.
          rw (get_or-drop width nodes i 0)
          (above height 1 (omega arith) (omega (arith, full, doubles height 1)) late (width + i) (omega (arith, full))
          (omega (arith, less, length-drop width nodes, halves, full, doubles height 1))))

-- ---- the least

-- a number that each has at least is at most the least
least_from : (r : ℕ) → r ≤ 18446744073709551615 → (xs : List ℕ) → ((i : ℕ) → i < length xs → r ≤ get_or xs i 0) → r ≤ least xs
least_from r most [] low = most
least_from r most (x ∷ xs) low = omega (arith, low 0 (omega arith), least_from r most xs (λ i less. low (suc i) (omega (arith, less))))

-- a number that each has at least, and one has, is the least
least_is : (r : ℕ) → r ≤ 18446744073709551615 → (xs : List ℕ) → ((i : ℕ) → i < length xs → r ≤ get_or xs i 0)
    → (j : ℕ) → j < length xs → get_or xs j 0 ≡ r → least xs ≡ r
least_is r most [] low j within here = absurd (omega arith)
least_is r most (x ∷ xs) low zero within here = omega (arith, here, least_from r most xs (λ i less. low (suc i) (omega (arith, less))))
least_is r most (x ∷ xs) low (suc j) within here =
    omega (arith, low 0 (omega arith), least_is r most xs (λ i less. low (suc i) (omega (arith, less))) j (omega (arith, within)) here)

-- a leaf that has what the node has over it, which no leaf below has less
record Under (nodes : List ℕ) (r from to : ℕ) : Type 0 where
  leaf : ℕ
  from_on : from ≤ leaf
  before : leaf < to
  has : node nodes leaf ≡ r
  low : (x : ℕ) → from ≤ x → x < to → r ≤ node nodes x

module _ (nodes : List ℕ) (width : ℕ) (mended : IsMended nodes width) where
  -- so it is under each node
  under : (k i : ℕ) → 1 ≤ i → leaf_under k (i + 1) ≤ 2 * width → Under nodes (node nodes i) (leaf_under k i) (leaf_under k (i + 1))
  under zero i some inside = record {
    leaf = i;
    from_on = omega arith;
    before = omega arith;
    has = refl;
    low = λ x from to. (let same : x ≡ i = omega (arith, from, to) in rw same (omega arith));
  }
  under (suc k) i some inside =
      let even : leaf_under k (2 * (i + 1)) ≡ leaf_under k (2 * i + 1 + 1) = ap (leaf_under k) (omega arith) in
      let low : i < width = omega (arith, at_least k (2 * (i + 1)), inside) in
      let lesser = mended i some low in
      let first = rises k (2 * i) (2 * i + 1) (omega arith) in
      let second = rises k (2 * i + 1) (2 * i + 1 + 1) (omega arith) in
      let left = under k (2 * i) (omega arith) (omega (arith, second, even, inside)) in
      let right = under k (2 * i + 1) (omega arith) (omega (arith, even, inside)) in
      let all : (x : ℕ) → leaf_under k (2 * i) ≤ x → x < leaf_under k (2 * (i + 1)) → node nodes i ≤ node nodes x =
      λ x from to. elim (cases_lt x (leaf_under k (2 * i + 1))) [
        | inl less ↦ omega (arith, lesser, left.low x from less)
        | inr more ↦ omega (arith, lesser, right.low x more (omega (arith, even, to)))
      ] in
      elim (cases_lt (node nodes (2 * i)) (node nodes (2 * i + 1))) [
        | inl less
            ↦ record {
              leaf = left.leaf;
              from_on = left.from_on;
              before = omega (arith, left.before, second, even);
              has = omega (arith, left.has, lesser, less);
              low = all;
            }
        | inr more
            ↦ record {
              leaf = right.leaf;
              from_on = omega (arith, right.from_on, first);
              before = omega (arith, right.before, even);
              has = omega (arith, right.has, lesser, more);
              low = all;
            }
      ]

  pub least_of : length nodes ≡ 2 * width → (height : ℕ) → width ≡ leaf_under height 1 → node nodes 1 ≤ 18446744073709551615
      → least (drop width nodes) ≡ node nodes 1
  least_of halves height full most =
      let top = under height 1 (omega arith) (omega (arith, full, doubles height 1)) in
      let long = length-drop width nodes in
      least_is (node nodes 1) most (drop width nodes)
      (λ i less. rw (get_or-drop width nodes i 0) (top.low (width + i) (omega (arith, full)) (omega (arith, less, long, halves, full, doubles height 1))))
      (top.leaf - width)
      (omega (arith, top.from_on, top.before, long, halves, full, doubles height 1))
      (rw (get_or-drop width nodes (top.leaf - width) 0)
      (let same : width + (top.leaf - width) ≡ top.leaf = omega (arith, top.from_on, full) in rw same top.has))

-- ---- the way up

-- the leaf is written, and the node over this one may not be mended
pub record IsMending (old nodes : List ℕ) (width leaf due at : ℕ) : Type 0 where
  pub some : 1 ≤ at
  pub within : at < 2 * width
  pub len : length nodes ≡ length old
  pub leaves : drop width nodes ≡ set (drop width old) leaf due
  pub others : (i : ℕ) → 1 ≤ i → i < width → 2 * i ≢ at → 2 * i + 1 ≢ at → IsLesser nodes i

-- a node that isn't written, and of which none below is written, stays mended
module _ (nodes : List ℕ) (at v : ℕ) where
  lesser_kept : (i : ℕ) → i ≢ at → 2 * i ≢ at → 2 * i + 1 ≢ at → IsLesser nodes i → IsLesser (set nodes at v) i
  lesser_kept i away left right was =
      rw (get_or-set_other nodes at i v 0 away, get_or-set_other nodes at (2 * i) v 0 left, get_or-set_other nodes at (2 * i + 1) v 0 right) was

module _ (old : List ℕ) (width leaf due : ℕ) (halves : length old ≡ 2 * width) (mended : IsMended old width) (leaf_in : leaf < width) where
  pub mending_starts : IsMending old (set old (width + leaf) due) width leaf due (width + leaf)
  mending_starts = record {
    some = omega (arith, leaf_in);
    within = omega (arith, leaf_in);
    len = length-set old (width + leaf) due;
    leaves = drop-set-add width old leaf due;
    others = λ i some below left right. lesser_kept old (width + leaf) due i (λ same. absurd (omega (arith, same, below))) left right (mended i some below);
  }

  module _ (nodes : List ℕ) (at half : ℕ) (was : IsMending old nodes width leaf due at) (some : 1 ≤ half) (low : 2 * half ≤ at) (high : at ≤ 2 * half + 1) where
    half_in : half < width
    half_in = omega (arith, low, was.within)

    pub mending_goes : IsMending old (set nodes half (min (node nodes (2 * half)) (node nodes (2 * half + 1)))) width leaf due half
    mending_goes = record {
      some = some;
      within = omega (arith, half_in);
      len = length-set nodes half _ ∙ was.len;
      leaves = drop-set-lt width nodes half _ half_in ∙ was.leaves;
      others = λ i i_some below left right. elim (cases_eq i half) [
        | inl same ↦ rw same here
        | inr away
            ↦ lesser_kept nodes half _ i away left right
            (was.others i i_some below (λ same. away (omega (arith, same, low, high))) (λ same. away (omega (arith, same, low, high))))
      ];
    }
      where
        here : IsLesser (set nodes half (min (node nodes (2 * half)) (node nodes (2 * half + 1)))) half
        here = rw (
          get_or-set_same nodes half (min (node nodes (2 * half)) (node nodes (2 * half + 1))) 0 (omega (arith, was.len, halves, half_in)),
          get_or-set_other nodes half (2 * half) (min (node nodes (2 * half)) (node nodes (2 * half + 1))) 0 (λ same. absurd (omega (arith, same, some))),
          get_or-set_other nodes half (2 * half + 1) (min (node nodes (2 * half)) (node nodes (2 * half + 1))) 0 (λ same. absurd (omega (arith, same, some))),
        ) refl

  pub mending_ends : (nodes : List ℕ) (at : ℕ) → IsMending old nodes width leaf due at → at ≤ 1 → IsMended nodes width
  mending_ends nodes at was low i some below =
      was.others i some below (λ same. absurd (omega (arith, same, low, some))) (λ same. absurd (omega (arith, same, low, some)))
