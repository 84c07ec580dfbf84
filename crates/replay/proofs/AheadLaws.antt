-- Bytes that are compared with what was recorded, as they are written.
use Rattle.replay.proofs.CommonLaws.{fewer, take-next}
use Rattle.replay.proofs.EndLaws.{all-taken}
use Rattle.replay.proofs.LineLaws.{count-append, count-cons, one}
use Rattle.replay.specs.Following.{Departs, Following, IsUnlike, bytes_told}
use Rattle.replay.specs.Recorded.{is_newline, line_count}
use Rattle.std.specs.Int.{from_le_bytes, to_le_bytes, w64}
use Rattle.std.proofs.Common.{Bool, List, [], ap, append-nil, append_assoc, arith, drop, drop-drop, false, get_or, inl, inr, length, length-append, length-drop}
use Rattle.std.proofs.Common.{length-take, refl, subst, suc, sym, take, take-add, true, zero, ℕ, ◌++◌, ◌+◌, ◌-◌, ◌<◌, ◌∙◌, ◌∷◌, ◌≡◌, ◌≢◌, ◌≤◌}
use Rattle.std.specs.Prelude.{MatchBool, nat_eq}
use Rattle.std.proofs.lemmas.Bool.{eq-eqb, eqb-true}
use Rattle.std.proofs.lemmas.List.{drop-take, take_rest}

-- ---- the front of a text

-- so many bytes more
pub same-on : (a b : List ℕ) (i k : ℕ) → take i a ≡ take i b → take k (drop i a) ≡ take k (drop i b) → take (i + k) a ≡ take (i + k) b
same-on a b i k front behind = take-add i k a ∙ ap (λ l. l ++ take k (drop i a)) front ∙ ap (λ l. take i b ++ l) behind ∙ sym (take-add i k b)

pub same-next : (a b : List ℕ) (i : ℕ) → i < length a → i < length b → take i a ≡ take i b → get_or a i 0 ≡ get_or b i 0 → take (i + 1) a ≡ take (i + 1) b
same-next a b i low low_other front same = take-next a i low ∙ ap (λ l. l ++ get_or a i 0 ∷ []) front ∙ ap (λ x. take i b ++ x ∷ []) same
    ∙ sym (take-next b i low_other)

-- the bytes in the midst of both
pub middle-same : (a b : List ℕ) (i k : ℕ) → i + k ≤ length b → take (length b) a ≡ b → take k (drop i a) ≡ take k (drop i b)
middle-same a b i k low same = sym (drop-take i k a) ∙ ap (drop i) (sym (fewer (i + k) (length b) a low) ∙ ap (take (i + k)) same) ∙ drop-take i k b

-- a byte that differs
pub departs-at : (a b : List ℕ) (i : ℕ) → i < length b → get_or a i 0 ≢ get_or b i 0 → Departs a b
departs-at a b i low apart same = apart (sym (get-take (length b) i a low) ∙ ap (λ l. get_or l i 0) same)
  where
    get-take : (n i : ℕ) (a : List ℕ) → i < n → get_or (take n a) i 0 ≡ get_or a i 0
    get-take zero i a low = absurd (omega (arith, low))
    get-take (suc n) i [] low = refl
    get-take (suc n) zero (x ∷ a) low = refl
    get-take (suc n) (suc i) (x ∷ a) low = get-take n i a (omega (arith, low))

pub departs-short : (a b : List ℕ) → length a < length b → Departs a b
departs-short a b short same = omega (arith, short, ap length same, length-take (length b) a)

-- ---- eight bytes as a number

pub departs-number : (a b : List ℕ) (i x y : ℕ) → i + 8 ≤ length b → x ≡ from_le_bytes w64 (take 8 (drop i a))
    → y ≡ from_le_bytes w64 (take 8 (drop i b)) → x ≢ y → Departs a b
departs-number a b i x y low one other apart same = apart (one ∙ ap (from_le_bytes w64) (middle-same a b i 8 low same) ∙ sym other)

pub same-number : (a b : List ℕ) (i x y : ℕ) → take i a ≡ take i b → to_le_bytes w64 x ≡ take 8 (drop i a)
    → to_le_bytes w64 y ≡ take 8 (drop i b) → x ≡ y → take (i + 8) a ≡ take (i + 8) b
same-number a b i x y front one other same = same-on a b i 8 front (sym one ∙ ap (to_le_bytes w64) same ∙ other)

-- the last eight
pub same-last : (a b : List ℕ) (i x y : ℕ) → 8 ≤ length b → length b - 8 ≤ i → take i a ≡ take i b
    → to_le_bytes w64 x ≡ take 8 (drop (length b - 8) a) → to_le_bytes w64 y ≡ take 8 (drop (length b - 8) b) → x ≡ y → take (length b) a ≡ b
same-last a b i x y long past front one other same =
    let n = length b - 8 in
    let before : take n a ≡ take n b = sym (fewer n i a past) ∙ ap (take n) front ∙ fewer n i b past in
    ap (λ k. take k a) {y = n + 8} (omega (arith, long)) ∙ same-number a b n x y before one other same
    ∙ ap (λ k. take k b) {y = length b} (omega (arith, long)) ∙ all-taken b

-- by these the whole front is known
pub last-eight : (a b : List ℕ) (i x y : ℕ) → 8 ≤ length b → length b - 8 ≤ i → take i a ≡ take i b
    → x ≡ from_le_bytes w64 (take 8 (drop (length b - 8) a)) → to_le_bytes w64 x ≡ take 8 (drop (length b - 8) a)
    → y ≡ from_le_bytes w64 (take 8 (drop (length b - 8) b)) → to_le_bytes w64 y ≡ take 8 (drop (length b - 8) b)
    → MatchBool (nat_eq x y) (take (length b) a ≡ b) (Departs a b)
last-eight a b i x y long past front one one_bytes other other_bytes = by_test (nat_eq x y) refl
  where
    by_test : (t : Bool) → nat_eq x y ≡ t → MatchBool t (take (length b) a ≡ b) (Departs a b)
    by_test true is = same-last a b i x y long past front one_bytes other_bytes (eqb-true x y is)
    by_test false is = departs-number a b (length b - 8) x y (omega (arith, long)) one other (λ same. let on = eq-eqb x y same in cc)

-- ---- how many lines

one-few : (t : Bool) → one t ≤ 1
one-few true = omega arith
one-few false = omega arith

pub count-few : (xs : List ℕ) → line_count xs ≤ length xs
count-few [] = omega arith
count-few (x ∷ xs) = omega (arith, count-cons x xs, one-few (is_newline x), count-few xs)

pub count-front : (xs : List ℕ) (n : ℕ) → line_count (take n xs) ≤ n
count-front xs n = omega (arith, count-few (take n xs), length-take n xs)

pub count-next : (xs : List ℕ) (i n : ℕ) → i < length xs → n ≡ line_count (take i xs) → (t : Bool) → is_newline (get_or xs i 0) ≡ t
    → n + one t ≡ line_count (take (i + 1) xs)
count-next xs i n low so_far t is =
    omega (arith, so_far, ap line_count (take-next xs i low), count-append (take i xs) (get_or xs i 0 ∷ []), count-cons (get_or xs i 0) [], ap one is)

-- ---- what a step has told

pub count-past : (xs : List ℕ) (i n : ℕ) → i < length xs → n ≡ line_count (take i xs) → is_newline (get_or xs i 0) ≡ false → n ≡ line_count (take (i + 1) xs)
count-past xs i n low so_far is = omega (arith, count-next xs i n low so_far false is)

-- so many bytes more
pub count-on : (xs : List ℕ) (i k n m : ℕ) → n ≡ line_count (take i xs) → m ≡ line_count (take k (drop i xs)) → n + m ≡ line_count (take (i + k) xs)
count-on xs i k n m front behind = omega (arith, front, behind, ap line_count (take-add i k xs), count-append (take i xs) (take k (drop i xs)))

-- all that are left
pub count-rest : (xs : List ℕ) (i n m : ℕ) → i ≤ length xs → n ≡ line_count (take i xs) → m ≡ line_count (take (length xs - i) (drop i xs))
    → n + m ≡ line_count xs
count-rest xs i n m within front behind = count-on xs i (length xs - i) n m front behind
    ∙ ap (λ k. line_count (take k xs)) {y = length xs} (omega (arith, within)) ∙ ap line_count (all-taken xs)

module _ (rest : List ℕ) (ahead : ℕ) (low : ahead ≤ length rest) where
  -- all of it was recorded
  pub ahead-length : length (take ahead rest ++ []) ≡ ahead
  ahead-length = ap length (append-nil (take ahead rest)) ∙ omega (arith, length-take ahead rest, low)

  pub ahead-same : take (length (take ahead rest ++ [])) rest ≡ take ahead rest ++ []
  ahead-same = ap (λ n. take n rest) ahead-length ∙ sym (append-nil (take ahead rest))

  -- some of it wasn't
  pub ahead-departs : (extra : List ℕ) → Departs (drop ahead rest) extra → Departs rest (take ahead rest ++ extra)
  ahead-departs extra departs same =
      let front : length (take ahead rest) ≡ ahead = omega (arith, length-take ahead rest, low) in
      departs
      (middle-same rest (take ahead rest ++ extra) ahead (length extra) (omega (arith, length-append (take ahead rest) extra, front)) same
      ∙ ap (take (length extra)) (ap (λ n. drop n (take ahead rest ++ extra)) (sym front) ∙ drop-front (take ahead rest) extra) ∙ all-taken extra)
    where
      drop-front : (xs ys : List ℕ) → drop (length xs) (xs ++ ys) ≡ ys
      drop-front [] ys = refl
      drop-front (x ∷ xs) ys = drop-front xs ys

  -- so much more
  pub ahead-on : (more : List ℕ) → take (length more) (drop ahead rest) ≡ more → take (ahead + length more) rest ++ [] ≡ (take ahead rest ++ []) ++ more
  ahead-on more same = append-nil (take (ahead + length more) rest) ∙ take-add ahead (length more) rest
      ∙ ap (λ l. take ahead rest ++ l) same ∙ ap (λ l. l ++ more) (sym (append-nil (take ahead rest)))

-- more bytes after some that differ
pub departs-on : (rest bytes more : List ℕ) → Departs rest bytes → Departs rest (bytes ++ more)
departs-on rest bytes more departs same = departs
    (sym (fewer (length bytes) (length (bytes ++ more)) rest (omega (arith, length-append bytes more))) ∙ ap (take (length bytes)) same ∙ front bytes more)
  where
    front : (xs ys : List ℕ) → take (length xs) (xs ++ ys) ≡ xs
    front [] ys = refl
    front (x ∷ xs) ys = ap (λ l. x ∷ l) (front xs ys)

pub unlike-on : (rest bytes more : List ℕ) → IsUnlike rest bytes → (bytes ≡ [] → Departs rest more) → IsUnlike rest (bytes ++ more)
unlike-on rest [] more h first = inr (first refl)
unlike-on rest (b ∷ bytes) more (inl e) first = absurd (nonempty e)
  where
    nonempty : b ∷ bytes ≡ [] → ⊥
    nonempty e = omega (arith, ap length e)
unlike-on rest (b ∷ bytes) more (inr departs) first = inr (departs-on rest (b ∷ bytes) more departs)

-- ---- what a follower has told

-- how it is seen
abbrev pub seen : (recorded step : List ℕ) (at ticks faults : ℕ) → Following
seen recorded step at ticks faults = record { recorded = recorded; at = at; lines = line_count (take at recorded); ticks = ticks; step = step; faults = faults }

-- the bytes after those told
pub behind : (recorded : List ℕ) (at ahead : ℕ) → take (length recorded - (at + ahead)) (drop (at + ahead) recorded) ≡ drop ahead (drop at recorded)
behind recorded at ahead = take_rest recorded (at + ahead) ∙ ap (λ n. drop n recorded) (omega arith) ∙ sym (drop-drop ahead at recorded)

-- where bytes are told that were recorded there
pub told-ahead : (f : Following) (recorded extra bytes : List ℕ) (at ahead ticks faults : ℕ)
    → seen recorded (take ahead (drop at recorded) ++ extra) at ticks faults ≡ f
    → extra ≡ [] → at + ahead ≤ length recorded → take (length bytes) (take (length recorded - (at + ahead)) (drop (at + ahead) recorded)) ≡ bytes
    → bytes_told (seen recorded (take (ahead + length bytes) (drop at recorded) ++ extra) at ticks faults) ≡ bytes_told f ++ take (length bytes) bytes
told-ahead f recorded extra bytes at ahead ticks faults is none low same =
    let front = length recorded ∷ at ∷ line_count (take at recorded) ∷ ticks ∷ recorded in
    let before = take at recorded in
    let step = take ahead (drop at recorded) ++ extra in
    let next : take (ahead + length bytes) (drop at recorded) ++ extra ≡ step ++ bytes =
    ap (λ l. take (ahead + length bytes) (drop at recorded) ++ l) none
    ∙ ahead-on (drop at recorded) ahead (omega (arith, low, length-drop at recorded)) bytes (ap (take (length bytes)) (sym (behind recorded at ahead)) ∙ same)
    ∙ ap (λ l. (take ahead (drop at recorded) ++ l) ++ bytes) (sym none) in
    subst (λ g. front ++ (before ++ (take (ahead + length bytes) (drop at recorded) ++ extra)) ≡ bytes_told g ++ take (length bytes) bytes) is
    (ap (λ l. front ++ (before ++ l)) next ∙ ap (λ l. front ++ l) (sym (append_assoc before step bytes)) ∙ sym (append_assoc front (before ++ step) bytes)
    ∙ ap (λ l. (front ++ (before ++ step)) ++ l) (sym (all-taken bytes)))

-- where they weren't
pub unlike-more : (recorded extra bytes new : List ℕ) (at ahead : ℕ) → IsUnlike (drop ahead (drop at recorded)) extra → new ≡ extra ++ bytes
    → (extra ≡ [] → Departs (take (length recorded - (at + ahead)) (drop (at + ahead) recorded)) bytes) → IsUnlike (drop ahead (drop at recorded)) new
unlike-more recorded extra bytes new at ahead h is first = subst (λ l. IsUnlike (drop ahead (drop at recorded)) l) (sym is)
    (unlike-on (drop ahead (drop at recorded)) extra bytes h (λ none. subst (λ l. Departs l bytes) (behind recorded at ahead) (first none)))

-- how it is then, where all of the step is told
abbrev pub told_on : Following → Following
told_on f = record f { at = f.at + length f.step; lines = f.lines + line_count f.step; step = [] }

-- where all of it was recorded
pub passes : (f : Following) (recorded extra : List ℕ) (at ahead ticks faults : ℕ)
    → seen recorded (take ahead (drop at recorded) ++ extra) at ticks faults ≡ f
    → extra ≡ [] → at + ahead ≤ length recorded
    → (take (length f.step) (drop f.at f.recorded) ≡ f.step) × (seen recorded extra (at + ahead) ticks faults ≡ told_on f)
passes f recorded extra at ahead ticks faults is none low =
    subst (λ (g : Following). (take (length g.step) (drop g.at g.recorded) ≡ g.step) × (seen recorded extra (at + ahead) ticks faults ≡ told_on g)) is
    (subst
    (λ (e : List ℕ). (take (length (take ahead rest ++ e)) rest ≡ take ahead rest ++ e)
    × (seen recorded e (at + ahead) ticks faults ≡ told_on (seen recorded (take ahead rest ++ e) at ticks faults)))
    (sym none)
    (ahead-same rest ahead within, moved))
  where
    rest : List ℕ
    rest = drop at recorded

    within : ahead ≤ length rest
    within = omega (arith, low, length-drop at recorded)

    with_lines : ℕ → ℕ → Following
    with_lines place lines = record { recorded = recorded; at = place; lines = lines; ticks = ticks; step = []; faults = faults }

    moved : seen recorded [] (at + ahead) ticks faults ≡ told_on (seen recorded (take ahead rest ++ []) at ticks faults)
    moved = ap (λ n. with_lines (at + n) (line_count (take (at + ahead) recorded))) (sym (ahead-length rest ahead within))
        ∙ ap (λ n. with_lines (at + length (take ahead rest ++ [])) n)
        (ap line_count (take-add at ahead recorded) ∙ count-append (take at recorded) (take ahead rest)
        ∙ ap (λ l. line_count (take at recorded) + line_count l) (sym (append-nil (take ahead rest))))

-- where not all of it was
pub stays : (f : Following) (recorded extra : List ℕ) (at ahead ticks faults : ℕ)
    → seen recorded (take ahead (drop at recorded) ++ extra) at ticks faults ≡ f
    → (extra ≡ [] → ⊥) → at + ahead ≤ length recorded → IsUnlike (drop ahead (drop at recorded)) extra → Departs (drop f.at f.recorded) f.step
stays f recorded extra at ahead ticks faults is some low h = subst (λ (g : Following). Departs (drop g.at g.recorded) g.step) is
    (ahead-departs (drop at recorded) ahead (omega (arith, low, length-drop at recorded)) extra (by h))
  where
    by : IsUnlike (drop ahead (drop at recorded)) extra → Departs (drop ahead (drop at recorded)) extra
    by (inl none) = absurd (some none)
    by (inr departs) = departs
