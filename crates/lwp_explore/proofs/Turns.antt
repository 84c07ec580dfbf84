-- The takes of a session, one by one.
use Rattle.event_gate.specs.Clients.{of}
use Rattle.event_gate.specs.History.{lines_of}
use Rattle.event_gate.specs.Shelves.{event_of}
use Rattle.lwp_explore.specs.Cores.{World, count_at, with_taken}
use Rattle.lwp_types.specs.declared.call.Line.{Line}
use Rattle.lwp_types.specs.CountLaws.{count-cons, one}
use Rattle.pod_runner.specs.Snapshots.{taken_by, taken_of}
use Rattle.pod_runner.specs.declared.session.Took.{Took}
use Rattle.script_session.specs.History.{pair_of, pairs_of}
use Rattle.std.proofs.Common.{All, Bool, List, Some, [], ap, arith, cond, eqb, false, length, length-append, map, refl, replicate}
use Rattle.std.proofs.Common.{slice_get, subst, suc, sym, true, zero, ℕ, ◌++◌, ◌+◌, ◌<◌, ◌∙◌, ◌∷◌, ◌≡◌, ◌≢◌}
use Rattle.std.proofs.lemmas.Bool.{eq-eqb, ne_eqb}
use Rattle.std.proofs.lemmas.List.{append_assoc, get_or_append_left, map-append}
use Rattle.std.proofs.lemmas.List.Sums.{fold-append}
use Rattle.std.specs.List.{range_with_len}
use Rattle.std.specs.Prelude.{slice_index_or, slice_set, ◌==◌}

-- ---- lists

module _ {A : Type 0} where
  last_at : (xs : List A) (x d : A) → slice_index_or (xs ++ x ∷ []) (length xs) d ≡ x
  last_at [] x d = refl
  last_at (y ∷ xs) x d = last_at xs x d

  pub all_before : (P : A → Type 0) (xs : List A) (x : A) → All P (xs ++ x ∷ []) → All P xs
  all_before P xs x h k d within = subst P (get_or_append_left xs (x ∷ []) d k within) (h k d (omega (arith, within, length-append xs (x ∷ []))))

  pub all_last : (P : A → Type 0) (xs : List A) (x : A) → All P (xs ++ x ∷ []) → P x
  all_last P xs x h = subst P (last_at xs x x) (h (length xs) x (omega (arith, length-append xs (x ∷ []))))

  pub middle_at : (xs : List A) (x : A) (ys : List A) → slice_get (xs ++ x ∷ ys) (length xs) ≡ Some x
  middle_at [] x ys = refl
  middle_at (y ∷ xs) x ys = middle_at xs x ys

-- what a function has at each of some numbers, where one is changed
range_same : (f g : ℕ → ℕ) (a n : ℕ) → ((m : ℕ) → a < m + 1 → g m ≡ f m) → map f (range_with_len a n) ≡ map g (range_with_len a n)
range_same f g a zero same = refl
range_same f g a (suc n) same = (λ i. sym (same a (omega arith)) i ∷ range_same f g (a + 1) n (λ m h. same m (omega (arith, h))) i)

range_set : (f g : ℕ → ℕ) (c : ℕ) → ((m : ℕ) → m ≢ c → g m ≡ f m) → (a n k : ℕ) → c ≡ a + k → k < n
    → slice_set (map f (range_with_len a n)) k (g c) ≡ map g (range_with_len a n)
range_set f g c same a zero k is within = absurd (omega (arith, within))
range_set f g c same a (suc n) zero is within =
    let here : c ≡ a = omega (arith, is) in
    (λ i. g (here i) ∷ range_same f g (a + 1) n (λ m h. same m (λ e. omega (arith, h, e, here))) i)
range_set f g c same a (suc n) (suc k) is within =
    (λ i. sym (same a (λ e. omega (arith, is, e))) i ∷ range_set f g c same (a + 1) n k (omega (arith, is)) (omega (arith, within)) i)

range_at : (f : ℕ → ℕ) (a n k : ℕ) → k < n → slice_index_or (map f (range_with_len a n)) k 0 ≡ f (a + k)
range_at f a zero k within = absurd (omega (arith, within))
range_at f a (suc n) zero within = ap f (omega arith)
range_at f a (suc n) (suc k) within = range_at f (a + 1) n k (omega (arith, within)) ∙ ap f (omega arith)

-- ---- the lines of a client

module _ (c : ℕ) where
  pub of_append : (xs ys : List Line) → of c (xs ++ ys) ≡ of c xs ++ of c ys
  of_append [] ys = refl
  of_append (x ∷ xs) ys = by (eqb x.client c) (of_append xs ys)
    where
      by : (b : Bool) → of c (xs ++ ys) ≡ of c xs ++ of c ys → cond b (x ∷ of c (xs ++ ys)) (of c (xs ++ ys)) ≡ cond b (x ∷ of c xs) (of c xs) ++ of c ys
      by true h = ap (λ l. x ∷ l) h
      by false h = h

  of_first : (x : Line) (ys : List Line) → of c (x ∷ []) ++ of c ys ≡ of c (x ∷ ys)
  of_first x ys = by (eqb x.client c)
    where
      by : (b : Bool) → cond b (x ∷ []) [] ++ of c ys ≡ cond b (x ∷ of c ys) (of c ys)
      by true = refl
      by false = refl

  abbrev is_own : Took → Bool
  is_own took = took.line.client == c

  pub as_many : (takes : List Took) → length (of c (lines_of (pairs_of takes))) ≡ taken_of takes c
  as_many [] = refl
  as_many (t ∷ takes) = by (eqb t.line.client c) (as_many takes) ∙ sym (count-cons is_own t takes)
    where
      by : (b : Bool) → length (of c (lines_of (pairs_of takes))) ≡ taken_of takes c
          → length (cond b (t.line ∷ of c (lines_of (pairs_of takes))) (of c (lines_of (pairs_of takes)))) ≡ one b + taken_of takes c
      by true h = omega (arith, h)
      by false h = omega (arith, h)

  -- one take more counts as its client says
  pub taken_push : (takes : List Took) (t : Took) → taken_of (takes ++ t ∷ []) c ≡ taken_of takes c + one (eqb t.line.client c)
  taken_push takes t = fold-append (λ (n : ℕ) took. n + cond (is_own took) 1 0) 0 takes (t ∷ [])

own_line : (t : Took) → of t.line.client (t.line ∷ []) ≡ t.line ∷ []
own_line t = ap (λ b. cond b (t.line ∷ []) []) (eq-eqb t.line.client t.line.client refl)

-- one take more counts for its client, and for no other
pub one_more : (t : Took) (takes : List Took) → taken_of (takes ++ t ∷ []) t.line.client ≡ taken_of takes t.line.client + 1
one_more t takes = taken_push t.line.client takes t ∙ ap (λ b. taken_of takes t.line.client + one b) (eq-eqb t.line.client t.line.client refl)

pub no_more : (t : Took) (c : ℕ) → c ≢ t.line.client → (takes : List Took) → taken_of (takes ++ t ∷ []) c ≡ taken_of takes c
no_more t c other takes =
    let same : taken_of (takes ++ t ∷ []) c ≡ taken_of takes c + 0 =
    taken_push c takes t ∙ ap (λ b. taken_of takes c + one b) (ne_eqb t.line.client c (λ e. other (sym e))) in
    omega (arith, same)

-- so do the counts of all clients
pub counts_more : (clients : ℕ) (t : Took) (takes : List Took) → t.line.client < clients
    → with_taken (taken_by clients takes) t.line.client ≡ taken_by clients (takes ++ t ∷ [])
counts_more clients t takes within =
    let c = t.line.client in
    ap (λ n. slice_set (taken_by clients takes) c n)
    (ap (λ n. n + 1) (range_at (taken_of takes) 0 clients c within ∙ ap (taken_of takes) (omega arith)) ∙ sym (one_more t takes))
    ∙ range_set (taken_of takes) (taken_of (takes ++ t ∷ [])) c (λ m other. no_more t m other takes) 0 clients c (omega arith) within

pub count_now : (clients c : ℕ) (takes : List Took) → c < clients → count_at (taken_by clients takes) c ≡ taken_of takes c
count_now clients c takes within = range_at (taken_of takes) 0 clients c within ∙ ap (taken_of takes) (omega arith)

pub none_yet : (a n : ℕ) → map (taken_of []) (range_with_len a n) ≡ replicate n 0
none_yet a zero = refl
none_yet a (suc n) = ap (λ l. 0 ∷ l) (none_yet (a + 1) n)

-- ---- takes in turn

-- of each client, these takes have its first lines, in order, and then come those left
pub record AreInTurn {B : Type 0} (world : World B) (takes : List Took) (left : List Line) : Type 0 where
  pub events : All (λ t. event_of world.events t.1.client ≡ t.0) (pairs_of takes)
  pub lines : (c : ℕ) → of c (lines_of (pairs_of takes)) ++ of c left ≡ of c world.posts
  pub clients : All (λ took. took.line.client < length world.events) takes

module _ {B : Type 0} (world : World B) (t : Took) (takes : List Took) (left : List Line) (turn : AreInTurn world (takes ++ t ∷ []) left) where
  split : pairs_of (takes ++ t ∷ []) ≡ pairs_of takes ++ pair_of t ∷ []
  split = map-append pair_of takes (t ∷ [])

  lines_split : lines_of (pairs_of (takes ++ t ∷ [])) ≡ lines_of (pairs_of takes) ++ t.line ∷ []
  lines_split = ap lines_of split ∙ map-append (λ (p : ℕ × Line). p.1) (pairs_of takes) (pair_of t ∷ [])

  lines_of_client : (c : ℕ) → of c (lines_of (pairs_of takes)) ++ of c (t.line ∷ left) ≡ of c world.posts
  lines_of_client c =
      ap (λ l. of c (lines_of (pairs_of takes)) ++ l) (sym (of_first c t.line left))
      ∙ sym (append_assoc (of c (lines_of (pairs_of takes))) (of c (t.line ∷ [])) (of c left))
      ∙ ap (λ l. l ++ of c left) (sym (of_append c (lines_of (pairs_of takes)) (t.line ∷ [])) ∙ ap (of c) (sym lines_split))
      ∙ turn.lines c

  pub turn_before : AreInTurn world takes (t.line ∷ left)
  turn_before = record {
    events = all_before (λ p. event_of world.events p.1.client
        ≡ p.0) (pairs_of takes) (pair_of t) (subst (λ ps. All (λ p. event_of world.events p.1.client ≡ p.0) ps) split turn.events);
    lines = lines_of_client;
    clients = all_before (λ took. took.line.client < length world.events) takes t turn.clients;
  }

  pub event_is : event_of world.events t.line.client ≡ t.event
  event_is = all_last (λ p. event_of world.events p.1.client ≡ p.0) (pairs_of takes) (pair_of t) (subst (λ ps. All
      (λ p. event_of world.events p.1.client ≡ p.0) ps) split turn.events)

  pub client_within : t.line.client < length world.events
  client_within = all_last (λ took. took.line.client < length world.events) takes t turn.clients

  pub line_next : slice_get (of t.line.client world.posts) (count_at (taken_by (length world.events) takes) t.line.client) ≡ Some t.line
  line_next =
      let c = t.line.client in
      let own : of c (t.line ∷ left) ≡ t.line ∷ of c left = sym (of_first c t.line left) ∙ ap (λ l. l ++ of c left) (own_line t) in
      (λ i. slice_get (sym (lines_of_client c) i) (count_now (length world.events) c takes client_within i))
      ∙ (λ i. slice_get (of c (lines_of (pairs_of takes)) ++ own i) (sym (as_many c takes) i))
      ∙ middle_at (of c (lines_of (pairs_of takes))) t.line (of c left)
