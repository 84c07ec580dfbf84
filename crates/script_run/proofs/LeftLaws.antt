-- What is left of each client after the lines taken, and what a session's end says of it.
use Rattle.event_gate.proofs.Lines.{cond_other, cond_same, of-append, same_or}
use Rattle.event_gate.specs.History.{IsClientHistory, lines_of}
use Rattle.event_gate.specs.Port.{IsNumbered, of}
use Rattle.event_gate.specs.Shelves.{bare, event_of, first_left, full, full_shelves, lines_for}
use Rattle.event_gate.specs.Texts.{lines_from}
use Rattle.pod_events.specs.Events.{EventState, is_takeable}
use Rattle.lwp_types.specs.Choice.{choice}
use Rattle.lwp_types.specs.declared.call.Line.{Line}
use Rattle.script_run.specs.Clients.{texts_for}
use Rattle.script_session.specs.History.{counts_from, pairs_of}
use Rattle.pod_runner.specs.Live.{is_take_of, lines_of_takes}
use Rattle.pod_runner.specs.Over.{can_take, events, halt_if, is_wanted, over}
use Rattle.pod_runner.specs.declared.session.Took.{Took}
use Rattle.trace_text.specs.declared.ends.Halt.{Halt}
use Rattle.trace_text.specs.declared.ends.Halt.TheVariants.{Ended, Stuck}
use Rattle.std.specs.List.{AllByRecursion, filter, list_any, range_with_len}
use Rattle.std.specs.Prelude.{All, if◌then◌else◌, is_some, map, ◌&&◌, ◌⊎◌}
use Rattle.std.proofs.Common.{Bool, List, None, Option, Some, [], ap, append_assoc, arith, cond, drop, eqb, false, inl, inr, length, length-append}
use Rattle.std.proofs.Common.{refl, slice_get, subst, suc, sym, true, zero, ℕ, ⊎_elim, ◌++◌, ◌+◌, ◌-◌, ◌<◌, ◌∙◌, ◌∷◌, ◌≡◌, ◌≢◌, ◌≤◌}
use Rattle.std.proofs.lemmas.Bool.{cases_lt, eqb-true}
use Rattle.std.proofs.lemmas.List.{append-nil, map-append}
use Rattle.std.proofs.lemmas.List.Elements.{All-from_recursion, filter-append, recursion_from_All}
use Rattle.std.proofs.lemmas.List.FromFn.{get_or-map-range_with_len}

-- ---- the lines of one client

-- a line of this client
abbrev IsOf : ℕ → Line → Type 0
IsOf c l = l.client ≡ c

of-all : (c : ℕ) (xs : List Line) → AllByRecursion (IsOf c) (of c xs)
of-all c [] = tt
of-all c (l ∷ ls) = by (eqb l.client c) refl (of-all c ls)
  where
    by : (b : Bool) → eqb l.client c ≡ b → AllByRecursion (IsOf c) (of c ls) → AllByRecursion (IsOf c) (cond b (l ∷ of c ls) (of c ls))
    by true is rest = (eqb-true l.client c is, rest)
    by false is rest = rest

all-drop : (P : Line → Type 0) (n : ℕ) (xs : List Line) → AllByRecursion P xs → AllByRecursion P (drop n xs)
all-drop P zero xs all = all
all-drop P (suc n) [] all = tt
all-drop P (suc n) (x ∷ xs) all = all-drop P n xs all.1

of-own : (c : ℕ) (xs : List Line) → AllByRecursion (IsOf c) xs → of c xs ≡ xs
of-own c [] all = refl
of-own c (l ∷ ls) all = cond_same l.client c (l ∷ of c ls) (of c ls) all.0 ∙ ap (λ xs. l ∷ xs) (of-own c ls all.1)

of-others : (c d : ℕ) (xs : List Line) → d ≢ c → AllByRecursion (IsOf d) xs → of c xs ≡ []
of-others c d [] other all = refl
of-others c d (l ∷ ls) other all = cond_other l.client c (l ∷ of c ls) (of c ls) (λ is. other (sym all.0 ∙ is)) ∙ of-others c d ls other all.1

-- ---- what is left

-- the lines of client c after those that were taken
abbrev behind : List Line → List Took → ℕ → List Line
behind posts takes c = drop (length (of c (lines_of (pairs_of takes)))) (of c posts)

behind-all : (posts : List Line) (takes : List Took) (c : ℕ) → AllByRecursion (IsOf c) (behind posts takes c)
behind-all posts takes c = all-drop (IsOf c) (length (of c (lines_of (pairs_of takes)))) (of c posts) (of-all c posts)

-- those of all clients, counted from c
abbrev left_behind : List Line → List Took → ℕ → List ℕ → List Line
left_behind posts takes c [] = []
left_behind posts takes c (e ∷ es) = behind posts takes c ++ left_behind posts takes (c + 1) es

-- those of all clients
abbrev pub left_lines : List ℕ → List Line → List Took → List Line
left_lines clients posts takes = left_behind posts takes 0 clients

left-before : (posts : List Line) (takes : List Took) (c a : ℕ) (es : List ℕ) → c < a → of c (left_behind posts takes a es) ≡ []
left-before posts takes c a [] low = refl
left-before posts takes c a (e ∷ es) low =
    of-append c (behind posts takes a) (left_behind posts takes (a + 1) es)
    ∙ ap (λ xs. xs ++ of c (left_behind posts takes (a + 1) es))
    (of-others c a (behind posts takes a) (λ is. absurd (omega (arith, is, low))) (behind-all posts takes a))
    ∙ left-before posts takes c (a + 1) es (omega (arith, low))

pub left-past : (posts : List Line) (takes : List Took) (c a : ℕ) (es : List ℕ) → a + length es ≤ c → of c (left_behind posts takes a es) ≡ []
left-past posts takes c a [] past = refl
left-past posts takes c a (e ∷ es) past =
    of-append c (behind posts takes a) (left_behind posts takes (a + 1) es)
    ∙ ap (λ xs. xs ++ of c (left_behind posts takes (a + 1) es))
    (of-others c a (behind posts takes a) (λ is. absurd (omega (arith, is, past))) (behind-all posts takes a))
    ∙ left-past posts takes c (a + 1) es (omega (arith, past))

left-at : (posts : List Line) (takes : List Took) (c a : ℕ) (es : List ℕ) → a ≤ c → c < a + length es
    → of c (left_behind posts takes a es) ≡ behind posts takes c
left-at posts takes c a [] from under = absurd (omega (arith, from, under))
left-at posts takes c a (e ∷ es) from under = ⊎_elim
    (λ (same : a ≡ c).
    of-append c (behind posts takes a) (left_behind posts takes (a + 1) es)
    ∙ ap (λ xs. xs ++ of c (left_behind posts takes (a + 1) es))
    (ap (λ k. of c (behind posts takes k)) same ∙ of-own c (behind posts takes c) (behind-all posts takes c))
    ∙ ap (λ xs. behind posts takes c ++ xs) (left-before posts takes c (a + 1) es (omega (arith, same)))
    ∙ append-nil (behind posts takes c))
    (λ (other : a ≢ c).
    of-append c (behind posts takes a) (left_behind posts takes (a + 1) es)
    ∙ ap (λ xs. xs ++ of c (left_behind posts takes (a + 1) es)) (of-others c a (behind posts takes a) other (behind-all posts takes a))
    ∙ left-at posts takes c (a + 1) es (omega (arith, from, other)) (omega (arith, under)))
    (same_or a c)

-- ---- the history

-- it isn't a client of this event
abbrev pub IsAway : List ℕ → ℕ → ℕ → Type 0
IsAway clients e c = (event_of clients c ≢ e) ⊎ (length clients ≤ c)

-- the lines taken of each client, which all are of its event, are its first
pub record IsGiven (has : ℕ → Type 0) (clients : List ℕ) (posts : List Line) (takes lost : List Took) : Type 0 where
  -- no line of an event is that of another's client, or of nobody's
  pub stray : (e c : ℕ) → has e → IsAway clients e c → of c (lines_of_takes e (takes ++ lost)) ≡ []
  -- those of a client's event are its first
  pub first : (c : ℕ) → c < length clients → (rest : List Line) × (of c (lines_of_takes (event_of clients c) (takes ++ lost)) ++ rest ≡ of c posts)
  pub known : AllByRecursion (λ (took : Took). has took.event) takes

-- what a script posts, and to which events
pub record ArePosts (clients : List ℕ) (posts : List Line) : Type 0 where
  pub clients_are : All (λ (line : Line). line.client < length clients) posts
  pub numbered : (c : ℕ) → IsNumbered 0 (of c posts)

pub taken-append : (e : ℕ) (a b : List Took) → lines_of_takes e (a ++ b) ≡ lines_of_takes e a ++ lines_of_takes e b
taken-append e a b = ap (map (λ (took : Took). took.line)) (filter-append (is_take_of e) a b)
    ∙ map-append (λ (took : Took). took.line) (filter (is_take_of e) a) (filter (is_take_of e) b)

taken-push : (e : ℕ) (t : Took) (ts : List Took) → t.event ≡ e → lines_of_takes e (t ∷ ts) ≡ t.line ∷ lines_of_takes e ts
taken-push e t ts same = ap (map (λ (took : Took). took.line)) (cond_same t.event e (t ∷ filter (is_take_of e) ts) (filter (is_take_of e) ts) same)

taken-pass : (e : ℕ) (t : Took) (ts : List Took) → t.event ≢ e → lines_of_takes e (t ∷ ts) ≡ lines_of_takes e ts
taken-pass e t ts other = ap (map (λ (took : Took). took.line)) (cond_other t.event e (t ∷ filter (is_take_of e) ts) (filter (is_take_of e) ts) other)

none-left : (xs ys : List Line) → xs ++ ys ≡ [] → ys ≡ []
none-left [] ys h = h
none-left (x ∷ xs) ys h = absurd (cc h)

-- a take is of the event of its client, and there is such a client
abbrev pub IsAtEvent : List ℕ → Took → Type 0
IsAtEvent clients t = (event_of clients t.line.client ≡ t.event) × (t.line.client < length clients)

at-events : (has : ℕ → Type 0) (clients : List ℕ) (before rest : List Took)
    → ((e c : ℕ) → has e → IsAway clients e c → of c (lines_of_takes e (before ++ rest)) ≡ [])
    → AllByRecursion (λ (took : Took). has took.event) rest → AllByRecursion (IsAtEvent clients) rest
at-events has clients before [] stray known = tt
at-events has clients before (t ∷ ts) stray known = (
  (let c = t.line.client in
      let nowhere : IsAway clients t.event c → ⊥ = (λ away.
      let nothing : of c (lines_of_takes t.event before) ++ of c (lines_of_takes t.event (t ∷ ts)) ≡ []
      = sym (of-append c (lines_of_takes t.event before) (lines_of_takes t.event (t ∷ ts)))
      ∙ ap (of c) (sym (taken-append t.event before (t ∷ ts))) ∙ stray t.event c known.0 away in
      let some : of c (lines_of_takes t.event (t ∷ ts)) ≡ t.line ∷ of c (lines_of_takes t.event ts)
      = ap (of c) (taken-push t.event t ts refl) ∙ cond_same c c (t.line ∷ of c (lines_of_takes t.event ts)) (of c (lines_of_takes t.event ts)) refl in
      let no : t.line ∷ of c (lines_of_takes t.event ts)
      ≡ [] = sym some ∙ none-left (of c (lines_of_takes t.event before)) (of c (lines_of_takes t.event (t ∷ ts))) nothing in
      cc no) in (
        ⊎_elim (λ (same : event_of clients c ≡ t.event). same) (λ (other : event_of clients c ≢ t.event). absurd (nowhere (inl other)))
            (same_or (event_of clients c) t.event),
        ⊎_elim (λ (under : c < length clients). under) (λ (past : length clients ≤ c). absurd (nowhere (inr past))) (cases_lt c (length clients)),
      )),
  at-events has clients (before ++ t ∷ []) ts
      (λ e c h other. ap (λ xs. of c (lines_of_takes e xs)) (append_assoc before (t ∷ []) ts) ∙ stray e c h other) known.1,
)

-- the takes of a client are among those of its event
pub own : (clients : List ℕ) (c : ℕ) (takes : List Took) → AllByRecursion (IsAtEvent clients) takes
    → of c (lines_of (pairs_of takes)) ≡ of c (lines_of_takes (event_of clients c) takes)
own clients c [] all = refl
own clients c (t ∷ ts) all = let e = event_of clients c in ⊎_elim
    (λ (same : t.line.client ≡ c).
    cond_same t.line.client c (t.line ∷ of c (lines_of (pairs_of ts))) (of c (lines_of (pairs_of ts))) same
    ∙ ap (λ ls. t.line ∷ ls) (own clients c ts all.1)
    ∙ sym (cond_same t.line.client c (t.line ∷ of c (lines_of_takes e ts)) (of c (lines_of_takes e ts)) same)
    ∙ ap (of c) (sym (taken-push e t ts (sym all.0.0 ∙ ap (event_of clients) same))))
    (λ (other : t.line.client ≢ c).
    cond_other t.line.client c (t.line ∷ of c (lines_of (pairs_of ts))) (of c (lines_of (pairs_of ts))) other
    ∙ own clients c ts all.1
    ∙ ⊎_elim
    (λ (here : t.event ≡ e). sym (cond_other t.line.client c (t.line ∷ of c (lines_of_takes e ts)) (of c (lines_of_takes e ts)) other)
    ∙ ap (of c) (sym (taken-push e t ts here)))
    (λ (there : t.event ≢ e). ap (of c) (sym (taken-pass e t ts there)))
    (same_or t.event e))
    (same_or t.line.client c)

all-left : (P : Took → Type 0) (xs ys : List Took) → AllByRecursion P (xs ++ ys) → AllByRecursion P xs
all-left P [] ys all = tt
all-left P (x ∷ xs) ys all = (all.0, all-left P xs ys all.1)

pub numbered-first : (n : ℕ) (xs ys : List Line) → IsNumbered n (xs ++ ys) → IsNumbered n xs
numbered-first n [] ys h = tt
numbered-first n (x ∷ xs) ys h = (h.0, h.1, numbered-first (suc n) xs ys h.2)

drop-front : (xs ys : List Line) → drop (length xs) (xs ++ ys) ≡ ys
drop-front [] ys = refl
drop-front (x ∷ xs) ys = drop-front xs ys

none-of : (c n : ℕ) (xs : List Line) → n ≤ c → AllByRecursion (λ (line : Line). line.client < n) xs → of c xs ≡ []
none-of c n [] past all = refl
none-of c n (l ∷ ls) past all = cond_other l.client c (l ∷ of c ls) (of c ls) (λ is. absurd (omega (arith, is, past, all.0))) ∙ none-of c n ls past all.1

none-taken : (c : ℕ) (clients : List ℕ) (takes : List Took) → length clients ≤ c → AllByRecursion (IsAtEvent clients) takes
    → of c (lines_of (pairs_of takes)) ≡ []
none-taken c clients [] past all = refl
none-taken c clients (t ∷ ts) past all =
    cond_other t.line.client c (t.line ∷ of c (lines_of (pairs_of ts))) (of c (lines_of (pairs_of ts))) (λ is.
    absurd (let under = all.0.1 in omega (arith, is, past, under)))
    ∙ none-taken c clients ts past all.1

events-of : (clients : List ℕ) (takes : List Took) → AllByRecursion (IsAtEvent clients) takes
    → AllByRecursion (λ t. event_of clients t.1.client ≡ t.0) (pairs_of takes)
events-of clients [] all = tt
events-of clients (t ∷ ts) all = (all.0.0, events-of clients ts all.1)

module _ (has : ℕ → Type 0) (clients : List ℕ) (posts : List Line) (takes lost : List Took) (h : IsGiven has clients posts takes lost)
    (p : ArePosts clients posts) where
  pub are-at : AllByRecursion (IsAtEvent clients) takes
  are-at = at-events has clients [] takes (λ e c there other. by e c (h.stray e c there other)) h.known
    where
      none-right : (xs ys : List Line) → xs ++ ys ≡ [] → xs ≡ []
      none-right [] ys h = refl
      none-right (x ∷ xs) ys h = absurd (cc h)

      by : (e c : ℕ) → of c (lines_of_takes e (takes ++ lost)) ≡ [] → of c (lines_of_takes e takes) ≡ []
      by e c none = none-right (of c (lines_of_takes e takes)) (of c (lines_of_takes e lost))
          (sym (of-append c (lines_of_takes e takes) (lines_of_takes e lost)) ∙ ap (of c) (sym (taken-append e takes lost)) ∙ none)

  -- the lines taken of a client are its first
  first-of : (c : ℕ) → (rest : List Line) × (of c (lines_of (pairs_of takes)) ++ rest ≡ of c posts)
  first-of c = by (cases_lt c (length clients))
    where
      by : (c < length clients) ⊎ (length clients ≤ c) → (rest : List Line) × (of c (lines_of (pairs_of takes)) ++ rest ≡ of c posts)
      by (inl under) =
          let e = event_of clients c in
          let found = h.first c under in (
            of c (lines_of_takes e lost) ++ found.0,
            ap (λ xs. xs ++ (of c (lines_of_takes e lost) ++ found.0)) (own clients c takes are-at)
                ∙ sym (append_assoc (of c (lines_of_takes e takes)) (of c (lines_of_takes e lost)) found.0)
                ∙ ap (λ xs. xs ++ found.0) (sym (of-append c (lines_of_takes e takes) (lines_of_takes e lost)) ∙ ap (of c) (sym (taken-append e takes lost)))
                ∙ found.1,
          )
      by (inr past) = (
        [],
        append-nil (of c (lines_of (pairs_of takes))) ∙ none-taken c clients takes past are-at
            ∙ sym (none-of c (length clients) posts past (recursion_from_All (λ (line : Line). line.client < length clients) posts p.clients_are)),
      )

  left-is : (c : ℕ) → of c (left_lines clients posts takes) ≡ (first-of c).0
  left-is c = by (cases_lt c (length clients))
    where
      nothing : (xs ys : List Line) → xs ++ ys ≡ [] → ys ≡ []
      nothing [] ys e = e
      nothing (x ∷ xs) ys e = absurd (cc e)

      by : (c < length clients) ⊎ (length clients ≤ c) → of c (left_lines clients posts takes) ≡ (first-of c).0
      by (inl under) = left-at posts takes c 0 clients (omega arith) (omega (arith, under))
          ∙ ap (drop (length (of c (lines_of (pairs_of takes))))) (sym (first-of c).1)
          ∙ drop-front (of c (lines_of (pairs_of takes))) (first-of c).0
      by (inr past) = left-past posts takes c 0 clients (omega (arith, past))
          ∙ sym (nothing (of c (lines_of (pairs_of takes))) (first-of c).0 ((first-of c).1
          ∙ none-of c (length clients) posts past (recursion_from_All (λ (line : Line). line.client < length clients) posts p.clients_are)))

  pub history-of : IsClientHistory clients posts (pairs_of takes) (left_lines clients posts takes)
  history-of = record {
    events_are = All-from_recursion (λ t. event_of clients t.1.client ≡ t.0) (pairs_of takes) (events-of clients takes are-at);
    lines_are = λ c. ap (λ xs. of c (lines_of (pairs_of takes)) ++ xs) (left-is c) ∙ (first-of c).1;
    numbered = λ c.
        numbered-first 0 (of c (lines_of (pairs_of takes))) (first-of c).0 (subst (λ (xs : List Line). IsNumbered 0 xs) (sym (first-of c).1) (p.numbered c));
  }

  -- of a client whose event gave all its lines, none is left
  pub none-left-of : (c : ℕ) → of c (lines_of_takes (event_of clients c) takes) ≡ of c posts → of c (left_lines clients posts takes) ≡ []
  none-left-of c all =
      let same : of c (lines_of (pairs_of takes)) ≡ of c posts = own clients c takes are-at ∙ all in
      left-is c ∙ by (of c (lines_of (pairs_of takes))) (of c posts) (first-of c).0 same (first-of c).1
    where
      by : (xs zs ys : List Line) → xs ≡ zs → xs ++ ys ≡ zs → ys ≡ []
      by [] zs ys e f = f ∙ sym e
      by (x ∷ xs) [] ys e f = absurd (cc e)
      by (x ∷ xs) (z ∷ zs) ys e f = by xs zs ys (ap (drop 1) e) (ap (drop 1) f)

-- ---- how many are left

-- how many lines of each client are left, counted from c, by how many it has and how many were taken
abbrev pub counts_by : List Line → List Took → ℕ → List ℕ → List ℕ
counts_by posts takes c [] = []
counts_by posts takes c (e ∷ es) = (length (of c posts) - length (of c (lines_of (pairs_of takes)))) ∷ counts_by posts takes (c + 1) es

length-drop : (n : ℕ) (xs : List Line) → length (drop n xs) ≡ length xs - n
length-drop zero xs = omega arith
length-drop (suc n) [] = omega arith
length-drop (suc n) (x ∷ xs) = length-drop n xs ∙ omega arith

counts-left : (posts : List Line) (takes : List Took) (a c : ℕ) (before es : List ℕ) (all : List ℕ) → all ≡ before ++ es
    → c ≡ a + length before → counts_from c es (left_behind posts takes a all) ≡ counts_by posts takes c es
counts-left posts takes a c before [] all split is = refl
counts-left posts takes a c before (e ∷ es) all split is =
    let n = ap length split in
    let first : length (of c (left_behind posts takes a all)) ≡ length (of c posts) - length (of c (lines_of (pairs_of takes)))
    = ap length (left-at posts takes c a all (omega (arith, is)) (omega (arith, is, n, length-append before (e ∷ es))))
    ∙ length-drop (length (of c (lines_of (pairs_of takes)))) (of c posts) in
    ap (λ k. k ∷ counts_from (c + 1) es (left_behind posts takes a all)) first
    ∙ ap (λ ks. (length (of c posts) - length (of c (lines_of (pairs_of takes)))) ∷ ks)
    (counts-left posts takes a (c + 1) (before ++ e ∷ []) es all (split ∙ sym (append_assoc before (e ∷ []) es))
    (omega (arith, is, length-append before (e ∷ []))))

pub counts-are : (clients : List ℕ) (posts : List Line) (takes : List Took)
    → counts_by posts takes 0 clients ≡ counts_from 0 clients (left_lines clients posts takes)
counts-are clients posts takes = sym (counts-left posts takes 0 0 [] clients clients refl refl)

-- ---- the end

none-for : (clients : List ℕ) (e : ℕ) (left : List Line) → ((c : ℕ) → event_of clients c ≡ e → of c left ≡ []) → lines_for clients left e ≡ []
none-for clients e left none = by left none
  where
    by : (ls : List Line) → ((c : ℕ) → event_of clients c ≡ e → of c ls ≡ []) → lines_for clients ls e ≡ []
    by [] none = refl
    by (l ∷ ls) none = ⊎_elim
        (λ (same : event_of clients l.client ≡ e). absurd
        (let no : l ∷ of l.client ls ≡ [] = sym (cond_same l.client l.client (l ∷ of l.client ls) (of l.client ls) refl) ∙ none l.client same in cc no))
        (λ (other : event_of clients l.client ≢ e).
        cond_other (event_of clients l.client) e (l ∷ lines_for clients ls e) (lines_for clients ls e) other
        ∙ by ls (λ c is. rest c (none c is)))
        (same_or (event_of clients l.client) e)
      where
        rest : (c : ℕ) → of c (l ∷ ls) ≡ [] → of c ls ≡ []
        rest c = step (eqb l.client c)
          where
            step : (b : Bool) → cond b (l ∷ of c ls) (of c ls) ≡ [] → of c ls ≡ []
            step true h = absurd (cc h)
            step false h = h

-- no line that can be delivered is left, where of each event that waits none is
pub wants-none : (s : EventState) (clients : List ℕ) (left : List Line)
    → ((e c : ℕ) → is_takeable s e ≡ true → event_of clients c ≡ e → of c left ≡ []) → is_wanted s (full_shelves clients left) ≡ false
unfolding events
wants-none s clients left none = by 0 32 (omega arith)
  where
    one : (e : ℕ) (b : Bool) → e < 256 → is_takeable s e ≡ b → b && is_some (first_left (full_shelves clients left) e) ≡ false
    one e false low is = refl
    one e true low is = ap (λ (ls : List Line). is_some (slice_get ls 0))
        (ap (λ shelf. shelf.left) (get_or-map-range_with_len (full clients left) 0 256 e e bare low (omega arith))
        ∙ none-for clients e left (λ c at. none e c is at))

    by : (a n : ℕ) → a + n ≤ 256 → list_any (λ e. can_take s (full_shelves clients left) e) (range_with_len a n) ≡ false
    by a zero low = refl
    by a (suc n) low = rw (one a (is_takeable s a) (omega (arith, low)) refl) (by (a + 1) n (omega (arith, low)))

-- how a session has ended does not hang on the lines left, but where it is stuck
pub over-with : (turns : ℕ) (s : EventState) (calls : ℕ) (left : List Line) (clients : List ℕ) (halt : Halt)
    → over turns s calls [] ≡ Some halt → (halt ≡ Stuck → is_wanted s (full_shelves clients left) ≡ false)
    → over turns s calls (full_shelves clients left) ≡ Some halt
over-with turns s calls left clients halt is none = by s.state.ended (is_wanted s []) (is_wanted s (full_shelves clients left)) (choice s.state) none is
  where
    by : (b u w : Bool) (c : Option ℕ) → (halt ≡ Stuck → w ≡ false)
        → (if b then Some (Ended s.state.status) else halt_if turns calls u c) ≡ Some halt
        → (if b then Some (Ended s.state.status) else halt_if turns calls w c) ≡ Some halt
    by true u w c none h = h
    by false true w None none h = absurd (cc h)
    by false false w None none h = let stuck : Stuck ≡ halt = cc h in rw (none (sym stuck)) h
    by false u w (Some t) none h = h

-- ---- the texts

from-texts : (c n : ℕ) (xs : List Line) → AllByRecursion (IsOf c) xs → IsNumbered n xs → lines_from c n (map (λ (line : Line). line.text) xs) ≡ xs
from-texts c n [] all h = refl
from-texts c n (l ∷ ls) all h =
    let first : record { client = c; seq = n; text = l.text } ≡ l = (λ i. record { client = sym all.0 i; seq = sym h.0 i; text = l.text }) in
    ap (λ x. x ∷ lines_from c (suc n) (map (λ (line : Line). line.text) ls)) first ∙ ap (λ xs. l ∷ xs) (from-texts c (suc n) ls all.1 h.2)

-- the lines of a client are those of its texts
pub lines-for : (clients : List ℕ) (posts : List Line) (c : ℕ) → ArePosts clients posts → lines_from c 0 (texts_for c posts) ≡ of c posts
lines-for clients posts c p = from-texts c 0 (of c posts) (of-all c posts) (p.numbered c)
