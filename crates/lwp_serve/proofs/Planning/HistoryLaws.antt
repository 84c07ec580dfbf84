-- Of each client, the lines taken in a session whose lines all are in place are its first, in order, and the rest is left.
use Rattle.event_gate.proofs.HistoryLaws.{clients_keep_history, gates_keep_history}
use Rattle.event_gate.proofs.Lines.{cond_other, cond_same, of-append, same_or}
use Rattle.event_gate.specs.History.{IsClientHistory, IsGateHistory, lines_of}
use Rattle.event_gate.specs.Port.{IsNumbered, of}
use Rattle.event_gate.specs.Shelves.{Shelf, Shelves, after_next, after_take_from, bare, event_of, first_left}
use Rattle.event_gate.specs.Shelves.{full, full_shelves, left_in_all, left_of_client, lines_for, shelf_of}
use Rattle.script_session.specs.History.{counts_from, lines_left, pair_of, pairs_of}
use Rattle.lwp_serve.specs.Plan.Planned.{plan_of, planned_of}
use Rattle.script_body.specs.Posted.{IsPosted}
use Rattle.script_body.specs.declared.thread_body.ThreadBody.{ThreadBody}
use Rattle.lwp_types.specs.ListLaws.{All-push}
use Rattle.lwp_types.specs.declared.call.Line.{Line}
use Rattle.pod_runner.specs.Eager.{Plan, Planned, after_advance, boundary, has_choice, after_offer, after_offer_by, one_call}
use Rattle.pod_runner.specs.Eager.{opening_plan, plan_over, plan_whole, pod_of, after_take, took_of, to_the_end}
use Rattle.pod_runner.specs.Over.{events}
use Rattle.pod_runner.specs.Trace.{left_counts_from}
use Rattle.pod_runner.specs.declared.session.Took.{Took}
use Rattle.pod_events.specs.Events.{is_takeable}
use Rattle.script_text.specs.Script.{lines_posted}
use Rattle.trace_text.specs.declared.ends.Halt.{Halt}
use Rattle.script_text.specs.declared.script.Script.{Script}
use Rattle.std.specs.List.{AllByRecursion, count_by, range_with_len}
use Rattle.std.proofs.Common.{Bool, List, None, Option, Some, [], ap, append_assoc, arith, cond, eqb, false, fold, get_or-set_other, get_or-set_same, length}
use Rattle.std.proofs.Common.{length-append, refl, slice_get, subst, suc, sym, take, true, zero, ℕ, ⊎_elim, ◌++◌, ◌+◌, ◌<◌, ◌∙◌, ◌∷◌, ◌≡◌, ◌≢◌, ◌≤◌}
use Rattle.std.proofs.lemmas.Bool.{eqb-true}
use Rattle.std.proofs.lemmas.List.{append-nil, length-set, map-append}
use Rattle.std.proofs.lemmas.List.Elements.{All-from_recursion, recursion_from_All}
use Rattle.std.proofs.lemmas.List.FromFn.{get_or-map-range_with_len, length-map-range_with_len}
use Rattle.std.proofs.lemmas.List.Sums.{length-filter, sum_by-cons}

-- ---- the lines of one event

-- the lines that were taken at an event
abbrev at : ℕ → List Took → List Line
at e [] = []
at e (t ∷ ts) = cond (eqb t.event e) (t.line ∷ at e ts) (at e ts)

at-push : (e : ℕ) (takes : List Took) (t : Took) → at e (takes ++ t ∷ []) ≡ at e takes ++ cond (eqb t.event e) (t.line ∷ []) []
at-push e [] t = refl
at-push e (u ∷ us) t = rw (at-push e us t) (by (eqb u.event e) (at e us) (cond (eqb t.event e) (t.line ∷ []) []))
  where
    by : (b : Bool) (before behind : List Line) → cond b (u.line ∷ (before ++ behind)) (before ++ behind) ≡ cond b (u.line ∷ before) before ++ behind
    by true before behind = refl
    by false before behind = refl

-- a take at the event of its client
abbrev IsAtEvent : List ℕ → Took → Type 0
IsAtEvent clients t = event_of clients t.line.client ≡ t.event

-- the takes of a client are among those at its event
mine : (clients : List ℕ) (c : ℕ) (takes : List Took) → AllByRecursion (IsAtEvent clients) takes
    → of c (lines_of (pairs_of takes)) ≡ of c (at (event_of clients c) takes)
mine clients c [] all = refl
mine clients c (t ∷ ts) all =
    let e = event_of clients c in
    let more = mine clients c ts all.1 in
    ⊎_elim
    (λ (same : t.line.client ≡ c).
    cond_same t.line.client c (t.line ∷ of c (lines_of (pairs_of ts))) (of c (lines_of (pairs_of ts))) same ∙ ap (λ ls. t.line ∷ ls) more
    ∙ sym (cond_same t.line.client c (t.line ∷ of c (at e ts)) (of c (at e ts)) same)
    ∙ ap (of c) (sym (cond_same t.event e (t.line ∷ at e ts) (at e ts) (sym all.0 ∙ ap (event_of clients) same))))
    (λ (other : t.line.client ≢ c). cond_other t.line.client c (t.line ∷ of c (lines_of (pairs_of ts))) (of c (lines_of (pairs_of ts))) other
    ∙ more ∙ sym (by (eqb t.event e) (at e ts) other))
    (same_or t.line.client c)
  where
    by : (b : Bool) (ls : List Line) → t.line.client ≢ c → of c (cond b (t.line ∷ ls) ls) ≡ of c ls
    by true ls other = cond_other t.line.client c (t.line ∷ of c ls) (of c ls) other
    by false ls other = refl

-- a line for an event
abbrev IsFor : List ℕ → ℕ → Line → Type 0
IsFor clients e l = event_of clients l.client ≡ e

for_event : (clients : List ℕ) (e : ℕ) (posts : List Line) → AllByRecursion (IsFor clients e) (lines_for clients posts e)
for_event clients e [] = tt
for_event clients e (l ∷ ls) = by (eqb (event_of clients l.client) e) refl (for_event clients e ls)
  where
    by : (b : Bool) → eqb (event_of clients l.client) e ≡ b → AllByRecursion (IsFor clients e) (lines_for clients ls e)
        → AllByRecursion (IsFor clients e) (cond b (l ∷ lines_for clients ls e) (lines_for clients ls e))
    by true is rest = (eqb-true (event_of clients l.client) e is, rest)
    by false is rest = rest

all_right : {A : Type 0} (P : A → Type 0) (xs ys : List A) → AllByRecursion P (xs ++ ys) → AllByRecursion P ys
all_right P [] ys all = all
all_right P (x ∷ xs) ys all = all_right P xs ys all.1

all_left : {A : Type 0} (P : A → Type 0) (xs ys : List A) → AllByRecursion P (xs ++ ys) → AllByRecursion P xs
all_left P [] ys all = tt
all_left P (x ∷ xs) ys all = (all.0, all_left P xs ys all.1)

take_first : (ls : List Line) (x : Line) → slice_get ls 0 ≡ Some x → take 1 ls ≡ x ∷ []
take_first [] x e = absurd (cc e)
take_first (y ∷ ys) x e = cc e

all_first : (P : Line → Type 0) (ls : List Line) (x : Line) → slice_get ls 0 ≡ Some x → AllByRecursion P ls → P x
all_first P [] x e all = absurd (cc e)
all_first P (y ∷ ys) x e all = subst P (let same : y ≡ x = cc e in same) all.0

-- ---- what a session keeps of its lines

record Keeps (clients : List ℕ) (posts : List Line) (plan : Plan ThreadBody) : Type 0 where
  size : length plan.left ≡ 256
  gate : IsGateHistory clients posts plan.left
  shelves : (e : ℕ) → e < 256 → at e plan.takes ≡ (shelf_of plan.left e).taken
  at_events : AllByRecursion (IsAtEvent clients) plan.takes

module _ (clients : List ℕ) (posts : List Line) (planned : Planned ThreadBody) where
  keeps_opening : Keeps clients posts (opening_plan planned (full_shelves clients posts))
  keeps_opening = record {
    size = length-map-range_with_len (full clients posts) 0 256;
    gate = gates_keep_history.begins clients posts;
    shelves = λ e low. sym (ap (λ (s : Shelf Line). s.taken) (get_or-map-range_with_len (full clients posts) 0 256 e e bare low (omega arith)));
    at_events = tt;
  }

  keeps_taken : (e : ℕ) (line : Line) (plan : Plan ThreadBody) → e < 256 → first_left plan.left e ≡ Some line → Keeps clients posts plan
      → Keeps clients posts (after_take planned e line plan)
  keeps_taken e line plan low first h =
      let s = shelf_of plan.left e in
      let whole : AllByRecursion (IsFor clients e) (s.taken ++ s.left) = rw (h.gate e low) (for_event clients e posts) in
      let is : event_of clients line.client ≡ e = all_first (IsFor clients e) s.left line first (all_right (IsFor clients e) s.taken s.left whole) in
      record {
        size = length-set plan.left e (after_next s) ∙ h.size;
        gate = gates_keep_history.keeps clients posts plan.left e h.size h.gate;
        shelves = λ d there. at-push d plan.takes (took_of e line plan) ∙ ⊎_elim
            (λ (same : e ≡ d).
            ap (λ ls. at d plan.takes ++ ls) (cond_same e d (line ∷ []) [] same) ∙ ap (λ ls. ls ++ line ∷ []) (h.shelves d there)
            ∙ ap (λ k. (shelf_of plan.left k).taken ++ line ∷ []) (sym same)
            ∙ ap (λ ls. s.taken ++ ls) (sym (take_first s.left line first))
            ∙ ap (λ (x : Shelf Line). x.taken) (sym (get_or-set_same plan.left e (after_next s) bare (omega (arith, h.size, low))))
            ∙ ap (λ k. (shelf_of (after_take_from plan.left e) k).taken) same)
            (λ (other : e ≢ d).
            ap (λ ls. at d plan.takes ++ ls) (cond_other e d (line ∷ []) [] other) ∙ append-nil (at d plan.takes) ∙ h.shelves d there
            ∙ ap (λ (x : Shelf Line). x.taken) (sym (get_or-set_other plan.left e d (after_next s) bare (λ k. other (sym k)))))
            (same_or e d);
        at_events = All-push (IsAtEvent clients) plan.takes (took_of e line plan) h.at_events is;
      }

  keeps_offered : (e : ℕ) (plan : Plan ThreadBody) → e < 256 → Keeps clients posts plan → Keeps clients posts (after_offer planned e plan)
  keeps_offered e plan low h = by (is_takeable (pod_of plan) e) (first_left plan.left e) refl
    where
      by : (b : Bool) (o : Option Line) → first_left plan.left e ≡ o → Keeps clients posts (elim b [ true ↦ after_offer_by planned e plan o | false ↦ plan ])
      by false o is = h
      by true None is = h
      by true (Some line) is = keeps_taken e line plan low is h

  keeps_all : (es : List ℕ) (plan : Plan ThreadBody) → AllByRecursion (λ e. e < 256) es → Keeps clients posts plan
      → Keeps clients posts (fold (λ now e. after_offer planned e now) plan es)
  keeps_all [] plan low h = h
  keeps_all (e ∷ es) plan low h = keeps_all es (after_offer planned e plan) low.1 (keeps_offered e plan low.0 h)

  low_range : (a n : ℕ) → a + n ≤ 256 → AllByRecursion (λ e. e < 256) (range_with_len a n)
  low_range a zero h = tt
  low_range a (suc n) h = (omega (arith, h), low_range (a + 1) n (omega (arith, h)))

  low_events : AllByRecursion (λ e. e < 256) events
  unfolding events
  low_events = low_range 0 32 (omega arith)

  keeps_boundary : (plan : Plan ThreadBody) → Keeps clients posts plan → Keeps clients posts (boundary planned plan)
  keeps_boundary plan h = keeps_all events plan low_events h

  keeps_call : (plan : Plan ThreadBody) → Keeps clients posts plan → Keeps clients posts (one_call planned plan)
  keeps_call plan h = record { size = h.size; gate = h.gate; shelves = h.shelves; at_events = h.at_events }

  keeps_advanced : (plan : Plan ThreadBody) → Keeps clients posts plan → Keeps clients posts (after_advance planned plan)
  keeps_advanced plan h = by (has_choice plan) (keeps_boundary plan h)
    where
      by : (b : Bool) → Keeps clients posts (boundary planned plan)
          → Keeps clients posts (elim b [ true ↦ one_call planned (boundary planned plan) | false ↦ boundary planned plan ])
      by true more = keeps_call (boundary planned plan) more
      by false more = more

  keeps_to : (n : ℕ) (plan : Plan ThreadBody) → Keeps clients posts plan → Keeps clients posts (to_the_end planned n plan)
  unfolding to_the_end
  keeps_to zero plan h = h
  keeps_to (suc n) plan h = by (plan_over planned plan) (keeps_to n (after_advance planned plan) (keeps_advanced plan h))
    where
      by : (o : Option Halt) → Keeps clients posts (to_the_end planned n (after_advance planned plan))
          → Keeps clients posts (elim o [ None ↦ to_the_end planned n (after_advance planned plan) | Some halt ↦ plan ])
      by None more = more
      by (Some halt) more = h

  keeps_whole : Keeps clients posts (plan_whole planned (full_shelves clients posts))
  unfolding plan_whole
  keeps_whole = keeps_to (planned.turns + left_in_all (full_shelves clients posts)) (opening_plan planned (full_shelves clients posts)) keeps_opening

-- ---- the lines of one client

-- an event of another client has none of its lines
of_another : (clients : List ℕ) (c d : ℕ) (posts : List Line) → event_of clients c ≢ d → of c (lines_for clients posts d) ≡ []
of_another clients c d [] other = refl
of_another clients c d (l ∷ ls) other =
    let rest = lines_for clients ls d in
    let more = of_another clients c d ls other in
    ⊎_elim
    (λ (same : l.client ≡ c). ap (of c) (cond_other (event_of clients l.client) d (l ∷ rest) rest (λ is. other (sym (ap (event_of clients) same) ∙ is))) ∙ more)
    (λ (not_same : l.client ≢ c). by (eqb (event_of clients l.client) d) rest not_same ∙ more)
    (same_or l.client c)
  where
    by : (b : Bool) (rest : List Line) → l.client ≢ c → of c (cond b (l ∷ rest) rest) ≡ of c rest
    by true rest other = cond_other l.client c (l ∷ of c rest) (of c rest) other
    by false rest other = refl

none_right : (xs ys : List Line) → xs ++ ys ≡ [] → ys ≡ []
none_right [] ys h = h
none_right (x ∷ xs) ys h = absurd (cc h)

-- where no event has lines of a client, none are left
none_left : (c : ℕ) (shelves : Shelves) → ((d : ℕ) → d < length shelves → of c (shelf_of shelves d).left ≡ []) → of c (lines_left shelves) ≡ []
none_left c [] h = refl
none_left c (s ∷ ss) h = of-append c s.left (lines_left ss) ∙ ap (λ ls. ls ++ of c (lines_left ss)) (h 0 (omega arith))
    ∙ none_left c ss (λ d low. h (suc d) (omega (arith, low)))

-- where one event alone may have lines of a client, all that are left are there
one_left : (c e : ℕ) (shelves : Shelves) → ((d : ℕ) → d < length shelves → e ≢ d → of c (shelf_of shelves d).left ≡ [])
    → of c (lines_left shelves) ≡ of c (shelf_of shelves e).left
one_left c e [] h = refl
one_left c zero (s ∷ ss) h =
    of-append c s.left (lines_left ss)
    ∙ ap (λ ls. of c s.left ++ ls) (none_left c ss (λ d low. h (suc d) (omega (arith, low)) (λ is. absurd (omega (arith, is))))) ∙ append-nil (of c s.left)
one_left c (suc e) (s ∷ ss) h =
    of-append c s.left (lines_left ss) ∙ ap (λ ls. ls ++ of c (lines_left ss)) (h 0 (omega arith) (λ is. absurd (omega (arith, is))))
    ∙ one_left c e ss (λ d low other. h (suc d) (omega (arith, low)) (λ is. other (omega (arith, is))))

abbrev is_of : ℕ → Line → Bool
is_of c l = eqb l.client c

abbrev count_on : ℕ → Shelf Line → ℕ
count_on c s = count_by (is_of c) s.left

count_left : (c : ℕ) (shelves : Shelves) → left_of_client c shelves ≡ length (of c (lines_left shelves))
count_left c [] = refl
count_left c (s ∷ ss) = omega (
  arith,
  sum_by-cons (count_on c) s ss,
  count_left c ss,
  ap length (of-append c s.left (lines_left ss)),
  length-append (of c s.left) (of c (lines_left ss)),
  length-filter (is_of c) s.left,
)

pub counts_left : (c : ℕ) (clients : List ℕ) (shelves : Shelves) → left_counts_from c clients shelves ≡ counts_from c clients (lines_left shelves)
counts_left c [] shelves = refl
counts_left c (e ∷ es) shelves = ap (λ n. n ∷ left_counts_from (c + 1) es shelves) (count_left c shelves)
    ∙ ap (λ ns. length (of c (lines_left shelves)) ∷ ns) (counts_left (c + 1) es shelves)

numbered_left : (n : ℕ) (xs ys : List Line) → IsNumbered n (xs ++ ys) → IsNumbered n xs
numbered_left n [] ys h = tt
numbered_left n (x ∷ xs) ys h = (h.0, h.1, numbered_left (suc n) xs ys h.2)

low_event : (clients : List ℕ) (c : ℕ) → AllByRecursion (λ e. e ≤ 31) clients → event_of clients c < 256
low_event [] c all = omega arith
low_event (e ∷ es) zero all = omega (arith, all.0)
low_event (e ∷ es) (suc c) all = low_event es c all.1

-- ---- the history

events_of_pairs : (clients : List ℕ) (takes : List Took) → AllByRecursion (IsAtEvent clients) takes
    → AllByRecursion (λ t. event_of clients t.1.client ≡ t.0) (pairs_of takes)
events_of_pairs clients [] all = tt
events_of_pairs clients (t ∷ ts) all = (all.0, events_of_pairs clients ts all.1)

kept_history : (script : Script) (plan : Plan ThreadBody) → IsPosted script → Keeps script.clients (lines_posted script) plan
    → IsClientHistory script.clients (lines_posted script) (pairs_of plan.takes) (lines_left plan.left)
kept_history script plan posted h = record {
  events_are = All-from_recursion (λ t. event_of clients t.1.client ≡ t.0) (pairs_of plan.takes) (events_of_pairs clients plan.takes h.at_events);
  lines_are = whole;
  numbered = λ c. numbered_left 0 (of c (lines_of (pairs_of plan.takes))) (of c (lines_left plan.left)) (rw (whole c) (posted.numbered c));
}
  where
    clients : List ℕ
    clients = script.clients

    posts : List Line
    posts = lines_posted script

    low : (c : ℕ) → event_of clients c < 256
    low c = low_event clients c (recursion_from_All (λ e. e ≤ 31) clients posted.events)

    apart : (c d : ℕ) → d < length plan.left → event_of clients c ≢ d → of c (shelf_of plan.left d).left ≡ []
    apart c d there other =
        let s = shelf_of plan.left d in
        none_right (of c s.taken) (of c s.left)
        (sym (of-append c s.taken s.left) ∙ ap (of c) (h.gate d (omega (arith, there, h.size))) ∙ of_another clients c d posts other)

    whole : (c : ℕ) → of c (lines_of (pairs_of plan.takes)) ++ of c (lines_left plan.left) ≡ of c posts
    whole c =
        let e = event_of clients c in
        ap (λ ls. ls ++ of c (lines_left plan.left)) (mine clients c plan.takes h.at_events ∙ ap (of c) (h.shelves e (low c)))
        ∙ ap (λ ls. of c (shelf_of plan.left e).taken ++ ls) (one_left c e plan.left (apart c))
        ∙ clients_keep_history clients posts plan.left c (low c) h.gate

pub whole_history : (script : Script) (turns : ℕ) → IsPosted script
    → IsClientHistory script.clients (lines_posted script) (pairs_of (plan_of script turns).takes) (lines_left (plan_of script turns).left)
whole_history script turns posted =
    kept_history script (plan_of script turns) posted (keeps_whole script.clients (lines_posted script) (planned_of script turns))

-- what was taken first of what is taken in the end is a history too, in which what is taken later is left
pub part_history : (clients : List ℕ) (posts : List Line) (takes later : List Took) (left : List Line)
    → IsClientHistory clients posts (pairs_of (takes ++ later)) left
    → IsClientHistory clients posts (pairs_of takes) (lines_of (pairs_of later) ++ left)
part_history clients posts takes later left h = record {
  events_are = All-from_recursion (λ t. event_of clients t.1.client ≡ t.0) (pairs_of takes)
      (all_left (λ t. event_of clients t.1.client ≡ t.0) (pairs_of takes) (pairs_of later)
      (rw (← cut) (recursion_from_All (λ t. event_of clients t.1.client ≡ t.0) (pairs_of (takes ++ later)) h.events_are)));
  lines_are = λ c.
      ap (λ ls. of c (lines_of (pairs_of takes)) ++ ls) (of-append c (lines_of (pairs_of later)) left)
      ∙ sym (append_assoc (of c (lines_of (pairs_of takes))) (of c (lines_of (pairs_of later))) (of c left))
      ∙ ap (λ ls. ls ++ of c left) (sym (parts c))
      ∙ h.lines_are c;
  numbered = λ c. numbered_left 0 (of c (lines_of (pairs_of takes))) (of c (lines_of (pairs_of later))) (rw (← parts c) (h.numbered c));
}
  where
    cut : pairs_of (takes ++ later) ≡ pairs_of takes ++ pairs_of later
    cut = map-append pair_of takes later

    parts : (c : ℕ) → of c (lines_of (pairs_of (takes ++ later))) ≡ of c (lines_of (pairs_of takes)) ++ of c (lines_of (pairs_of later))
    parts c = ap (λ ts. of c (lines_of ts)) cut ∙ ap (of c) (map-append (λ (t : ℕ × Line). t.1) (pairs_of takes) (pairs_of later))
        ∙ of-append c (lines_of (pairs_of takes)) (lines_of (pairs_of later))
