-- What a live run, its inlets and a sink come to together, part by part.
use Rattle.std.proofs.Common.{◌≢◌, ◌≡◌, ◌≤◌, ◌<◌, ℕ, zero, suc, ◌+◌, ◌-◌, List, [], ◌∷◌, Bool, true, false, cond, None, Some, ap, ◌∙◌, refl, sym, subst}
use Rattle.std.proofs.Common.{◌++◌, length, length-append, append-nil, append_assoc, map, eqb, slice_index_or, slice_set, inl, inr, arith}
use Rattle.std.specs.Prelude.{Option, Result, Ok, Err, OnOk, IsErrAnd, nat_le, nat_lt, ◌&&◌, ◌||◌, ◌⊎◌}
use Rattle.std.specs.List.{All, filter, list_any}
use Rattle.std.specs.Slice.Scan.{HoldsNowhere}
use Rattle.std.proofs.lemmas.Bool.{cases_lt, eq-eqb, eqb-true, ne_eqb}
use Rattle.std.proofs.lemmas.List.{get_or-map, get_or-set_other, get_or-set_same, length-map, length-set, map-append}
use Rattle.std.proofs.lemmas.List.Elements.{All-append, filter-append}
use Rattle.event_gate.specs.Inlet.{AllTold, EachInlet, EventsRise, HasEvent, InletFindsNothing, InletTakes, Intake, IsInletTaken, IsInletTold, after_draws}
use Rattle.pod_events.specs.Events.{EventState, has_turn, is_takeable, take_event}
use Rattle.lwp_types.specs.Poll.{Next}
use Rattle.lwp_types.specs.declared.call.Line.{Line}
use Rattle.pod_runner.specs.Due.{IsDefined}
use Rattle.pod_runner.specs.Inlets.{AreBelow, IsCalm, IsSeen, Serves, ServesAt, Takes}
use Rattle.pod_runner.specs.Live.{Answers, Draws, Extends, Gives, Halts, IsQuiet, IsWanted, LivesOn, NoneComes, is_take_of, lines_of_takes, looks, may_lose}
use Rattle.pod_runner.specs.Over.{can_take, events, halt_if, is_wanted, over}
use Rattle.pod_runner.specs.Phase.{phase_by, phase_of}
use Rattle.pod_runner.specs.Play.{play}
use Rattle.pod_runner.specs.declared.phase.Phase.{Phase}
use Rattle.trace_text.specs.declared.ends.Halt.{Halt}
use Rattle.trace_text.specs.declared.ends.Halt.TheVariants as halts
use Rattle.lwp_types.specs.Choice.{choice}
use Rattle.std.proofs.lemmas.Bool.Decides.{nat_tests}
use Rattle.pod_runner.specs.Run.{EndsAt, GoesOn, Played, Tells, Wrote, but_last, session_of, phase_now}
use Rattle.pod_runner.specs.Run.{setting_of, after_step, took_now, trace_of, with_call, with_took}
use Rattle.streams.specs.Streams.{Stream}
use Rattle.pod_runner.specs.Session.{Session, call_step, take_move, take_step}
use Rattle.pod_runner.specs.declared.live.Live.{Live}
use Rattle.pod_runner.specs.declared.live.Live.TheVariants as live
use Rattle.pod_runner.specs.declared.phase.Phase.TheVariants as phase
use Rattle.pod_runner.specs.declared.phase.RunErr.{RunErr}
use Rattle.pod_runner.specs.declared.phase.RunErr.TheVariants as fails
use Rattle.pod_runner.specs.declared.session.Took.{Took}
use Rattle.pod_runner.proofs.Armed.{take-fewer}
use Rattle.pod_runner.proofs.Kept.{phase-kept, phase-runs, take-kept}
use Rattle.pod_runner.proofs.Plays.{LastBy-of, play-call, play-take}
use Rattle.pod_runner.proofs.Appends.{writes_none}
use Rattle.pod_runner.proofs.Rounds.{but_last-extended, goes-same, ran-answer, ran-behind, ran-nothing, ran-other, ran-step, stream}

-- ---- takes

lines-append : (e : ℕ) (a b : List Took) → lines_of_takes e (a ++ b) ≡ lines_of_takes e a ++ lines_of_takes e b
lines-append e a b = ap (map (λ (took : Took). took.line)) (filter-append (is_take_of e) a b)
    ∙ map-append (λ (took : Took). took.line) (filter (is_take_of e) a) (filter (is_take_of e) b)

lines-other : (took : Took) (e : ℕ) → took.event ≢ e → lines_of_takes e (took ∷ []) ≡ []
lines-other took e h = rw (ne_eqb took.event e h) refl

lines-one : (took : Took) (e : ℕ) → took.event ≡ e → lines_of_takes e (took ∷ []) ≡ took.line ∷ []
lines-one took e h = rw (eq-eqb took.event e h) refl

all-none : (Q : Took → Type 0) → All Q []
all-none Q k d low = absurd (omega (arith, low))

all-one : (Q : Took → Type 0) (x : Took) → Q x → All Q (x ∷ [])
all-one Q x h zero d low = h
all-one Q x h (suc k) d low = absurd (omega (arith, low))

none-of : {A : Type 0} (xs : List A) → length xs ≤ 0 → xs ≡ []
none-of [] h = refl
none-of (x ∷ xs) h = absurd (omega (arith, h))

-- ---- one inlet

gives-none : (t : Intake) → Gives [] t t
gives-none t = let same : t.finds ≡ t.finds + 0 = omega arith in
    record { nothing = 0; after = (λ i. record t { taken = sym (append-nil t.taken) i; finds = same i }) }

gives-then : (a b : List Took) (t u v : Intake) → Gives a t u → Gives b u v → Gives (a ++ b) t v
gives-then a b t u v p q =
    let given : (t.taken ++ lines_of_takes t.event a) ++ lines_of_takes t.event b ≡ t.taken ++ lines_of_takes t.event (a ++ b)
    = append_assoc t.taken (lines_of_takes t.event a) (lines_of_takes t.event b) ∙ ap (λ xs. t.taken ++ xs) (sym (lines-append t.event a b)) in
    let nothing : (t.finds + p.nothing) + q.nothing ≡ t.finds + (p.nothing + q.nothing) = omega arith in
    record {
      nothing = p.nothing + q.nothing;
      after = q.after
          ∙ ap (λ (w : Intake). after_draws w (lines_of_takes w.event b) q.nothing) p.after
          ∙ (λ i. record t { taken = given i; finds = nothing i });
    }

gives-found : (t u : Intake) → u ≡ record t { finds = t.finds + 1 } → Gives [] t u
gives-found t u is = record { nothing = 1; after = is ∙ (λ i. record t { taken = sym (append-nil t.taken) i; finds = t.finds + 1 }) }

gives-other : (took : Took) (t : Intake) → took.event ≢ t.event → Gives (took ∷ []) t t
gives-other took t h =
    let given : t.taken
    ≡ t.taken ++ lines_of_takes t.event (took ∷ []) = sym (append-nil t.taken) ∙ ap (λ xs. t.taken ++ xs) (sym (lines-other took t.event h)) in
    let same : t.finds ≡ t.finds + 0 = omega arith in
    record { nothing = 0; after = (λ i. record t { taken = given i; finds = same i }) }

gives-line : (took : Took) (t u : Intake) → took.event ≡ t.event → u ≡ record t { taken = t.taken ++ took.line ∷ [] } → Gives (took ∷ []) t u
gives-line took t u h is =
    let given : t.taken ++ took.line ∷ [] ≡ t.taken ++ lines_of_takes t.event (took ∷ []) = ap (λ xs. t.taken ++ xs) (sym (lines-one took t.event h)) in
    let same : t.finds ≡ t.finds + 0 = omega arith in
    record { nothing = 0; after = is ∙ (λ i. record t { taken = given i; finds = same i }) }

pub gives-event : (takes : List Took) (t u : Intake) → Gives takes t u → u.event ≡ t.event
gives-event takes t u h = ap (λ (w : Intake). w.event) h.after

pub gives-finds : (takes : List Took) (t u : Intake) → Gives takes t u → t.finds ≤ u.finds
gives-finds takes t u h = let e : u.finds ≡ t.finds + h.nothing = ap (λ (w : Intake). w.finds) h.after in omega (arith, e)

-- ---- all inlets

each-then : (R S Q : Intake → Intake → Type 0) (a b c : List Intake) → ((t u v : Intake) → R t u → S u v → Q t v)
    → EachInlet R a b → EachInlet S b c → EachInlet Q a c
each-then R S Q a b c both p q =
    (q.0 ∙ p.0, λ k d low. both (slice_index_or a k d) (slice_index_or b k d) (slice_index_or c k d) (p.1 k d low) (q.1 k d (subst (λ n. k < n) (sym p.0) low)))

each-same : (R : Intake → Intake → Type 0) (xs : List Intake) → ((t : Intake) → R t t) → EachInlet R xs xs
each-same R xs same = (refl, λ k d low. same (slice_index_or xs k d))

each-set : (R : Intake → Intake → Type 0) (xs : List Intake) (i : ℕ) (u : Intake) → i < length xs
    → ((d : Intake) → R (slice_index_or xs i d) u)
    → ((k : ℕ) (d : Intake) → k < length xs → k ≢ i → R (slice_index_or xs k d) (slice_index_or xs k d))
    → EachInlet R xs (slice_set xs i u)
each-set R xs i u within here others = (length-set xs i u, λ k d low. by k d low (eqb k i) refl)
  where
    by : (k : ℕ) (d : Intake) → k < length xs → (b : Bool) → eqb k i ≡ b → R (slice_index_or xs k d) (slice_index_or (slice_set xs i u) k d)
    by k d low true is = subst (λ n. R (slice_index_or xs n d) (slice_index_or (slice_set xs i u) n d)) (sym (eqb-true k i is))
        (subst (R (slice_index_or xs i d)) (sym (get_or-set_same xs i u d within)) (here d))
    by k d low false is = let apart : k ≢ i = (λ e. let t = eq-eqb k i e in absurd (cc)) in
        subst (R (slice_index_or xs k d)) (sym (get_or-set_other xs i k u d apart)) (others k d low apart)

has-before : (takes : List Took) (a b : List Intake) (e : ℕ) → EachInlet (Gives takes) a b → HasEvent b e → HasEvent a e
has-before takes a b e p h =
    let low : h.0 < length a = subst (λ n. h.0 < n) p.0 h.1 in
    (h.0, low, λ d. sym (gives-event takes (slice_index_or a h.0 d) (slice_index_or b h.0 d) (p.1 h.0 d low)) ∙ h.2 d)

-- an inlet as it stands among those seen
pub inlet-at : {I : Type 0} (f : I → Intake) (items : List I) (i : ℕ) (x : I) → i < length items → slice_index_or items i x ≡ x
    → (d : Intake) → slice_index_or (map f items) i d ≡ f x
inlet-at f items i x within is d = get_or-map f items i x d within ∙ ap f is

pub inlet-within : {I : Type 0} (f : I → Intake) (items : List I) (i : ℕ) → i < length items → i < length (map f items)
inlet-within f items i within = let n = length-map items f in omega (arith, n, within)

pub untold : {I : Type 0} (f : I → Intake) (items : List I) (i : ℕ) (x : I) → i < length items → slice_index_or items i x ≡ x
    → (IsInletTold (f x) → ⊥) → AllTold (map f items) → ⊥
untold f items i x within is none all =
    none (subst (λ (t : Intake). IsInletTold t) (inlet-at f items i x within is (f x)) (all i (f x) (inlet-within f items i within)))

pub told-more : {I : Type 0} (f : I → Intake) (items : List I) (i : ℕ) (x : I) → i < length items → slice_index_or items i x ≡ x → IsInletTold (f x)
    → ((k : ℕ) (d : Intake) → k < i → IsInletTold (slice_index_or (map f items) k d)) → (k : ℕ) (d : Intake) → k < i + 1
    → IsInletTold (slice_index_or (map f items) k d)
told-more f items i x within is told before k d low = by (cases_lt k i)
  where
    by : (k < i) ⊎ (i ≤ k) → IsInletTold (slice_index_or (map f items) k d)
    by (inl under) = before k d under
    by (inr above) = let same : k ≡ i = omega (arith, low, above) in
        subst (λ n. IsInletTold (slice_index_or (map f items) n d)) (sym same)
        (subst (λ (t : Intake). IsInletTold t) (sym (inlet-at f items i x within is d)) told)

pub same-length : {I : Type 0} (f : I → Intake) (xs ys : List I) → length (map f ys) ≡ length (map f xs) → length ys ≡ length xs
same-length f xs ys h = let a = length-map xs f in let b = length-map ys f in omega (arith, h, a, b)

-- where the last inlet's event is below another, each is
pub below-last : {I : Type 0} (f : I → Intake) (items : List I) (from e : ℕ) (x : I) → EventsRise (map f items) → 0 < length items
    → slice_index_or items (length items - 1) x ≡ x → (f x).event < e → AreBelow (map f items) from (length items) e
below-last f items from e x rise some is under k d above low = by (cases_lt k (length items - 1))
  where
    within : length items - 1 < length (map f items)
    within = let n = length-map items f in omega (arith, n, some)

    last : (slice_index_or (map f items) (length items - 1) d).event ≡ (f x).event
    last = ap (λ (t : Intake). t.event) (inlet-at f items (length items - 1) x (omega (arith, some)) is d)

    by : (k < length items - 1) ⊎ (length items - 1 ≤ k) → (slice_index_or (map f items) k d).event < e
    by (inl before) = let rises = rise k (length items - 1) d before within in omega (arith, rises, last, under)
    by (inr behind) = let here : k ≡ length items - 1 = omega (arith, behind, low) in
        let same = ap (λ k. (slice_index_or (map f items) k d).event) here in omega (arith, same, last, under)

-- one inlet more
pub below-more : {I : Type 0} (f : I → Intake) (items : List I) (from i e : ℕ) (x : I) → i < length items → slice_index_or items i x ≡ x → (f x).event < e
    → AreBelow (map f items) from i e → AreBelow (map f items) from (i + 1) e
below-more f items from i e x within is under h k d above low = by (cases_lt k i)
  where
    by : (k < i) ⊎ (i ≤ k) → (slice_index_or (map f items) k d).event < e
    by (inl before) = h k d above before
    by (inr behind) = let here : k ≡ i = omega (arith, behind, low) in
        let same = ap (λ k. (slice_index_or (map f items) k d).event) here in
        let there = ap (λ (t : Intake). t.event) (inlet-at f items i x within is d) in omega (arith, same, there, under)

-- two inlets have two events
apart : (xs : List Intake) → EventsRise xs → (k i : ℕ) (d : Intake) → k < length xs → i < length xs → k ≢ i
    → (slice_index_or xs i d).event ≢ (slice_index_or xs k d).event
apart xs rise k i d low within other same = by (cases_lt k i) (cases_lt i k)
  where
    by : (k < i) ⊎ (i ≤ k) → (i < k) ⊎ (k ≤ i) → ⊥
    by (inl below) later = let r = rise k i d below within in absurd (omega (arith, r, same))
    by (inr above) (inl below) = let r = rise i k d below low in absurd (omega (arith, r, same))
    by (inr above) (inr under) = other (omega (arith, above, under))

module _ {B P : Type 0} (next : Next B) (bodies : P → List B) (procs : P → List (List ℕ)) where
  -- ---- what a run goes on by

  extends-same : (run : Played P) → Extends next bodies run run []
  extends-same run = record {
    takes = sym (append-nil run.takes);
    calls_up = omega arith;
    between = all-none _;
    rest = [];
    steps = sym (append-nil (session_of next bodies run).steps);
  }

  extends-then : (a b c : Played P) (l m : List Took) → Extends next bodies a b l → Extends next bodies b c m → Extends next bodies a c (l ++ m)
  extends-then a b c l m p q = record {
    takes = q.takes ∙ ap (λ takes. takes ++ m) p.takes ∙ append_assoc a.takes l m;
    calls_up = omega (arith, p.calls_up, q.calls_up);
    between = All-append (λ took. (a.calls ≤ took.turn) × (took.turn ≤ c.calls)) l m
        (λ k d low. let h = p.between k d low in (h.0, omega (arith, h.1, q.calls_up)))
        (λ k d low. let h = q.between k d low in (omega (arith, h.0, p.calls_up), h.1));
    rest = p.rest ++ q.rest;
    steps = q.steps ∙ ap (λ steps. steps ++ q.rest) p.steps ∙ append_assoc (session_of next bodies a).steps p.rest q.rest;
  }

  draws-same : (run : Played P) (inlets : List Intake) (most : ℕ) → Draws next bodies run run inlets inlets most
  draws-same run inlets most = record {
    later = [];
    lost = [];
    extends = extends-same run;
    few = omega arith;
    given = each-same (Gives []) inlets gives-none;
    known = all-none _;
  }

  draws-then : (a b c : Played P) (before some after : List Intake) (most : ℕ)
      → Draws next bodies a b before some 0 → Draws next bodies b c some after most → Draws next bodies a c before after most
  draws-then a b c before some after most p q =
      let all : p.later ++ p.lost ≡ p.later = ap (λ l. p.later ++ l) (none-of p.lost p.few) ∙ append-nil p.later in
      let first : EachInlet (Gives p.later) before some = subst (λ l. EachInlet (Gives l) before some) all p.given in
      let order : p.later ++ (q.later ++ q.lost) ≡ (p.later ++ q.later) ++ q.lost = sym (append_assoc p.later q.later q.lost) in
      record {
        later = p.later ++ q.later;
        lost = q.lost;
        extends = extends-then a b c p.later q.later p.extends q.extends;
        few = q.few;
        given = subst (λ l. EachInlet (Gives l) before after) order
            (each-then (Gives p.later) (Gives (q.later ++ q.lost)) (Gives (p.later ++ (q.later ++ q.lost))) before some after
            (λ t u v. gives-then p.later (q.later ++ q.lost) t u v) first q.given);
        known = subst (All (λ (took : Took). HasEvent before took.event)) order
            (All-append (λ (took : Took). HasEvent before took.event) p.later (q.later ++ q.lost)
            (subst (All (λ (took : Took). HasEvent before took.event)) all p.known)
            (λ k d low. has-before p.later before some (slice_index_or (q.later ++ q.lost) k d).event first (q.known k d low)));
      }

  -- ---- one after the other

  abbrev Lived : {T : Type 0} → Stream → Played P → Played P → List Intake → List Intake → Result T RunErr → Type 0
  Lived s old new before after r = LivesOn next bodies procs s old new before after r

  pub lives-same : {T : Type 0} (w : Option (List ℕ)) (f : ℕ) (run : Played P) (inlets : List Intake) (x : T)
      → run.failed ≡ false → IsDefined (setting_of next bodies run) run.takes run.calls → run.calls ≤ run.turns
      → Lived (stream w w f f) run run inlets inlets (Ok x)
  lives-same w f run inlets x sound made room = record {
    ran = ran-nothing next bodies procs w f run x sound made room;
    draws = draws-same run inlets 0;
  }

  -- so far, a run has lived on
  pub record Living (s : Stream) (old now : Played P) (before some : List Intake) : Type 0 where
    pub same : GoesOn old now
    pub sound : now.failed ≡ false
    pub told : Wrote s (trace_of next bodies procs old) (trace_of next bodies procs now)
    pub draws : Draws next bodies old now before some 0

  pub living-same : (w : Option (List ℕ)) (f : ℕ) (run : Played P) (inlets : List Intake) → run.failed ≡ false → Living (stream w w f f) run run inlets inlets
  living-same w f run inlets sound = record {
    same = goes-same next bodies procs run;
    sound = sound;
    told = (writes_none w (trace_of next bodies procs run), refl);
    draws = draws-same run inlets 0;
  }

  pub living-then : {U : Type 0} (a b c : Option (List ℕ)) (i j k : ℕ) (old mid new : Played P) (before some after : List Intake) (r : Result U RunErr)
      → Living (stream a b i j) old mid before some → Lived (stream b c j k) mid new some after r → Lived (stream a c i k) old new before after r
  living-then a b c i j k old mid new before some after r p q = record {
    ran = ran-behind next bodies procs a b c i j k old mid new r p.same p.told q.ran;
    draws = draws-then old mid new before some after (may_lose r) p.draws q.draws;
  }

  pub living-of : {T : Type 0} (s : Stream) (old mid : Played P) (before some : List Intake) (x : T) → Lived s old mid before some (Ok x)
      → Living s old mid before some
  living-of s old mid before some x h = record { same = h.ran.same; sound = h.ran.sound; told = h.ran.told; draws = h.draws }

  pub lives-then : {T U : Type 0} (a b c : Option (List ℕ)) (i j k : ℕ) (old mid new : Played P) (before some after : List Intake) (x : T) (r : Result U RunErr)
      → Lived (stream a b i j) old mid before some (Ok x) → Lived (stream b c j k) mid new some after r → Lived (stream a c i k) old new before after r
  lives-then a b c i j k old mid new before some after x r p q =
      living-then a b c i j k old mid new before some after r (living-of (stream a b i j) old mid before some x p) q

  pub lives-answer : {T U : Type 0} (s : Stream) (old new : Played P) (before after : List Intake) (x : T) (y : U)
      → Lived s old new before after (Ok x) → Lived s old new before after (Ok y)
  lives-answer s old new before after x y h = record { ran = ran-answer next bodies procs s old new x y h.ran; draws = h.draws }

  lives-other : (T U : Type 0) (s : Stream) (old new : Played P) (before after : List Intake) (e : RunErr)
      → Lived {T = T} s old new before after (Err e) → Lived {T = U} s old new before after (Err e)
  lives-other T U s old new before after fails.NoMemory h = record { ran = ran-other next bodies procs T U s old new fails.NoMemory h.ran; draws = h.draws }
  lives-other T U s old new before after fails.WriteFault h = record { ran = ran-other next bodies procs T U s old new fails.WriteFault h.ran; draws = h.draws }

  -- where the last part fails, so does the whole
  pub lives-err : (T U : Type 0) (s : Stream) (old new : Played P) (before after : List Intake) (r : Result U RunErr) (e : RunErr)
      → IsErrAnd r (λ given. given ≡ e) → Lived {T = T} s old new before after (Err e) → Lived s old new before after r
  lives-err T U s old new before after (Ok x) e is h = absurd is
  lives-err T U s old new before after (Err given) e is h =
      subst (λ given. Lived {T = U} s old new before after (Err given)) (sym is) (lives-other T U s old new before after e h)

  -- ---- one step

  -- a step counts, by these takes
  record IsStep (old counted : Played P) (before after : List Intake) (later : List Took) : Type 0 where
    pub same : GoesOn old counted
    pub sound : counted.failed ≡ false
    pub least : but_last (session_of next bodies counted).steps ≡ (session_of next bodies old).steps
    pub extends : Extends next bodies old counted later
    pub few : length later ≤ 1
    pub given : EachInlet (Gives later) before after
    pub known : All (λ took. HasEvent before took.event) later

  lives-step : {T : Type 0} (s : Stream) (old counted new : Played P) (before after : List Intake) (later : List Took) (r : Result T RunErr)
      → IsStep old counted before after later → new ≡ after_step old counted r
      → Tells s (trace_of next bodies procs old) (trace_of next bodies procs old) (trace_of next bodies procs new) r
      → IsDefined (setting_of next bodies new) new.takes new.calls → new.calls ≤ new.turns
      → Lived s old new before after r
  lives-step s old counted new before after later (Ok x) h is told made room = record {
    ran = ran-step next bodies procs s old counted new (Ok x) h.same h.sound h.least is told made room;
    draws = record {
      later = later;
      lost = [];
      extends = subst (λ n. Extends next bodies old n later) (sym is) h.extends;
      few = omega arith;
      given = subst (λ l. EachInlet (Gives l) before after) (sym (append-nil later)) h.given;
      known = subst (All (λ (took : Took). HasEvent before took.event)) (sym (append-nil later)) h.known;
    };
  }
  lives-step s old counted new before after later (Err fails.NoMemory) h is told made room = record {
    ran = ran-step next bodies procs s old counted new (Err fails.NoMemory) h.same h.sound h.least is told made room;
    draws = record {
      later = [];
      lost = later;
      extends = subst (λ n. Extends next bodies old n []) (sym is) (record {
        takes = sym (append-nil old.takes);
        calls_up = omega arith;
        between = all-none _;
        rest = [];
        steps = sym (append-nil (session_of next bodies old).steps);
      });
      few = h.few;
      given = h.given;
      known = h.known;
    };
  }
  lives-step s old counted new before after later (Err fails.WriteFault) h is told made room = record {
    ran = ran-step next bodies procs s old counted new (Err fails.WriteFault) h.same h.sound h.least is told made room;
    draws = record {
      later = later;
      lost = [];
      extends = subst (λ n. Extends next bodies old n later) (sym is)
          (record { takes = h.extends.takes; calls_up = h.extends.calls_up; between = h.extends.between; rest = h.extends.rest; steps = h.extends.steps });
      few = omega arith;
      given = subst (λ l. EachInlet (Gives l) before after) (sym (append-nil later)) h.given;
      known = subst (All (λ (took : Took). HasEvent before took.event)) (sym (append-nil later)) h.known;
    };
  }

  call-last : (run : Played P) → IsDefined (setting_of next bodies run) run.takes run.calls
      → session_of next bodies (with_call run) ≡ call_step (setting_of next bodies run) (session_of next bodies run)
  call-last run made = play-call (setting_of next bodies run) run.takes run.calls (LastBy-of (setting_of next bodies run) run.takes run.calls made)

  take-last : (run : Played P) (e : ℕ) (line : Line)
      → session_of next bodies (with_took run e line) ≡ take_step (setting_of next bodies run) (took_now run e line) (session_of next bodies run)
  take-last run e line = play-take (setting_of next bodies run) (took_now run e line) run.takes run.calls refl

  -- a call
  pub lives-call : {T : Type 0} (s : Stream) (old new : Played P) (inlets : List Intake) (r : Result T RunErr)
      → old.failed ≡ false → IsDefined (setting_of next bodies old) old.takes old.calls → new ≡ after_step old (with_call old) r
      → Tells s (trace_of next bodies procs old) (trace_of next bodies procs old) (trace_of next bodies procs new) r
      → IsDefined (setting_of next bodies new) new.takes new.calls → new.calls ≤ new.turns
      → Lived s old new inlets inlets r
  lives-call s old new inlets r sound was is told made room = lives-step s old (with_call old) new inlets inlets [] r (record {
    same = record { program = refl; params = refl; names = refl; turns = refl };
    sound = sound;
    least = but_last-extended (session_of next bodies (with_call old)) (session_of next bodies old) None _ (call-last old was);
    extends = record {
      takes = sym (append-nil old.takes);
      calls_up = omega arith;
      between = all-none _;
      rest = _;
      steps = ap (λ (s : Session B). s.steps) (call-last old was);
    };
    few = omega arith;
    given = each-same (Gives []) inlets gives-none;
    known = all-none _;
  }) is told made room

  -- a take
  pub lives-take : {T : Type 0} (s : Stream) (i : ℕ) (line : Line) (t u : Intake) (old new : Played P) (before after : List Intake) (r : Result T RunErr)
      → EventsRise before → i < length before → ((d : Intake) → slice_index_or before i d ≡ t) → after ≡ slice_set before i u → InletTakes t u line
      → old.failed ≡ false → new ≡ after_step old (with_took old t.event line) r
      → Tells s (trace_of next bodies procs old) (trace_of next bodies procs old) (trace_of next bodies procs new) r
      → IsDefined (setting_of next bodies new) new.takes new.calls → new.calls ≤ new.turns
      → Lived s old new before after r
  lives-take s i line t u old new before after r rise within at set takes sound is told made room =
      lives-step s old (with_took old t.event line) new before after (took_now old t.event line ∷ []) r (record {
        same = record { program = refl; params = refl; names = refl; turns = refl };
        sound = sound;
        least = but_last-extended (session_of next bodies (with_took old t.event line)) (session_of next bodies old)
            (Some (took_now old t.event line)) _ (take-last old t.event line);
        extends = record {
          takes = refl;
          calls_up = omega arith;
          between = all-one (λ took. (old.calls ≤ took.turn) × (took.turn ≤ old.calls)) (took_now old t.event line) (omega arith, omega arith);
          rest = _;
          steps = ap (λ (s : Session B). s.steps) (take-last old t.event line);
        };
        few = omega arith;
        given = subst (EachInlet (Gives (took_now old t.event line ∷ [])) before) (sym set)
            (each-set (Gives (took_now old t.event line ∷ [])) before i u within
            (λ d. subst (λ w. Gives (took_now old t.event line ∷ []) w u) (sym (at d)) (gives-line (took_now old t.event line) t u refl takes.after))
            (λ k d low other. gives-other (took_now old t.event line) (slice_index_or before k d)
            (λ e. apart before rise k i d low within other (ap (λ (w : Intake). w.event) (at d) ∙ e))));
        known = all-one (λ took. HasEvent before took.event) (took_now old t.event line) (i, within, λ d. ap (λ (w : Intake). w.event) (at d));
      }) is told made room

  -- no line was found
  pub lives-none : {T : Type 0} (w : Option (List ℕ)) (f i : ℕ) (t u : Intake) (run : Played P) (before after : List Intake) (x : T)
      → i < length before → ((d : Intake) → slice_index_or before i d ≡ t) → after ≡ slice_set before i u → Gives [] t u
      → run.failed ≡ false → IsDefined (setting_of next bodies run) run.takes run.calls → run.calls ≤ run.turns
      → Lived (stream w w f f) run run before after (Ok x)
  lives-none w f i t u run before after x within at set gives sound made room = record {
    ran = ran-nothing next bodies procs w f run x sound made room;
    draws = record {
      later = [];
      lost = [];
      extends = extends-same run;
      few = omega arith;
      given = subst (EachInlet (Gives []) before) (sym set)
          (each-set (Gives []) before i u within (λ d. subst (λ w. Gives [] w u) (sym (at d)) gives) (λ k d low other. gives-none (slice_index_or before k d)));
      known = all-none _;
    };
  }

  pub gives-nothing : (t u : Intake) → InletFindsNothing t u → Gives [] t u
  gives-nothing t u h = gives-found t u h.after

  pub gives-still : (t u : Intake) → u ≡ t → Gives [] t u
  gives-still t u is = subst (Gives [] t) (sym is) (gives-none t)

  -- ---- one inlet is served

  takes-none : (run : Played P) → Takes next bodies run run
  takes-none run = record { still = refl; more = omega arith; turn = λ h. h; fewer = λ calm e h. h }

  takes-then : (a b c : Played P) → Takes next bodies a b → Takes next bodies b c → Takes next bodies a c
  takes-then a b c p q = record { still = q.still ∙ p.still; more = omega (arith, p.more, q.more); turn = λ h. q.turn (p.turn h); fewer = fewer }
    where
      fewer : IsCalm next bodies a c → (e : ℕ) → is_takeable (session_of next bodies c).live.pod e ≡ true
          → is_takeable (session_of next bodies a).live.pod e ≡ true
      fewer (inl turn) e h = p.fewer (inl turn) e (q.fewer (inl (p.turn turn)) e h)
      fewer (inr same) e h = p.fewer (inr (omega (arith, same, p.more, q.more))) e (q.fewer (inr (omega (arith, same, p.more, q.more))) e h)

  takes-line : (run : Played P) (e : ℕ) (line : Line) → Takes next bodies run (with_took run e line)
  unfolding take_move
  takes-line run e line =
      let s = (session_of next bodies run).live.pod in
      let now = ap (λ (u : Session B). u.live.pod) (take-last run e line) in
      record {
        still = refl;
        more = omega (arith, longer);
        turn = λ h. ap (λ (pod : EventState). phase_of pod.state run.turns run.calls) now
            ∙ phase-kept s.state (take_event s e line.text).after.state run.turns run.calls (take-kept s e line.text) h;
        fewer = λ calm x h. take-fewer s e line.text x (runs calm) (ap (λ pod. is_takeable pod x) (sym now) ∙ h);
      }
    where
      longer : length (run.takes ++ took_now run e line ∷ []) ≡ length run.takes + 1
      longer = omega (arith, length-append run.takes (took_now run e line ∷ []))

      runs : IsCalm next bodies run (with_took run e line) → has_turn (session_of next bodies run).live.pod.state ≡ true
      runs (inl turn) = phase-runs (session_of next bodies run).live.pod.state run.turns run.calls turn
      runs (inr same) = absurd (omega (arith, same, longer))

  serves-at : (i : ℕ) (old new : Played P) (t u : Intake) (before after : List Intake) → i < length before
      → ((d : Intake) → slice_index_or before i d ≡ t) → after ≡ slice_set before i u
      → Takes next bodies old new → IsSeen next bodies old new t u → ServesAt next bodies i old new before after
  serves-at i old new t u before after within at set takes seen = record {
    takes = takes;
    seen = λ d. subst (λ w. IsSeen next bodies old new w (slice_index_or after i d)) (sym (at d))
        (subst (λ w. IsSeen next bodies old new t w) (sym (ap (λ xs. slice_index_or xs i d) set ∙ get_or-set_same before i u d within)) seen);
    others = λ k d other. ap (λ xs. slice_index_or xs k d) set ∙ get_or-set_other before i k u d other;
  }

  pub served-unarmed : (i : ℕ) (run : Played P) (t u : Intake) (before after : List Intake) → i < length before
      → ((d : Intake) → slice_index_or before i d ≡ t) → after ≡ slice_set before i u → u ≡ t
      → is_takeable (session_of next bodies run).live.pod t.event ≡ false → ServesAt next bodies i run run before after
  served-unarmed i run t u before after within at set same unarmed = serves-at i run run t u before after within at set (takes-none run) (record {
    looked = λ turn h. absurd (never h);
    found = λ e h. absurd (never h);
  })
    where
      never : IsWanted next bodies run u → ⊥
      never h = let e : is_takeable (session_of next bodies run).live.pod u.event
          ≡ is_takeable (session_of next bodies run).live.pod t.event = ap (λ (w : Intake). is_takeable (session_of next bodies run).live.pod w.event) same in
          absurd (cc)

  pub served-none : (i : ℕ) (run : Played P) (t u : Intake) (before after : List Intake) → i < length before
      → ((d : Intake) → slice_index_or before i d ≡ t) → after ≡ slice_set before i u
      → InletFindsNothing t u → (IsInletTold t → IsInletTaken t) → ServesAt next bodies i run run before after
  served-none i run t u before after within at set none taken = serves-at i run run t u before after within at set (takes-none run) (record {
    looked = λ turn h. omega (arith, many);
    found = λ e h. (omega (arith, finds), subst (λ w. IsInletTold w → IsInletTaken w) (sym none.after) taken);
  })
    where
      finds : u.finds ≡ t.finds + 1
      finds = ap (λ (w : Intake). w.finds) none.after

      many : looks u ≡ length t.taken + (t.finds + 1)
      many = ap looks none.after

  pub served-line : {T : Type 0} (i : ℕ) (line : Line) (old new : Played P) (t u : Intake) (before after : List Intake) (r : Result T RunErr)
      → i < length before → ((d : Intake) → slice_index_or before i d ≡ t) → after ≡ slice_set before i u
      → InletTakes t u line → new ≡ after_step old (with_took old t.event line) r → OnOk r (ServesAt next bodies i old new before after)
  served-line i line old new t u before after (Err e) within at set takes is = tt
  served-line i line old new t u before after (Ok x) within at set takes is = serves-at i old new t u before after within at set
      (subst (λ n. Takes next bodies old n) (sym is) (takes-line old t.event line)) (record {
        looked = λ turn h. omega (arith, many, length-append t.taken (line ∷ []));
        found = λ same h. absurd (omega (arith, same, longer, length-append old.takes (took_now old t.event line ∷ [])));
      })
    where
      many : looks u ≡ length (t.taken ++ line ∷ []) + t.finds
      many = ap looks takes.after

      longer : length new.takes ≡ length (old.takes ++ took_now old t.event line ∷ [])
      longer = ap (λ (n : Played P). length n.takes) is

  -- ---- one inlet more

  rise-on : (takes : List Took) (a b : List Intake) → EachInlet (Gives takes) a b → EventsRise a → EventsRise b
  rise-on takes a b p rise i j d less low =
      let within = low_of j low in
      let under : i < length a = omega (arith, less, within) in
      let e = gives-event takes (slice_index_or a i d) (slice_index_or b i d) (p.1 i d under) in
      let f = gives-event takes (slice_index_or a j d) (slice_index_or b j d) (p.1 j d within) in
      let r = rise i j d less within in
      omega (arith, e, f, r)
    where
      low_of : (k : ℕ) → k < length b → k < length a
      low_of k low = let n = p.0 in omega (arith, n, low)

  pub rise-still : {T : Type 0} (s : Stream) (old new : Played P) (before after : List Intake) (r : Result T RunErr)
      → Lived s old new before after r → EventsRise before → EventsRise after
  rise-still s old new before after r h rise = rise-on (h.draws.later ++ h.draws.lost) before after h.draws.given rise

  pub rise-living : (s : Stream) (old new : Played P) (before after : List Intake) → Living s old new before after → EventsRise before → EventsRise after
  rise-living s old new before after h rise = rise-on (h.draws.later ++ h.draws.lost) before after h.draws.given rise

  more-takes : {T : Type 0} (s : Stream) (old new : Played P) (before after : List Intake) (r : Result T RunErr)
      → Lived s old new before after r → length old.takes ≤ length new.takes
  more-takes s old new before after r h =
      let e : length new.takes ≡ length (old.takes ++ h.draws.later) = ap length h.draws.extends.takes in
      omega (arith, e, length-append old.takes h.draws.later)

  pub serves-none : (run : Played P) (inlets : List Intake) → Serves next bodies 0 run run inlets inlets
  serves-none run inlets = record { takes = takes-none run; seen = λ k d below low. absurd (omega (arith, below)); others = λ k d above. refl }

  pub serves-more : {T U : Type 0} (s u : Stream) (n : ℕ) (old mid new : Played P) (before some after : List Intake) (x : T) (y : U)
      → Lived s old mid before some (Ok x) → Lived u mid new some after (Ok y)
      → Serves next bodies n old mid before some → ServesAt next bodies n mid new some after → Serves next bodies (n + 1) old new before after
  serves-more s u n old mid new before some after x y p q h at = record {
    takes = takes-then old mid new h.takes at.takes;
    seen = λ k d below low. by k d below low (cases_lt k n);
    others = λ k d above. at.others k d (λ e. absurd (omega (arith, e, above))) ∙ h.others k d (omega (arith, above));
  }
    where
      first : length old.takes ≤ length mid.takes
      first = more-takes s old mid before some (Ok x) p

      second : length mid.takes ≤ length new.takes
      second = more-takes u mid new some after (Ok y) q

      earlier : (v w : Intake) → IsSeen next bodies old mid v w → IsSeen next bodies old new v w
      earlier v w seen = record {
        looked = λ turn wanted. seen.looked turn (at.takes.fewer (inl (h.takes.turn turn)) w.event wanted);
        found = λ same wanted. seen.found (omega (arith, same, first, second)) (at.takes.fewer (inr (omega (arith, same, first, second))) w.event wanted);
      }

      now : (v w : Intake) → IsSeen next bodies mid new v w → IsSeen next bodies old new v w
      now v w seen = record { looked = λ turn. seen.looked (h.takes.turn turn); found = λ same wanted. seen.found (omega (arith, same, first, second)) wanted }

      by : (k : ℕ) (d : Intake) → k < n + 1 → k < length before → (k < n) ⊎ (n ≤ k)
          → IsSeen next bodies old new (slice_index_or before k d) (slice_index_or after k d)
      by k d below low (inl under) =
          subst (IsSeen next bodies old new (slice_index_or before k d)) (sym (at.others k d (λ e. absurd (omega (arith, e, under)))))
          (earlier (slice_index_or before k d) (slice_index_or some k d) (h.seen k d under low))
      by k d below low (inr above) = let same : k ≡ n = omega (arith, below, above) in
          subst (λ k. IsSeen next bodies old new (slice_index_or before k d) (slice_index_or after k d)) (sym same)
          (now (slice_index_or before n d) (slice_index_or after n d)
          (subst (λ v. IsSeen next bodies mid new v (slice_index_or after n d)) (h.others n d (omega arith)) (at.seen d)))

  -- ---- inlets are passed over

  -- those whose events don't wait
  serves-passed : (n m : ℕ) (old new : Played P) (before after : List Intake) → n ≤ m → Serves next bodies n old new before after
      → ((k : ℕ) (d : Intake) → n ≤ k → k < m → k < length before → is_takeable (session_of next bodies new).live.pod (slice_index_or after k d).event ≡ false)
      → Serves next bodies m old new before after
  serves-passed n m old new before after up h none = record {
    takes = h.takes;
    seen = λ k d below low. by k d below low (cases_lt k n);
    others = λ k d above. h.others k d (omega (arith, up, above));
  }
    where
      by : (k : ℕ) (d : Intake) → k < m → k < length before → (k < n) ⊎ (n ≤ k)
          → IsSeen next bodies old new (slice_index_or before k d) (slice_index_or after k d)
      by k d below low (inl under) = h.seen k d under low
      by k d below low (inr above) = let no = none k d above below low in
          record { looked = λ turn wanted. absurd (cc); found = λ same wanted. absurd (cc) }

  -- from the one at place n on, all before place m, since no event from its own on waits below e
  pub serves-below : {T : Type 0} (s : Stream) (n m e : ℕ) (t : Intake) (old new : Played P) (before after : List Intake) (r : Result T RunErr)
      → Lived s old new before after r → EventsRise after → ((d : Intake) → slice_index_or after n d ≡ t) → n + 1 ≤ m → t.event < e
      → HoldsNowhere (is_takeable (session_of next bodies new).live.pod) t.event e → AreBelow after (n + 1) m e
      → Serves next bodies n old new before after → Serves next bodies m old new before after
  serves-below s n m e t old new before after r lives rise at up under nowhere below h =
      serves-passed n m old new before after (omega (arith, up)) h (λ k d above low within. by k d low within (cases_lt n k) above)
    where
      by : (k : ℕ) (d : Intake) → k < m → k < length before → (n < k) ⊎ (k ≤ n) → n ≤ k
          → is_takeable (session_of next bodies new).live.pod (slice_index_or after k d).event ≡ false
      by k d low within (inl above) from =
          let many = lives.draws.given.0 in
          let first = ap (λ (w : Intake). w.event) (at d) in
          let rises = rise n k d above (omega (arith, many, within)) in
          nowhere (slice_index_or after k d).event (omega (arith, first, rises)) (below k d (omega (arith, above)) low)
      by k d low within (inr same) from = let here : k ≡ n = omega (arith, same, from) in
          ap (λ k. is_takeable (session_of next bodies new).live.pod (slice_index_or after k d).event) here
          ∙ ap (λ (w : Intake). is_takeable (session_of next bodies new).live.pod w.event) (at d)
          ∙ nowhere t.event (omega arith) under

  -- all inlets were served, or passed over
  pub serves-end : {I : Type 0} (f : I → Intake) (items some : List I) (n : ℕ) (old new : Played P) → length some ≡ length items
      → n ≤ length some → length some ≤ n
      → Serves next bodies n old new (map f items) (map f some) → Serves next bodies (length (map f items)) old new (map f items) (map f some)
  serves-end f items some n old new same most least h =
      let all : n ≡ length (map f items) = let many = length-map items f in omega (arith, same, most, least, many) in
      subst (λ m. Serves next bodies m old new (map f items) (map f some)) all h

  -- ---- with nobody to run, and no line taken

  pub idle-still : {T : Type 0} (s : Stream) (old new : Played P) (before after : List Intake) (r : Result T RunErr)
      → Lived s old new before after r → Takes next bodies old new → length new.takes ≡ length old.takes
      → phase_now next bodies new ≡ phase_now next bodies old
  idle-still s old new before after r h takes same =
      let e : length new.takes ≡ length (old.takes ++ h.draws.later) = ap length h.draws.extends.takes in
      let none = none-of h.draws.later (omega (arith, e, same, length-append old.takes h.draws.later)) in
      let still : new.takes ≡ old.takes = h.draws.extends.takes ∙ ap (λ l. old.takes ++ l) none ∙ append-nil old.takes in
      (λ i.
      phase_of (play (record { next = next; bodies = bodies (h.ran.same.program i); params = h.ran.same.params i; names = h.ran.same.names i }) (still
      i) (takes.still i)).live.pod.state
      (h.ran.same.turns i) (takes.still i))

  pub none-comes : {T : Type 0} (s : Stream) (old new : Played P) (before after : List Intake) (r : Result T RunErr)
      → Lived s old new before after r → Serves next bodies (length before) old new before after
      → length new.takes ≡ length old.takes → AllTold after → NoneComes next bodies new after
  none-comes s old new before after r h serves same told = (
    told,
    λ k d low wanted.
        let n = h.draws.given.0 in
        let within : k < length before = omega (arith, n, low) in
        ((serves.seen k d within within).found same wanted).1 (told k d low),
  )

  pub quiet-now : {T : Type 0} (s : Stream) (old new : Played P) (before after : List Intake) (r : Result T RunErr)
      → Lived s old new before after r → Serves next bodies (length before) old new before after
      → length new.takes ≡ length old.takes → phase_now next bodies old ≡ phase.Idle → (AllTold after → ⊥) → IsQuiet next bodies new before after
  quiet-now s old new before after r h serves same idle untold = (
    idle-still s old new before after r h serves.takes same ∙ idle,
    untold,
    (h.draws.given.0, λ k d low wanted. ((serves.seen k d low low).found same wanted).0),
  )

  -- a quiet run, seen from earlier on
  quiet-on : (old mid new : Played P) (before some after : List Intake) → Draws next bodies old mid before some 0
      → IsQuiet next bodies new some after → IsQuiet next bodies new before after
  quiet-on old mid new before some after h quiet = (
    quiet.0,
    quiet.1,
    each-then (Gives (h.later ++ h.lost)) (λ t u. IsWanted next bodies new u → t.finds < u.finds)
        (λ t u. IsWanted next bodies new u → t.finds < u.finds) before some after
        (λ t u v p q wanted. let a = gives-finds (h.later ++ h.lost) t u p in let b = q wanted in omega (arith, a, b))
        h.given quiet.2,
  )

  pub answers-on : (old mid new : Played P) (before some after : List Intake) (answer : Live) → Draws next bodies old mid before some 0
      → Answers next bodies new some after answer → Answers next bodies new before after answer
  answers-on old mid new before some after (live.Halt halt) h right = right
  answers-on old mid new before some after live.Quiet h right = quiet-on old mid new before some after h right

-- ---- where it is over

-- how a session has ended in this phase, where no line is left
abbrev pub halt_of : Phase → Halt
halt_of (phase.Ended status) = halts.Ended status
halt_of phase.Spent = halts.Spent
halt_of phase.Turn = halts.Stuck
halt_of phase.Idle = halts.Stuck

none-wanted : (s : EventState) (es : List ℕ) → list_any (λ e. can_take s [] e) es ≡ false
none-wanted s [] = refl
none-wanted s (e ∷ es) = by (is_takeable s e) (none-wanted s es)
  where
    by : (b : Bool) → list_any (λ e. can_take s [] e) es ≡ false → ((b && false) || list_any (λ e. can_take s [] e) es) ≡ false
    by true h = h
    by false h = h

over-phase : (s : EventState) (turns calls : ℕ) → phase_of s.state turns calls ≢ phase.Turn
    → over turns s calls [] ≡ Some (halt_of (phase_of s.state turns calls))
over-phase s turns calls h = by_end s.state.ended (choice s.state) h
  where
    by_count : (a b : Bool) → nat_lt calls turns ≡ a → nat_le turns calls ≡ b → cond a phase.Turn phase.Spent ≢ phase.Turn
        → cond b (Some halts.Spent) None ≡ Some (halt_of (cond a phase.Turn phase.Spent))
    by_count true b isa isb h = absurd (h refl)
    by_count false true isa isb h = refl
    by_count false false isa isb h = absurd (grind (arith, nat_tests))

    by_end : (b : Bool) (o : Option ℕ) → cond b (phase.Ended s.state.status) (phase_by turns calls o) ≢ phase.Turn
        → cond b (Some (halts.Ended s.state.status)) (halt_if turns calls (is_wanted s []) o)
        ≡ Some (halt_of (cond b (phase.Ended s.state.status) (phase_by turns calls o)))
    by_end true o h = refl
    by_end false None h = ap (λ b. cond b None (Some halts.Stuck)) (none-wanted s events)
    by_end false (Some t) h = by_count (nat_lt calls turns) (nat_le turns calls) refl refl h

module _ {B P : Type 0} (next : Next B) (bodies : P → List B) (procs : P → List (List ℕ)) (run : Played P) where
  ends-by : (now : Phase) → phase_now next bodies run ≡ now → now ≢ phase.Turn → EndsAt next bodies run [] (halt_of now)
  ends-by now is other = over-phase (session_of next bodies run).live.pod run.turns run.calls (λ e. other (sym is ∙ e)) ∙ ap (λ now. Some (halt_of now)) is

  pub halts-stuck : (inlets : List Intake) → phase_now next bodies run ≡ phase.Idle → NoneComes next bodies run inlets
      → Halts next bodies run inlets halts.Stuck
  halts-stuck inlets is none = (ends-by phase.Idle is (λ e. absurd (cc)), λ e. none)
