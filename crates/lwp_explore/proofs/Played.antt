-- Each core that steps lead to is that of a session.
use Rattle.event_gate.specs.Clients.{IsNumbered, of}
use Rattle.event_gate.specs.History.{lines_of}
use Rattle.event_gate.specs.Shelves.{event_of}
use Rattle.lwp_explore.proofs.Alike.{alike_core, core_alike, move_alike, take_alike}
use Rattle.lwp_explore.proofs.Reached.{same_take}
use Rattle.lwp_explore.proofs.Turns.{AreInTurn, as_many, count_now, counts_more, none_yet, of_append}
use Rattle.lwp_explore.specs.CoreLaws.{CoresHaveSessions}
use Rattle.lwp_explore.specs.Cores.{Step, World, after, call_made, calls_at, count_at, first_core, live_of}
use Rattle.lwp_explore.specs.Cores.{next_line, take_if, take_made, takes_from, with_taken}
use Rattle.lwp_explore.specs.Sessions.{core_at}
use Rattle.lwp_types.specs.declared.call.Line.{Line}
use Rattle.pod_events.specs.Events.{has_turn, is_takeable}
use Rattle.pod_runner.proofs.Plays.{IsDefined-call, IsDefined-take, IsDefined-zero, LastBy-of, play-call, play-take, play-zero}
use Rattle.pod_runner.specs.Due.{IsDefined}
use Rattle.pod_runner.specs.Play.{play}
use Rattle.pod_runner.specs.Session.{Session, move, take_move}
use Rattle.pod_runner.specs.Snapshots.{taken_by}
use Rattle.pod_runner.specs.declared.session.Took.{Took}
use Rattle.script_session.specs.History.{pair_of, pairs_of}
use Rattle.search.specs.Moves.{walk}
use Rattle.session_cores.specs.Core.{Core, core_of}
use Rattle.std.proofs.Common.{All, Bool, List, None, Option, Some, [], ap, arith, cond, eqb, false, inl, inr, length, length-append}
use Rattle.std.proofs.Common.{map, refl, slice_get, subst, suc, sym, true, zero, ℕ, ◌++◌, ◌+◌, ◌<◌, ◌∙◌, ◌∷◌, ◌≡◌, ◌≢◌, ◌⊎◌}
use Rattle.std.proofs.lemmas.Bool.{eq-eqb, eqb-true, ne_eqb}
use Rattle.std.proofs.lemmas.List.{append_assoc}
use Rattle.std.specs.Prelude.{if◌then◌else◌, option_and_then, slice_index}

-- ---- lists

all_push : {A : Type 0} (P : A → Type 0) (xs : List A) (x : A) → All P xs → P x → All P (xs ++ x ∷ [])
all_push P [] x hs h zero d within = h
all_push P [] x hs h (suc k) d within = absurd (omega (arith, within))
all_push P (y ∷ xs) x hs h zero d within = hs zero d (omega arith)
all_push P (y ∷ xs) x hs h (suc k) d within = all_push P xs x (λ i d w. hs (suc i) d (omega (arith, w))) h k d (omega (arith, within))

pub numbered_first : (n : ℕ) (xs ys : List Line) → IsNumbered n (xs ++ ys) → IsNumbered n xs
numbered_first n [] ys h = tt
numbered_first n (x ∷ xs) ys h = (h.0, h.1, numbered_first (suc n) xs ys h.2)

get_after : {A : Type 0} (xs ys : List A) → slice_get (xs ++ ys) (length xs) ≡ slice_get ys 0
get_after [] ys = refl
get_after (x ∷ xs) ys = get_after xs ys

pub of_client : (c : ℕ) (lines : List Line) (k : ℕ) (line : Line) → slice_get (of c lines) k ≡ Some line → line.client ≡ c
of_client c [] k line h = absurd cc
of_client c (x ∷ lines) k line h = by (eqb x.client c) refl k h (of_client c lines)
  where
    by : (b : Bool) → eqb x.client c ≡ b → (k : ℕ) → slice_get (cond b (x ∷ of c lines) (of c lines)) k ≡ Some line
        → ((k : ℕ) (line : Line) → slice_get (of c lines) k ≡ Some line → line.client ≡ c) → line.client ≡ c
    by true e zero h rest = let same : x ≡ line = cc in ap (λ l. l.client) (sym same) ∙ eqb-true x.client c e
    by true e (suc k) h rest = rest k line h
    by false e k h rest = rest k line h

-- all but the first line of client c
abbrev pub without_first : ℕ → List Line → List Line
without_first c [] = []
without_first c (x ∷ xs) = cond (eqb x.client c) xs (x ∷ without_first c xs)

own_rest : (c : ℕ) (lines : List Line) (line : Line) → slice_get (of c lines) 0 ≡ Some line → of c lines ≡ line ∷ of c (without_first c lines)
own_rest c [] line h = absurd cc
own_rest c (x ∷ lines) line h = by (eqb x.client c) refl h (own_rest c lines line)
  where
    by : (b : Bool) → eqb x.client c ≡ b → slice_get (cond b (x ∷ of c lines) (of c lines)) 0 ≡ Some line
        → (slice_get (of c lines) 0 ≡ Some line → of c lines ≡ line ∷ of c (without_first c lines))
        → cond b (x ∷ of c lines) (of c lines) ≡ line ∷ of c (cond b lines (x ∷ without_first c lines))
    by true e h rest = let same : x ≡ line = cc in ap (λ l. l ∷ of c lines) same
    by false e h rest = rest h ∙ ap (λ b. line ∷ cond b (x ∷ of c (without_first c lines)) (of c (without_first c lines))) (sym e)

other_rest : (c d : ℕ) → d ≢ c → (lines : List Line) → of d (without_first c lines) ≡ of d lines
other_rest c d other [] = refl
other_rest c d other (x ∷ lines) = by (eqb x.client c) refl (other_rest c d other lines)
  where
    by : (b : Bool) → eqb x.client c ≡ b → of d (without_first c lines) ≡ of d lines → of d (cond b lines (x ∷ without_first c lines)) ≡ of d (x ∷ lines)
    by true e h = let at : x.client ≡ c = eqb-true x.client c e in
        ap (λ b. cond b (x ∷ of d lines) (of d lines)) (sym (ne_eqb x.client d (λ is. other (sym is ∙ at))))
    by false e h = ap (λ l. cond (eqb x.client d) (x ∷ l) l) h

pub some_is : {A : Type 0} {x y : A} → Some x ≡ Some y → x ≡ y
some_is e = cc

module _ {B : Type 0} (world : World B) where
  -- ---- what a step is

  pub record TakeStep (core to : Core B) : Type 0 where
    pub client : ℕ
    pub line : Line
    pub within : client < length world.events
    pub next : next_line world core client ≡ Some line
    pub may : is_takeable core.pod (slice_index world.events client) ≡ true
    pub leads : (take_made world core client (record { turn = 0; event = slice_index world.events client; line = line })).to ≡ to

  pub record CallStep (core to : Core B) : Type 0 where
    pub due : has_turn core.pod.state ≡ true
    pub leads : (call_made world core).to ≡ to

  -- these are the events of clients, from this one on
  abbrev pub AreEvents : ℕ → List ℕ → Type 0
  AreEvents from events = (k : ℕ) → k < length events → (from + k < length world.events) × (slice_index world.events (from + k) ≡ slice_index events k)

  -- a step to this core is a take, or is among these others
  abbrev pub IsTakeOr : Core B → Core B → List (Step B) → Type 0
  IsTakeOr core to more = TakeStep core to ⊎ ((j : ℕ) × (slice_get (map (λ (s : Step B). s.to) more) j ≡ Some to))

  one_take : (core to : Core B) (c e : ℕ) → c < length world.events → slice_index world.events c ≡ e → (later more : List (Step B))
      → ((i : ℕ) → slice_get (map (λ (s : Step B). s.to) (later ++ more)) i ≡ Some to → IsTakeOr core to more)
      → (o : Option Line) → next_line world core c ≡ o → (i : ℕ)
      → slice_get (map (λ (s : Step B). s.to) ((take_if world core c e o ++ later) ++ more)) i ≡ Some to → IsTakeOr core to more
  one_take core to c e within event later more rest None next i h = rest i h
  one_take core to c e within event later more rest (Some line) next i h = by_may (is_takeable core.pod e) refl i h
    where
      by_may : (b : Bool) → is_takeable core.pod e ≡ b → (i : ℕ)
          → slice_get (map (λ (s : Step B). s.to) (((if b then take_made world core c
          (record { turn = 0; event = e; line = line }) ∷ [] else []) ++ later) ++ more)) i ≡ Some to
          → IsTakeOr core to more
      by_may true may zero h = inl (record {
        client = c;
        line = line;
        within = within;
        next = next;
        may = ap (is_takeable core.pod) event ∙ may;
        leads = ap (λ n. (take_made world core c (record { turn = 0; event = n; line = line })).to) event ∙ some_is h;
      })
      by_may true may (suc i) h = rest i h
      by_may false may i h = rest i h

  pub take_is : (core : Core B) (from : ℕ) (events : List ℕ) → AreEvents from events → (more : List (Step B)) (i : ℕ) (to : Core B)
      → slice_get (map (λ (s : Step B). s.to) (takes_from world core from events ++ more)) i ≡ Some to → IsTakeOr core to more
  take_is core from [] are more i to h = inr (i, h)
  take_is core from (e ∷ events) are more i to h =
      let first = are 0 (omega arith) in
      let at : from ≡ from + 0 = omega arith in
      one_take core to from e (omega (arith, first.0)) (ap (λ n. slice_index world.events n) at ∙ first.1) (takes_from world core (from + 1) events) more
      (λ i h. take_is core (from + 1) events
      (λ k w. (let next = are (suc k) (omega (arith, w)) in let at : (from + 1) + k ≡ from + suc k = omega arith in
      (omega (arith, next.0), ap (λ n. slice_index world.events n) at ∙ next.1)))
      more i to h)
      (next_line world core from) refl i h

  pub call_is : (core to : Core B) (j : ℕ) → slice_get (map (λ (s : Step B). s.to) (calls_at world core)) j ≡ Some to → CallStep core to
  call_is core to j h = by (has_turn core.pod.state) refl j h
    where
      by : (b : Bool) → has_turn core.pod.state ≡ b → (j : ℕ) → slice_get (map (λ (s : Step B). s.to) (if b then call_made world core ∷ [] else [])) j ≡ Some to
          → CallStep core to
      by true due zero h = record { due = due; leads = cc }
      by true due (suc j) h = absurd cc
      by false due j h = absurd cc

  pub step_is : (core to : Core B) (i : ℕ) → slice_get (after world core) i ≡ Some to → TakeStep core to ⊎ CallStep core to
  step_is core to i h = elim (take_is core 0 world.events (λ k w. (let at : 0 + k
      ≡ k = omega arith in (omega (arith, w), ap (λ n. slice_index world.events n) at))) (calls_at world core) i to h) [
        | inl take ↦ inl take
        | inr call ↦ inr (call_is core to call.0 call.1)
      ]

  -- ---- the session so far

  record IsPlayed (count : ℕ) (core : Core B) : Type 0 where
    takes : List Took
    calls : ℕ
    left : List Line
    made : IsDefined world.setting takes calls
    turn : AreInTurn world takes left
    same : core ≡ core_at world takes calls
    steps : count ≡ calls + length takes

  call_played : (count : ℕ) (core to : Core B) → IsPlayed count core → CallStep core to → IsPlayed (count + 1) to
  call_played count core to was call =
      let s = play world.setting was.takes was.calls in
      let taken = taken_by (length world.events) was.takes in
      let due : has_turn s.live.pod.state ≡ true = ap (λ c. has_turn c.pod.state) (sym was.same) ∙ call.due in
      let last = LastBy-of world.setting was.takes was.calls was.made in
      record {
        takes = was.takes;
        calls = was.calls + 1;
        left = was.left;
        made = IsDefined-call world.setting was.takes was.calls last was.made due;
        turn = was.turn;
        same = sym call.leads ∙ ap (λ c. (call_made world c).to) was.same
            ∙ sym (core_alike (move world.setting.next world.setting.bodies s.live).live
            (move world.setting.next world.setting.bodies (live_of (core_of s.live taken))).live taken taken
            (move_alike world.setting.next world.setting.bodies s.live (live_of (core_of s.live taken)) (alike_core s.live taken)).lives refl)
            ∙ ap (λ (p : Session B). core_of p.live taken) (sym (play-call world.setting was.takes was.calls last));
        steps = omega (arith, was.steps);
      }

  pub turn_more : (takes : List Took) (left : List Line) (t : Took) → AreInTurn world takes left → t.line.client < length world.events
      → event_of world.events t.line.client ≡ t.event
      → slice_get (of t.line.client world.posts) (count_at (taken_by (length world.events) takes) t.line.client) ≡ Some t.line
      → AreInTurn world (takes ++ t ∷ []) (without_first t.line.client left)
  turn_more takes left t turn within event next =
      let c = t.line.client in
      let first : slice_get (of c left) 0 ≡ Some t.line =
      sym (get_after (of c (lines_of (pairs_of takes))) (of c left))
      ∙ (λ i. slice_get (turn.lines c i) (as_many c takes i))
      ∙ ap (slice_get (of c world.posts)) (sym (count_now (length world.events) c takes within)) ∙ next in
      record {
        events = subst (λ ps. All (λ p. event_of world.events p.1.client ≡ p.0) ps) (sym (split_of takes t))
            (all_push (λ p. event_of world.events p.1.client ≡ p.0) (pairs_of takes) (pair_of t) turn.events event);
        lines = λ d. lines_more d (eqb c d) refl first;
        clients = all_push (λ took. took.line.client < length world.events) takes t turn.clients within;
      }
    where
      split_of : (takes : List Took) (t : Took) → pairs_of (takes ++ t ∷ []) ≡ pairs_of takes ++ pair_of t ∷ []
      split_of [] t = refl
      split_of (u ∷ takes) t = ap (λ ps. pair_of u ∷ ps) (split_of takes t)

      lines_of_more : (takes : List Took) (t : Took) → lines_of (pairs_of (takes ++ t ∷ [])) ≡ lines_of (pairs_of takes) ++ t.line ∷ []
      lines_of_more [] t = refl
      lines_of_more (u ∷ takes) t = ap (λ ls. u.line ∷ ls) (lines_of_more takes t)

      lines_more : (d : ℕ) (b : Bool) → eqb t.line.client d ≡ b → slice_get (of t.line.client left) 0 ≡ Some t.line
          → of d (lines_of (pairs_of (takes ++ t ∷ []))) ++ of d (without_first t.line.client left) ≡ of d world.posts
      lines_more d b e first =
          ap (λ ls. of d ls ++ of d (without_first t.line.client left)) (lines_of_more takes t)
          ∙ ap (λ ls. ls ++ of d (without_first t.line.client left)) (of_append d (lines_of (pairs_of takes)) (t.line ∷ []))
          ∙ append_assoc (of d (lines_of (pairs_of takes))) (of d (t.line ∷ [])) (of d (without_first t.line.client left))
          ∙ ap (λ ls. of d (lines_of (pairs_of takes)) ++ ls) (rest b e) ∙ turn.lines d
        where
          rest : (b : Bool) → eqb t.line.client d ≡ b → of d (t.line ∷ []) ++ of d (without_first t.line.client left) ≡ of d left
          rest true e = let is : t.line.client ≡ d = eqb-true t.line.client d e in
              ap (λ b. cond b (t.line ∷ []) [] ++ of d (without_first t.line.client left)) e
              ∙ subst (λ k. t.line ∷ of k (without_first t.line.client left) ≡ of k left) is (sym (own_rest t.line.client left t.line first))
          rest false e = ap (λ b. cond b (t.line ∷ []) [] ++ of d (without_first t.line.client left)) e
              ∙ other_rest t.line.client d (λ is. absurd (cc (e, eq-eqb t.line.client d (sym is)))) left

  take_played : (count : ℕ) (core to : Core B) → IsPlayed count core → TakeStep core to → IsPlayed (count + 1) to
  take_played count core to was take =
      let s = play world.setting was.takes was.calls in
      let taken = taken_by (length world.events) was.takes in
      let c = take.client in
      let e = slice_index world.events c in
      let at : take.line.client ≡ c = of_client c world.posts (count_at core.taken c) take.line take.next in
      let t : Took = record { turn = was.calls; event = e; line = take.line } in
      let next : slice_get (of take.line.client world.posts) (count_at taken take.line.client) ≡ Some take.line =
      (λ i. slice_get (of (at i) world.posts) (count_at (sym was.same i).taken (at i))) ∙ take.next in
      let within : take.line.client < length world.events = omega (arith, at, take.within) in
      let due : is_takeable s.live.pod e ≡ true = ap (λ k. is_takeable k.pod e) (sym was.same) ∙ take.may in
      record {
        takes = was.takes ++ t ∷ [];
        calls = was.calls;
        left = without_first take.line.client was.left;
        made = IsDefined-take world.setting t was.takes was.calls refl was.made due;
        turn = turn_more was.takes was.left t was.turn within (ap (event_of world.events) at) next;
        same = sym take.leads ∙ ap (λ k. (take_made world k c (record { turn = 0; event = e; line = take.line })).to) was.same
            ∙ sym (core_alike (take_move world.setting.bodies t s.live).live
            (take_move world.setting.bodies (record { turn = 0; event = e; line = take.line }) (live_of (core_of s.live taken))).live
            (taken_by (length world.events) (was.takes ++ t ∷ [])) (with_taken taken c)
            (same_take world t s.live (live_of (core_of s.live taken)) (take_alike world.setting.bodies t s.live (live_of (core_of s.live taken))
            (alike_core s.live taken)).lives)
            (sym (counts_more (length world.events) t was.takes within) ∙ ap (λ k. with_taken taken k) at))
            ∙ ap (λ (p : Session B). core_of p.live (taken_by (length world.events) (was.takes ++ t ∷ []))) (sym
            (play-take world.setting t was.takes was.calls refl));
        steps = omega (arith, was.steps, length-append was.takes (t ∷ []));
      }

  one_played : (path : List ℕ) (i count : ℕ) (from to : Core B) → IsPlayed count from
      → ((next : Core B) → IsPlayed (count + 1) next → walk (after world) next path ≡ Some to → IsPlayed (count + 1 + length path) to)
      → (o : Option (Core B)) → slice_get (after world from) i ≡ o → option_and_then (λ c. walk (after world) c path) o ≡ Some to
      → IsPlayed (count + length (i ∷ path)) to
  one_played path i count from to was rest None h led = absurd cc
  one_played path i count from to was rest (Some next) h led =
      let as_long : count + 1 + length path ≡ count + length (i ∷ path) = omega arith in
      subst (λ n. IsPlayed n to) as_long (rest next (elim (step_is from next i h) [
        | inl take ↦ take_played count from next was take
        | inr call ↦ call_played count from next was call
      ]) led)

  played_along : (path : List ℕ) (count : ℕ) (from to : Core B) → IsPlayed count from → walk (after world) from path ≡ Some to
      → IsPlayed (count + length path) to
  played_along [] count from to was led =
      let same : from ≡ to = some_is led in
      let none : count ≡ count + 0 = omega arith in
      subst (λ n. IsPlayed n to) none (subst (λ c. IsPlayed count c) same was)
  played_along (i ∷ path) count from to was led =
      one_played path i count from to was (λ next now led. played_along path (count + 1) next to now led) (slice_get (after world from) i) refl led

  played_first : IsPlayed 0 (first_core world)
  played_first = record {
    takes = [];
    calls = 0;
    left = world.posts;
    made = IsDefined-zero world.setting;
    turn = record { events = λ k d within. absurd (omega (arith, within)); lines = λ c. refl; clients = λ k d within. absurd (omega (arith, within)) };
    same = (λ i. core_of (sym (play-zero world.setting) i).live (sym (none_yet 0 (length world.events)) i));
    steps = refl;
  }

pub cores_have_sessions : (B : Type 0) → CoresHaveSessions B
cores_have_sessions B world numbered path core led =
    let was = played_along world path 0 (first_core world) core (played_first world) led in
    record {
      takes = was.takes;
      calls = was.calls;
      session = record {
        made = was.made;
        left = was.left;
        history = record {
          events_are = was.turn.events;
          lines_are = was.turn.lines;
          numbered = λ c. numbered_first 0 (of c (lines_of (pairs_of was.takes))) (of c was.left) (subst (λ ls. IsNumbered 0 ls) (sym
              (was.turn.lines c)) (numbered c));
        };
        clients = was.turn.clients;
      };
      same = was.same;
      steps = omega (arith, was.steps);
    }
