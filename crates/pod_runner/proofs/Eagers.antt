-- What each part of an eager session does: it goes on, and comes nearer to its end.
use Rattle.std.proofs.Common.{◌≡◌, ◌≤◌, ◌<◌, ℕ, zero, suc, ◌+◌, ◌-◌, List, [], ◌∷◌, Bool, true, false, cond, None, Some, ap, ◌∙◌}
use Rattle.std.proofs.Common.{refl, sym, subst, ◌++◌, append-nil, append_assoc, length, drop, length-append, inl, inr, arith}
use Rattle.std.specs.Prelude.{Option, is_some, ◌&&◌, ◌||◌, ◌⊎◌, nat_le}
use Rattle.std.specs.List.{fold, list_any, range_with_len, slice_get}
use Rattle.std.specs.Slice.Scan.{HoldsNowhere}
use Rattle.std.proofs.lemmas.Bool.Decides.{nat_tests}
use Rattle.std.proofs.lemmas.List.Sums.{sum_by-set}
use Rattle.event_gate.specs.Shelves.{Shelf, Shelves, after_next, after_take_from, bare, first_left, left_in_all, shelf_of}
use Rattle.pod_events.specs.Events.{is_takeable}
use Rattle.lwp_types.specs.Choice.{choice}
use Rattle.lwp_types.specs.declared.call.Line.{Line}
use Rattle.trace_text.specs.declared.ends.Halt.{Halt}
use Rattle.trace_text.specs.declared.ends.Halt.TheVariants as halts
use Rattle.pod_runner.specs.Eager.{IsFirstPart, Plan, Planned, after_advance, boundary, after_finish, has_choice, after_offer}
use Rattle.pod_runner.specs.Eager.{after_offer_by, one_call, plan_over, round, pod_of, after_take, to_the_end, took_of}
use Rattle.pod_runner.specs.Over.{can_take, events, halt_if, is_wanted}
use Rattle.pod_runner.specs.Session.{move, take_move}

-- ---- lines left

-- with no line left, a take changes nothing
moved-none : (s : Shelf Line) → slice_get s.left 0 ≡ None → after_next s ≡ s
moved-none s h = by_left s.taken s.left h
  where
    by_left : (taken left : List Line) → slice_get left 0 ≡ None → after_next (record { taken = taken; left = left }) ≡ record { taken = taken; left = left }
    by_left taken [] h = ap (λ t. record { taken = t; left = [] }) (append-nil taken)
    by_left taken (x ∷ left) h = absurd (cc)

pub taken_from-none : (shelves : Shelves) (e : ℕ) → first_left shelves e ≡ None → after_take_from shelves e ≡ shelves
taken_from-none [] e h = refl
taken_from-none (s ∷ shelves) zero h = ap (λ t. t ∷ shelves) (moved-none s h)
taken_from-none (s ∷ shelves) (suc e) h = ap (λ t. s ∷ t) (taken_from-none shelves e h)

-- with one left, one fewer is left then
one_less : (s : Shelf Line) (x : Line) → slice_get s.left 0 ≡ Some x → length (drop 1 s.left) + 1 ≡ length s.left
one_less s x h = by_left s.left h
  where
    by_left : (left : List Line) → slice_get left 0 ≡ Some x → length (drop 1 left) + 1 ≡ length left
    by_left [] h = absurd (cc)
    by_left (y ∷ left) h = omega arith

within : (shelves : Shelves) (e : ℕ) (x : Line) → first_left shelves e ≡ Some x → e < length shelves
within [] e x h = absurd (cc)
within (s ∷ shelves) zero x h = omega arith
within (s ∷ shelves) (suc e) x h = let n = within shelves e x h in omega (arith, n)

fewer_left : (shelves : Shelves) (e : ℕ) (x : Line) → first_left shelves e ≡ Some x → left_in_all (after_take_from shelves e) + 1 ≡ left_in_all shelves
fewer_left shelves e x h =
    let s = sum_by-set (λ (s : Shelf Line). length s.left) shelves e (after_next (shelf_of shelves e)) bare (within shelves e x h) in
    let n = one_less (shelf_of shelves e) x h in
    omega (arith, s, n)

-- ---- first parts

pub first-same : {B : Type 0} (plan : Plan B) → IsFirstPart plan plan
first-same plan = record { rest = []; steps = sym (append-nil plan.session.steps); later = []; takes = sym (append-nil plan.takes); calls_up = omega arith }

pub first-then : {B : Type 0} (a b c : Plan B) → IsFirstPart a b → IsFirstPart b c → IsFirstPart a c
first-then a b c p q = record {
  rest = p.rest ++ q.rest;
  steps = q.steps ∙ ap (λ steps. steps ++ q.rest) p.steps ∙ append_assoc a.session.steps p.rest q.rest;
  later = p.later ++ q.later;
  takes = q.takes ∙ ap (λ takes. takes ++ q.later) p.takes ∙ append_assoc a.takes p.later q.later;
  calls_up = omega (arith, p.calls_up, q.calls_up);
}

module _ {B : Type 0} (planned : Planned B) where
  -- ---- one event

  taken-grows : (e : ℕ) (line : Line) (plan : Plan B) → IsFirstPart plan (after_take planned e line plan)
  taken-grows e line plan = record {
    rest = record { take = Some (took_of e line plan); effects = (take_move planned.setting.bodies (took_of e line plan) plan.session.live).effects } ∷ [];
    steps = refl;
    later = took_of e line plan ∷ [];
    takes = refl;
    calls_up = omega arith;
  }

  by_line : (e : ℕ) (plan : Plan B) (o : Option Line) → IsFirstPart plan (after_offer_by planned e plan o)
  by_line e plan None = first-same plan
  by_line e plan (Some line) = taken-grows e line plan

  by_armed : (e : ℕ) (plan : Plan B) (b : Bool)
      → IsFirstPart plan (elim b as (λ _. Plan B) [ true ↦ after_offer_by planned e plan (first_left plan.left e) | false ↦ plan ])
  by_armed e plan true = by_line e plan (first_left plan.left e)
  by_armed e plan false = first-same plan

  pub offered-grows : (e : ℕ) (plan : Plan B) → IsFirstPart plan (after_offer planned e plan)
  offered-grows e plan = by_armed e plan (is_takeable (pod_of plan) e)

  pub offered-unable : (e : ℕ) (plan : Plan B) → first_left plan.left e ≡ None → after_offer planned e plan ≡ plan
  offered-unable e plan f = by (is_takeable (pod_of plan) e)
    where
      by : (b : Bool) → elim b as (λ _. Plan B) [ true ↦ after_offer_by planned e plan (first_left plan.left e) | false ↦ plan ] ≡ plan
      by true = ap (after_offer_by planned e plan) f
      by false = refl

  -- where no line can be taken, nothing happens; else one is taken
  pub offered-none : (e : ℕ) (plan : Plan B) → can_take (pod_of plan) plan.left e ≡ false → after_offer planned e plan ≡ plan
  offered-none e plan h = by (is_takeable (pod_of plan) e) (first_left plan.left e) h
    where
      by : (b : Bool) (o : Option Line) → (b && is_some o) ≡ false → elim b as (λ _. Plan B) [ true ↦ after_offer_by planned e plan o | false ↦ plan ] ≡ plan
      by false o h = refl
      by true None h = refl
      by true (Some line) h = absurd (cc)

  pub offered-some : (e : ℕ) (plan : Plan B) (line : Line) → is_takeable (pod_of plan) e ≡ true → first_left plan.left e ≡ Some line
      → after_offer planned e plan ≡ after_take planned e line plan
  offered-some e plan line a f = ap (λ (b : Bool). elim b as (λ _. Plan B) [ true ↦ after_offer_by planned e plan (first_left plan.left e) | false ↦ plan ]) a
      ∙ ap (after_offer_by planned e plan) f

  -- ---- what is kept: lines are taken or left, and calls are made or aren't

  -- so many lines were taken, or are left
  abbrev in_all : Plan B → ℕ
  in_all plan = length plan.takes + left_in_all plan.left

  record Same (a b : Plan B) : Type 0 where
    pub all : in_all b ≡ in_all a
    pub calls : b.calls ≡ a.calls
    pub more : length a.takes ≤ length b.takes

  same-same : (plan : Plan B) → Same plan plan
  same-same plan = record { all = refl; calls = refl; more = omega arith }

  same-then : (a b c : Plan B) → Same a b → Same b c → Same a c
  same-then a b c p q = record { all = q.all ∙ p.all; calls = q.calls ∙ p.calls; more = omega (arith, p.more, q.more) }

  taken-same : (e : ℕ) (line : Line) (plan : Plan B) → first_left plan.left e ≡ Some line → Same plan (after_take planned e line plan)
  taken-same e line plan h =
      let n = length-append plan.takes (took_of e line plan ∷ []) in
      let m = fewer_left plan.left e line h in
      record { all = omega (arith, n, m); calls = refl; more = omega (arith, n) }

  same_by_line : (e : ℕ) (plan : Plan B) (o : Option Line) → first_left plan.left e ≡ o → Same plan (after_offer_by planned e plan o)
  same_by_line e plan None h = same-same plan
  same_by_line e plan (Some line) h = taken-same e line plan h

  same_by_armed : (e : ℕ) (plan : Plan B) (b : Bool)
      → Same plan (elim b as (λ _. Plan B) [ true ↦ after_offer_by planned e plan (first_left plan.left e) | false ↦ plan ])
  same_by_armed e plan true = same_by_line e plan (first_left plan.left e) refl
  same_by_armed e plan false = same-same plan

  offered-same : (e : ℕ) (plan : Plan B) → Same plan (after_offer planned e plan)
  offered-same e plan = same_by_armed e plan (is_takeable (pod_of plan) e)

  -- ---- several events

  abbrev pub serves : Plan B → List ℕ → Plan B
  serves plan es = fold (λ (now : Plan B) e. after_offer planned e now) plan es

  pub serves-grow : (es : List ℕ) (plan : Plan B) → IsFirstPart plan (serves plan es)
  serves-grow [] plan = first-same plan
  serves-grow (e ∷ es) plan =
      first-then plan (after_offer planned e plan) (serves (after_offer planned e plan) es) (offered-grows e plan) (serves-grow es (after_offer planned e plan))

  serves-same : (es : List ℕ) (plan : Plan B) → Same plan (serves plan es)
  serves-same [] plan = same-same plan
  serves-same (e ∷ es) plan =
      same-then plan (after_offer planned e plan) (serves (after_offer planned e plan) es) (offered-same e plan) (serves-same es (after_offer planned e plan))

  -- where none of these events has a line that can be delivered, nothing is taken
  pub serves-none : (plan : Plan B) (a n : ℕ) → HoldsNowhere (can_take (pod_of plan) plan.left) a (a + n) → serves plan (range_with_len a n) ≡ plan
  serves-none plan a zero none = refl
  serves-none plan a (suc n) none =
      ap (λ p. serves p (range_with_len (a + 1) n)) (offered-none a plan (none a (omega arith) (omega arith)))
      ∙ serves-none plan (a + 1) n (λ k low high. none k (omega (arith, low)) (omega (arith, high)))

  -- nothing can be taken, and nothing is; or something can be, and is
  abbrev Serves : List ℕ → Plan B → Type 0
  Serves es plan = ((serves plan es ≡ plan) × (list_any (λ e. can_take (pod_of plan) plan.left e) es ≡ false))
      ⊎ ((length plan.takes + 1 ≤ length (serves plan es).takes) × (list_any (λ e. can_take (pod_of plan) plan.left e) es ≡ true))

  takes_one : (e : ℕ) (es : List ℕ) (plan : Plan B) (b : Bool) (o : Option Line) → is_takeable (pod_of plan) e ≡ b
      → first_left plan.left e ≡ o → (b && is_some o) ≡ true
      → length plan.takes + 1 ≤ length (serves (after_offer planned e plan) es).takes
  takes_one e es plan false o a f h = absurd (cc)
  takes_one e es plan true None a f h = absurd (cc)
  takes_one e es plan true (Some line) a f h =
      let more : length (after_offer planned e plan).takes
      ≤ length (serves (after_offer planned e plan) es).takes = (serves-same es (after_offer planned e plan)).more in
      let one : length (after_offer planned e plan).takes
      ≡ length plan.takes + 1 = ap (λ (p : Plan B). length p.takes) (offered-some e plan line a f) ∙ length-append plan.takes (took_of e line plan ∷ []) in
      omega (arith, more, one)

  serves-or : (es : List ℕ) (plan : Plan B) → Serves es plan
  serves-or [] plan = inl (refl, refl)
  serves-or (e ∷ es) plan = by_can (can_take (pod_of plan) plan.left e) refl (serves-or es plan)
    where
      by_rest : can_take (pod_of plan) plan.left e ≡ false → Serves es plan → Serves (e ∷ es) plan
      by_rest h (inl w) = inl (
        ap (λ p. serves p es) (offered-none e plan h) ∙ w.0,
        ap (λ b. b || list_any (λ e. can_take (pod_of plan) plan.left e) es) h ∙ w.1,
      )
      by_rest h (inr w) = inr (
        subst (λ (p : Plan B). length plan.takes + 1 ≤ length (serves p es).takes) (sym (offered-none e plan h)) w.0,
        ap (λ b. b || list_any (λ e. can_take (pod_of plan) plan.left e) es) h ∙ w.1,
      )

      by_can : (b : Bool) → can_take (pod_of plan) plan.left e ≡ b → Serves es plan → Serves (e ∷ es) plan
      by_can true h rest = inr (
        takes_one e es plan (is_takeable (pod_of plan) e) (first_left plan.left e) refl refl h,
        ap (λ b. b || list_any (λ e. can_take (pod_of plan) plan.left e) es) h,
      )
      by_can false h rest = by_rest h rest

  pub boundary-or : (plan : Plan B) → Serves events plan
  boundary-or plan = serves-or events plan

  pub boundary-grows : (plan : Plan B) → IsFirstPart plan (boundary planned plan)
  boundary-grows plan = serves-grow events plan

  -- ---- a call, and a round

  pub call-grows : (plan : Plan B) → IsFirstPart plan (one_call planned plan)
  call-grows plan = record {
    rest = record { take = None; effects = (move planned.setting.next planned.setting.bodies plan.session.live).effects } ∷ [];
    steps = refl;
    later = [];
    takes = sym (append-nil plan.takes);
    calls_up = omega arith;
  }

  advanced-grows : (plan : Plan B) → IsFirstPart plan (after_advance planned plan)
  advanced-grows plan = by_choice (has_choice plan)
    where
      by_choice : (b : Bool) → IsFirstPart plan (elim b as (λ _. Plan B) [ true ↦ one_call planned (boundary planned plan) | false ↦ boundary planned plan ])
      by_choice true = first-then plan (boundary planned plan) (one_call planned (boundary planned plan)) (boundary-grows plan)
          (call-grows (boundary planned plan))
      by_choice false = boundary-grows plan

  -- how much may still be done
  abbrev pub to_do : Plan B → ℕ
  to_do plan = (planned.turns - plan.calls) + left_in_all plan.left

  falls-choice : (plan : Plan B) (b : Bool) → (b ≡ true → plan.calls + 1 ≤ planned.turns) → (b ≡ false → is_wanted (pod_of plan) plan.left ≡ true)
      → to_do (elim b as (λ _. Plan B) [ true ↦ one_call planned (boundary planned plan) | false ↦ boundary planned plan ]) + 1 ≤ to_do plan
  falls-choice plan true room wanted =
      let s = serves-same events plan in
      let r = room refl in
      omega (arith, s.all, s.calls, s.more, r)
  falls-choice plan false room wanted = by_takes (boundary-or plan)
    where
      by_takes : Serves events plan → to_do (boundary planned plan) + 1 ≤ to_do plan
      by_takes (inl w) = let is = wanted refl in let no : true ≡ false = sym is ∙ w.1 in absurd (cc)
      by_takes (inr w) = let s = serves-same events plan in omega (arith, s.all, s.calls, w.0)

  -- what a session that isn't over has still to do
  goes_on : (plan : Plan B) (ended : Bool) (o : Option ℕ) (wanted : Bool)
      → cond ended (Some (halts.Ended (pod_of plan).state.status)) (halt_if planned.turns plan.calls wanted o) ≡ None
      → (is_some o ≡ true → plan.calls + 1 ≤ planned.turns) × (is_some o ≡ false → wanted ≡ true)
  goes_on plan true o wanted h = absurd (cc)
  goes_on plan false None true h = (λ no. absurd (cc), λ _. refl)
  goes_on plan false None false h = absurd (cc)
  goes_on plan false (Some t) wanted h = (λ _. by_count (nat_le planned.turns plan.calls) refl h, λ no. absurd (cc))
    where
      by_count : (b : Bool) → nat_le planned.turns plan.calls ≡ b → cond b (Some halts.Spent) None ≡ None → plan.calls + 1 ≤ planned.turns
      by_count true is h = absurd (cc)
      by_count false is h = grind (arith, nat_tests)

  pub falls : (plan : Plan B) → plan_over planned plan ≡ None → to_do (after_advance planned plan) + 1 ≤ to_do plan
  falls plan h =
      let g = goes_on plan (pod_of plan).state.ended (choice (pod_of plan).state) (is_wanted (pod_of plan) plan.left) h in
      falls-choice plan (has_choice plan) g.0 g.1

  -- ---- to the end

  abbrev end_by : ℕ → Plan B → Option Halt → Plan B
  end_by n plan o = elim o as (λ _. Plan B) [ None ↦ to_the_end planned n (after_advance planned plan) | Some halt ↦ plan ]

  end-suc : (n : ℕ) (plan : Plan B) → to_the_end planned (suc n) plan ≡ end_by n plan (plan_over planned plan)
  unfolding to_the_end
  end-suc n plan = refl

  end-zero : (plan : Plan B) → to_the_end planned 0 plan ≡ plan
  unfolding to_the_end
  end-zero plan = refl

  -- once it is over, there are no more rounds
  end-over : (n : ℕ) (plan : Plan B) (halt : Halt) → plan_over planned plan ≡ Some halt → to_the_end planned n plan ≡ plan
  end-over zero plan halt h = end-zero plan
  end-over (suc n) plan halt h = end-suc n plan ∙ ap (end_by n plan) h

  abbrev OverOr : Plan B → Type 0
  OverOr plan = ((halt : Halt) × (plan_over planned plan ≡ Some halt)) ⊎ (plan_over planned plan ≡ None)

  over-or : (plan : Plan B) → OverOr plan
  over-or plan = by_over (plan_over planned plan) refl
    where
      by_over : (o : Option Halt) → plan_over planned plan ≡ o → OverOr plan
      by_over (Some halt) is = inl (halt, is)
      by_over None is = inr is

  abbrev Enough : ℕ → ℕ → Plan B → Type 0
  Enough n m plan = to_do plan ≤ n → to_do plan ≤ m → to_the_end planned n plan ≡ to_the_end planned m plan

  enough-over : (n m : ℕ) (plan : Plan B) (halt : Halt) → plan_over planned plan ≡ Some halt → Enough n m plan
  enough-over n m plan halt is a b = end-over n plan halt is ∙ sym (end-over m plan halt is)

  enough-zero : (m : ℕ) (plan : Plan B) → OverOr plan → Enough 0 m plan
  enough-zero m plan (inl w) a b = enough-over 0 m plan w.0 w.1 a b
  enough-zero m plan (inr is) a b = let f = falls plan is in absurd (omega (arith, f, a))

  enough-nothing : (n : ℕ) (plan : Plan B) → OverOr plan → Enough n 0 plan
  enough-nothing n plan (inl w) a b = enough-over n 0 plan w.0 w.1 a b
  enough-nothing n plan (inr is) a b = let f = falls plan is in absurd (omega (arith, f, b))

  enough-suc : (n m : ℕ) (plan : Plan B) → OverOr plan → Enough n m (after_advance planned plan) → Enough (suc n) (suc m) plan
  enough-suc n m plan (inl w) rest a b = enough-over (suc n) (suc m) plan w.0 w.1 a b
  enough-suc n m plan (inr is) rest a b =
      let f = falls plan is in
      end-suc n plan ∙ ap (end_by n plan) is ∙ rest (omega (arith, f, a)) (omega (arith, f, b)) ∙ sym (end-suc m plan ∙ ap (end_by m plan) is)

  -- as many rounds as there are things to do suffice
  enough : (n m : ℕ) (plan : Plan B) → Enough n m plan
  enough zero m plan = enough-zero m plan (over-or plan)
  enough (suc n) zero plan = enough-nothing (suc n) plan (over-or plan)
  enough (suc n) (suc m) plan = enough-suc n m plan (over-or plan) (enough n m (after_advance planned plan))

  abbrev round_by : Plan B → Option Halt → Plan B
  round_by plan o = elim o as (λ _. Plan B) [ None ↦ after_advance planned plan | Some halt ↦ plan ]

  -- a round leaves the end as it is
  pub finished-round : (plan : Plan B) → after_finish planned (round planned plan) ≡ after_finish planned plan
  finished-round plan = by_over (plan_over planned plan) refl
    where
      by_over : (o : Option Halt) → plan_over planned plan ≡ o → after_finish planned (round_by plan o) ≡ after_finish planned plan
      by_over (Some halt) is = refl
      by_over None is =
          let f = falls plan is in
          let n = planned.turns + left_in_all plan.left in
          enough (planned.turns + left_in_all (after_advance planned plan).left) n (after_advance planned plan) (omega arith) (omega (arith, f))
          ∙ sym (ap (end_by n plan) is)
          ∙ sym (end-suc n plan)
          ∙ enough (suc n) n plan (omega arith) (omega arith)

  pub finished-over : (plan : Plan B) (halt : Halt) → plan_over planned plan ≡ Some halt → after_finish planned plan ≡ plan
  finished-over plan halt h = end-over (planned.turns + left_in_all plan.left) plan halt h

  end-grows : (n : ℕ) (plan : Plan B) → IsFirstPart plan (to_the_end planned n plan)
  end-grows zero plan = subst (λ p. IsFirstPart plan p) (sym (end-zero plan)) (first-same plan)
  end-grows (suc n) plan = subst (λ p. IsFirstPart plan p) (sym (end-suc n plan)) (by_over (plan_over planned plan) (λ p. end-grows n p))
    where
      by_over : (o : Option Halt) → ((p : Plan B) → IsFirstPart p (to_the_end planned n p)) → IsFirstPart plan (end_by n plan o)
      by_over (Some halt) rest = first-same plan
      by_over None rest = first-then plan (after_advance planned plan) (to_the_end planned n (after_advance planned plan))
          (advanced-grows plan) (rest (after_advance planned plan))

  pub finished-grows : (plan : Plan B) → IsFirstPart plan (after_finish planned plan)
  finished-grows plan = end-grows (planned.turns + left_in_all plan.left) plan
