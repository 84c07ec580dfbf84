-- What is found first, and what is not found.
use Rattle.event_gate.proofs.Lines.{same_or}
use Rattle.pod_events.specs.Events.{EventState}
use Rattle.lwp_types.specs.declared.call.Line.{Line}
use Rattle.pod_runner.specs.Over.{events}
use Rattle.replay.proofs.LineLaws.{agree-equal, agree-shorter, common-none, common-some, count-append}
use Rattle.replay.proofs.StepLines.{take-tells, tells-same}
use Rattle.replay.specs.Next.{IsTold, NoneTold, event_in, lowest_in, take_at}
use Rattle.replay.specs.Recorded.{Agree, IsCommon, line_count}
use Rattle.replay.specs.Verdict.{first_result, or_else, take_text, tells_take}
use Rattle.replay.specs.Walk.{ClientsLeft}
use Rattle.trace_text.specs.Lines.{ended_line}
use Rattle.std.specs.List.{range_with_len}
use Rattle.std.specs.Prelude.{Option, nat_eq, not}
use Rattle.std.proofs.Common.{Bool, List, None, Some, [], ap, append-nil, arith, drop, false, length, refl, subst, suc, sym}
use Rattle.std.proofs.Common.{take, take-append-drop, true, zero, ℕ, ⊎_elim, ◌++◌, ◌+◌, ◌<◌, ◌∙◌, ◌∷◌, ◌≡◌, ◌≢◌, ◌≤◌}
use Rattle.std.proofs.lemmas.Bool.{eqb-true}

pub given-none : (f : ℕ → Option (List ℕ)) (a n : ℕ) → ((k : ℕ) → a ≤ k → k < a + n → f k ≡ None) → first_result f (range_with_len a n) ≡ None
given-none f a zero none = refl
given-none f a (suc n) none = ap (λ o. or_else o (first_result f (range_with_len (a + 1) n))) (none a (omega arith) (omega arith))
    ∙ given-none f (a + 1) n (λ k from under. none k (omega (arith, from)) (omega (arith, under)))

pub given-some : (f : ℕ → Option (List ℕ)) (a n k : ℕ) (x : List ℕ) → a ≤ k → k < a + n → ((j : ℕ) → a ≤ j → j < k → f j ≡ None)
    → f k ≡ Some x → first_result f (range_with_len a n) ≡ Some x
given-some f a zero k x from under none is = absurd (omega (arith, from, under))
given-some f a (suc n) k x from under none is = ⊎_elim
    (λ (same : a ≡ k). ap (λ o. or_else o (first_result f (range_with_len (a + 1) n))) (ap f same ∙ is))
    (λ (other : a ≢ k).
    ap (λ o. or_else o (first_result f (range_with_len (a + 1) n))) (none a (omega arith) (omega (arith, from, other)))
    ∙ given-some f (a + 1) n k x (omega (arith, from, other)) (omega (arith, under)) (λ j low high. none j (omega (arith, low)) high) is)
    (same_or a k)

-- ---- over clients and events, as far as they were gone over

pub in-clients-none : (f : ℕ → Option (List ℕ)) (i n : ℕ) → n ≤ i → ((k : ℕ) → k < i → f k ≡ None) → first_result f (range_with_len 0 n) ≡ None
in-clients-none f i n all none = given-none f 0 n (λ k low under. none k (omega (arith, under, all)))

pub in-clients-some : (f : ℕ → Option (List ℕ)) (i n : ℕ) (x : List ℕ) → i < n → ((k : ℕ) → k < i → f k ≡ None) → f i ≡ Some x
    → first_result f (range_with_len 0 n) ≡ Some x
in-clients-some f i n x under none is = given-some f 0 n i x (omega arith) (omega (arith, under)) (λ j low high. none j high) is

pub on-none : (f : ℕ → Option (List ℕ)) (i : ℕ) → ((k : ℕ) → k < i → f k ≡ None) → f i ≡ None → (k : ℕ) → k < i + 1 → f k ≡ None
on-none f i none here k under = ⊎_elim (λ (same : i ≡ k). ap f (sym same) ∙ here) (λ (other : i ≢ k). none k (omega (arith, under, other))) (same_or i k)

pub in-events-none : (lines : ClientsLeft) (pod : EventState) (i : ℕ) → 32 ≤ i → ((k : ℕ) → k < i → take_at lines pod k ≡ None) → lowest_in lines pod ≡ None
unfolding events
in-events-none lines pod i all none = in-clients-none (take_at lines pod) i 32 all none

pub in-events-some : (lines : ClientsLeft) (pod : EventState) (i : ℕ) (x : List ℕ) → i < 32 → ((k : ℕ) → k < i → take_at lines pod k ≡ None)
    → take_at lines pod i ≡ Some x → lowest_in lines pod ≡ Some x
unfolding events
in-events-some lines pod i x under none is = in-clients-some (take_at lines pod) i 32 x under none is

pub told-on : (lines : ClientsLeft) (pod : EventState) (rest : List ℕ) (i : ℕ) → NoneTold lines pod rest i
    → ((line : Line) → IsTold lines pod rest i line → ⊥) → NoneTold lines pod rest (i + 1)
told-on lines pod rest i none here c line under told = ⊎_elim
    (λ (same : i ≡ c). here line (subst (λ k. IsTold lines pod rest k line) (sym same) told))
    (λ (other : i ≢ c). none c line (omega (arith, under, other)) told)
    (same_or i c)

-- ---- whether a line is told

pub tells-of : (wanted other exact : List ℕ) (bytes lines : ℕ) → IsCommon wanted other bytes lines → wanted ≡ exact
    → (not (nat_eq lines 0) ≡ true → Agree 1 other exact) × (Agree 1 other exact → not (nat_eq lines 0) ≡ true)
tells-of wanted other exact bytes lines h is = (
  λ told. subst (λ l. Agree 1 other l) is (common-some wanted other bytes lines h (some lines told)),
  λ agree. by_none (nat_eq lines 0) refl agree,
)
  where
    some : (n : ℕ) → not (nat_eq n 0) ≡ true → 1 ≤ n
    some zero e = absurd (cc)
    some (suc n) e = omega arith

    by_none : (b : Bool) → nat_eq lines 0 ≡ b → Agree 1 other exact → not b ≡ true
    by_none true e agree = absurd (common-none wanted other bytes lines h (eqb-true lines 0 e) (subst (λ l. Agree 1 other l) (sym is) agree))
    by_none false e agree = refl

-- it is told where all of it was recorded
pub tells-front : (wanted other text : List ℕ) → wanted ≡ ended_line text → take (length wanted) other ≡ wanted → Agree 1 other (ended_line text)
tells-front wanted other text is same =
    let more = drop (length wanted) other in
    let whole : other ≡ wanted ++ more = sym (take-append-drop (length wanted) other) ∙ ap (λ l. l ++ more) same in
    let some : 1 ≤ line_count wanted = omega (arith, ap line_count is, count-append text (10 ∷ [])) in
    subst (λ l. Agree 1 other l) is (agree-shorter 1 other wanted more some
    (agree-equal 1 other (wanted ++ more) whole (omega (arith, some, ap line_count whole, count-append wanted more))))

-- where the recorded lines tell of no take, they tell of none of these
pub none-told : (lines : ClientsLeft) (pod : EventState) (rest : List ℕ) (n : ℕ) → tells_take rest ≡ false → NoneTold lines pod rest n
none-told lines pod rest n off c line under told =
    let e = event_in lines c in
    let text = ended_line (take_text pod.state.now e line) in
    let on : tells_take rest ≡ true = tells-same rest text told.agree ∙ ap tells_take (sym (append-nil text)) ∙ take-tells pod.state.now e line [] in
    absurd (let bad : true ≡ false = sym on ∙ off in cc)
