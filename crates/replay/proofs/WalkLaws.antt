-- What each step of a walk comes to.
use Rattle.event_gate.specs.Shelves.{event_of, full_shelves}
use Rattle.lwp_types.specs.Choice.{choice}
use Rattle.lwp_types.specs.State.{State}
use Rattle.lwp_types.specs.declared.call.Line.{Line}
use Rattle.pod_runner.proofs.Turns.{is_call_due-turn, room-turn}
use Rattle.pod_events.specs.Events.{is_takeable}
use Rattle.pod_runner.specs.Over.{halt_if, is_wanted}
use Rattle.pod_runner.specs.Phase.{phase_by, phase_of}
use Rattle.pod_runner.specs.Run.{Writes}
use Rattle.pod_runner.specs.declared.session.Took.{Took}
use Rattle.replay.proofs.Exits.{in-step, missing}
use Rattle.replay.proofs.Extends.{without_first}
use Rattle.replay.proofs.FollowLaws.{Kept, kept}
use Rattle.replay.proofs.Forcing.{call-one, forced-call, next-client, take-one, take-told, told_line}
use Rattle.replay.proofs.LineLaws.{agree-longer, closes-rest, common-none, common-some, cut, none-whole}
use Rattle.replay.proofs.Moves.{told-moved}
use Rattle.replay.proofs.StepLines.{closes-step}
use Rattle.replay.proofs.Steps.{forced-by, going-call, going-take, left-next, reached-call, reached-take}
use Rattle.replay.specs.Asked.{Asked, IsReached, Reach}
use Rattle.replay.specs.Following.{Following, bytes_told}
use Rattle.replay.specs.Next.{IsTold, NoneTold, event_in, lowest_in, take_at, take_in, without_next}
use Rattle.replay.specs.Recorded.{Agree, IsCommon, closes, is_ended, is_newline, line_count, next_line}
use Rattle.replay.specs.Replayed.{Says}
use Rattle.replay.specs.Says.{ComparedBy, DiffersBy, IsDifference}
use Rattle.replay.specs.Verdict.{IsOther, call_lines, first_result, lowest_take, next_lines, take_by, take_of, tells_take}
use Rattle.replay.specs.Walk.{AreLeft, ClientsLeft, Due, Forced, Going, IsFit, IsNext, Moment, Move, Speaks, after_move}
use Rattle.replay.specs.Walk.{moment, move_effects, move_lines, session_of, ticks_after, lines_until}
use Rattle.replay.specs.declared.stepping.Difference.{Difference}
use Rattle.replay.specs.declared.verdict.Verdict.{Verdict}
use Rattle.std.specs.List.{range_with_len}
use Rattle.std.specs.Prelude.{Option, if◌then◌else◌, is_some, nat_le, nat_lt, option_map, unwrap_or}
use Rattle.std.proofs.Common.{Bool, List, None, Some, [], ap, arith, cond, drop, false, inl, inr, length, length-drop, length-take, refl, slice_get}
use Rattle.std.proofs.Common.{subst, suc, sym, take, take-append-drop, true, zero, ℕ, ◌++◌, ◌+◌, ◌<◌, ◌∙◌, ◌∷◌, ◌≡◌, ◌≤◌, ◌⊎◌}
use Rattle.std.proofs.lemmas.Bool.{cases_lt}
use Rattle.std.proofs.lemmas.Bool.Decides.{nat_tests}
use Rattle.pod_runner.specs.declared.phase.Phase.TheVariants as phase
use Rattle.replay.specs.declared.verdict.Verdict.TheVariants as verdict
use Rattle.trace_text.specs.declared.ends.Halt.TheVariants as halt

-- a verdict that says what is so
pub says-other : {B : Type 0} (asked : Asked B) (bytes : List ℕ) (v : Verdict) (line : ℕ) (want got : Option (List ℕ)) (ended : Bool)
    (takes : List Took) (calls : ℕ)
    → DiffersBy v line want got ended → IsOther asked bytes line want got ended takes calls → Says asked bytes v takes calls
says-other asked bytes (verdict.Same l) line want got ended takes calls by is = absurd by
says-other asked bytes (verdict.Differs l w g e) line want got ended takes calls by is =
    subst (λ n. IsOther asked bytes n (option_map (λ v. v.items) w) (option_map (λ v. v.items) g) e takes calls) (sym by.0)
    (subst (λ o. IsOther asked bytes line o (option_map (λ v. v.items) g) e takes calls) (sym by.1)
    (subst (λ o. IsOther asked bytes line want o e takes calls) (sym by.2)
    (subst (λ b. IsOther asked bytes line want got b takes calls) (sym by.3) is)))

-- ---- the lowest take, by what is left of each client

module _ {B : Type 0} (asked : Asked B) (p : Moment) (lines : ClientsLeft) (left : List Line) (same : lines.clients ≡ asked.clients)
    (keeps : AreLeft lines left) where
  abbrev here_at : Reach
  here_at = record { takes = p.takes; calls = p.calls; left = left }

  abbrev now : ℕ
  now = (session_of asked.setting p).live.pod.state.now

  given-same : (f g : ℕ → Option (List ℕ)) (a n : ℕ) → ((k : ℕ) → k < a + n → f k ≡ g k)
      → first_result f (range_with_len a n) ≡ first_result g (range_with_len a n)
  given-same f g a zero alike = refl
  given-same f g a (suc n) alike = rw (alike a (omega arith), given-same f g (a + 1) n (λ k low. alike k (omega (arith, low)))) refl

  take-same : (e c : ℕ) → c < length lines.clients → take_in lines now e c ≡ take_by asked now left e c
  take-same e c low = rw (same, keeps.each c low) refl

  event-same : (e : ℕ) → take_at lines (session_of asked.setting p).live.pod e ≡ take_of asked here_at e
  event-same e = ap (λ o. if is_takeable (session_of asked.setting p).live.pod e then o else None)
      (given-same (take_in lines now e) (take_by asked now left e) 0 (length lines.clients) (λ k low. take-same e k (omega (arith, low)))
      ∙ ap (λ cs. first_result (take_by asked now left e) (range_with_len 0 (length cs))) same)

  events-same : (es : List ℕ) → first_result (take_at lines (session_of asked.setting p).live.pod) es ≡ first_result (take_of asked here_at) es
  events-same [] = refl
  events-same (e ∷ es) = rw (event-same e, events-same es) refl

  pub lowest-same : lowest_in lines (session_of asked.setting p).live.pod ≡ lowest_take asked here_at
  lowest-same = events-same _

-- ---- a step

-- in phase Turn it isn't over
pub over-turn : (s : State) (turns calls : ℕ) (w : Bool) → phase_of s turns calls ≡ phase.Turn
    → (if s.ended then Some (halt.Ended s.status) else halt_if turns calls w (choice s)) ≡ None
over-turn s turns calls w h = by_end s.ended (choice s) h
  where
    by_count : (a b : Bool) → nat_lt calls turns ≡ a → nat_le turns calls ≡ b → cond a phase.Turn phase.Spent ≡ phase.Turn
        → cond b (Some halt.Spent) None ≡ None
    by_count a true one two h = by_less a one h
      where
        by_less : (a : Bool) → nat_lt calls turns ≡ a → cond a phase.Turn phase.Spent ≡ phase.Turn → cond true (Some halt.Spent) None ≡ None
        by_less true one h = absurd (grind (arith, nat_tests))
        by_less false one h = absurd (cc)
    by_count a false one two h = refl

    by_end : (b : Bool) (o : Option ℕ) → cond b (phase.Ended s.status) (phase_by turns calls o) ≡ phase.Turn
        → (if b then Some (halt.Ended s.status) else halt_if turns calls w o) ≡ None
    by_end true o h = absurd (cc)
    by_end false None h = absurd (cc)
    by_end false (Some t) h = by_count (nat_lt calls turns) (nat_le turns calls) refl refl h

pub chosen-turn : (s : State) (turns calls : ℕ) → phase_of s turns calls ≡ phase.Turn → is_some (choice s) ≡ true
chosen-turn s turns calls h = by_end s.ended (choice s) h
  where
    by_end : (b : Bool) (o : Option ℕ) → cond b (phase.Ended s.status) (phase_by turns calls o) ≡ phase.Turn → is_some o ≡ true
    by_end true o h = absurd (cc)
    by_end false None h = absurd (cc)
    by_end false (Some t) h = refl

module _ {B : Type 0} (asked : Asked B) (fit : IsFit asked) (speaks : Speaks asked) (p : Moment) (lines : ClientsLeft) (f0 f1 : Following)
    (here : Going asked f0.recorded p lines f0.at f0.lines f0.ticks) (clean : f0.step ≡ []) where
  abbrev rest : List ℕ
  rest = drop f0.at f0.recorded

  abbrev lines_of : Move → List ℕ
  lines_of m = move_lines asked.setting asked.procs p m

  abbrev Wrote : Move → Type 0
  Wrote m = Writes (Some (bytes_told f0)) (Some (bytes_told f1)) (lines_until asked.setting asked.procs p)
      (lines_until asked.setting asked.procs (after_move p m))

  keeps : (m : Move) → Wrote m → Kept f0 f1 (lines_until asked.setting asked.procs (after_move p m))
  keeps m wrote = kept f0 f1 (lines_until asked.setting asked.procs p) (lines_until asked.setting asked.procs (after_move p m)) clean here.said wrote

  step-is : (m : Move) → Wrote m → f1.step ≡ lines_of m
  step-is m wrote = cut (lines_until asked.setting asked.procs p) f1.step (lines_of m)
      (ap (λ l. l ++ f1.step) (sym here.said) ∙ (keeps m wrote).told ∙ told-moved asked.setting asked.procs p m here.stands.made)

  front-is : (m : Move) → Wrote m → take (length f1.step) (drop f1.at f1.recorded) ≡ f1.step → take (length f1.step) rest ≡ f1.step
  front-is m wrote is = ap (λ n. take (length f1.step) (drop n f0.recorded)) (sym (keeps m wrote).at)
      ∙ ap (λ r. take (length f1.step) (drop f1.at r)) (sym (keeps m wrote).recorded) ∙ is

  -- the place and the count after a step that was told
  moved-to : (m : Move) → Wrote m → (f2 : Following) → (q : Moment) (cs : ClientsLeft) (ticks : ℕ)
      → f2 ≡ record f1 { at = f1.at + length f1.step; lines = f1.lines + line_count f1.step; step = [] }
      → Going asked f0.recorded q cs (f0.at + length f1.step) (f0.lines + line_count f1.step) ticks → Going asked f0.recorded q cs f2.at f2.lines ticks
  moved-to m wrote f2 q cs ticks is going =
      subst (λ n. Going asked f0.recorded q cs n f2.lines ticks) (ap (λ n. n + length f1.step) (sym (keeps m wrote).at) ∙ sym (ap (λ (f : Following). f.at) is))
      (subst (λ n. Going asked f0.recorded q cs (f0.at + length f1.step) n ticks)
      (ap (λ n. n + line_count f1.step) (sym (keeps m wrote).lines) ∙ sym (ap (λ (f : Following). f.lines) is)) going)

  -- the clock after it, which is counted later
  ticks-kept : (m : Move) → Wrote m → (f2 : Following)
      → f2 ≡ record f1 { at = f1.at + length f1.step; lines = f1.lines + line_count f1.step; step = [] } → f0.ticks ≡ f2.ticks
  ticks-kept m wrote f2 is = sym (ap (λ (f : Following). f.ticks) is ∙ (keeps m wrote).ticks)

  pub walk-take : (c : ℕ) (x : Line) → IsTold lines (session_of asked.setting p).live.pod rest c x → Wrote (Some (event_in lines c, x))
      → (f2 : Following) → ComparedBy f1 f2 None
      → Going asked f0.recorded (after_move p (Some (event_in lines c, x))) (without_next lines c) f2.at f2.lines (ticks_after (event_in lines c) f2.ticks)
  walk-take c x is wrote f2 by =
      let m = Some (event_in lines c, x) in
      subst (λ n. Going asked f0.recorded (after_move p m) (without_next lines c) f2.at f2.lines (ticks_after (event_in lines c) n))
      (ticks-kept m wrote f2 by.1)
      (moved-to m wrote f2 (after_move p m) (without_next lines c) (ticks_after (event_in lines c) f0.ticks) by.1
      (going-take asked f0.recorded fit speaks p lines f0.at f0.lines f0.ticks here c x f1.step is.within is.next is.waits is.agree
      (step-is m wrote) (front-is m wrote by.0)))

  pub walk-call : phase_of (session_of asked.setting p).live.pod.state asked.turns p.calls ≡ phase.Turn → Wrote None → (f2 : Following) → ComparedBy f1 f2 None
      → Going asked f0.recorded (after_move p None) lines f2.at f2.lines f2.ticks
  walk-call turn wrote f2 by =
      subst (λ n. Going asked f0.recorded (after_move p None) lines f2.at f2.lines n) (ticks-kept None wrote f2 by.1)
      (moved-to None wrote f2 (after_move p None) lines f0.ticks by.1
      (going-call asked f0.recorded fit speaks p lines f0.at f0.lines f0.ticks here f1.step
      (is_call_due-turn (session_of asked.setting p) asked.turns p.calls turn)
      (room-turn (session_of asked.setting p).live.pod.state asked.turns p.calls turn)
      (step-is None wrote) (front-is None wrote by.0)))

  length-lines : (l : List ℕ) → line_count l ≤ length l
  length-lines [] = omega arith
  length-lines (b ∷ l) = by_test (is_newline b) (length-lines l)
    where
      by_test : (t : Bool) → line_count l ≤ length l → cond t (suc (line_count l)) (line_count l) ≤ suc (length l)
      by_test true le = omega (arith, le)
      by_test false le = omega (arith, le)

  pub walk-keeps : (m : Move) → Wrote m → (f2 : Following) → ComparedBy f1 f2 None → 1 ≤ line_count (lines_of m)
      → (f2.recorded ≡ f0.recorded) × (f2.step ≡ []) × (f0.at < f2.at) × (f2.at ≤ length f2.recorded)
  walk-keeps m wrote f2 by some = (
    ap (λ (f : Following). f.recorded) by.1 ∙ (keeps m wrote).recorded,
    ap (λ (f : Following). f.step) by.1,
    omega (arith, ap (λ (f : Following). f.at) by.1, (keeps m wrote).at, some, length-lines (lines_of m), ap length (step-is m wrote)),
    omega (
      arith,
      ap (λ (f : Following). f.at) by.1,
      ap (λ (f : Following). length f.recorded) by.1,
      some,
      length-lines (lines_of m),
      ap length (step-is m wrote),
      ap length by.0,
      length-take (length f1.step) (drop f1.at f1.recorded),
      length-drop f1.at f1.recorded,
    ),
  )

  pub call-told-one : phase_of (session_of asked.setting p).live.pod.state asked.turns p.calls ≡ phase.Turn → 1 ≤ line_count (lines_of None)
  call-told-one turn = call-one asked f0.recorded speaks p here.stands.made (is_call_due-turn (session_of asked.setting p) asked.turns p.calls turn)

  pub take-told-one : (c : ℕ) (x : Line) → IsTold lines (session_of asked.setting p).live.pod rest c x → 1 ≤ line_count (lines_of (Some (event_in lines c, x)))
  take-told-one c x is = take-one asked f0.recorded p (event_in lines c, x) here.stands.made is.waits

  -- ---- a step of which a line differs

  abbrev at_here : Reach
  at_here = record { takes = p.takes; calls = p.calls; left = here.left }

  module _ (m : Move) (wrote : Wrote m) (d : Difference) (by : IsDifference f1.step (drop f1.at f1.recorded) f1.lines d) where
    rest-is : drop f1.at f1.recorded ≡ rest
    rest-is = ap (λ n. drop n f1.recorded) (keeps m wrote).at ∙ ap (drop f0.at) (keeps m wrote).recorded

    common : IsCommon (lines_of m) rest by.bytes d.lines
    common = subst (λ s. IsCommon s rest by.bytes d.lines) (step-is m wrote) (subst (λ r. IsCommon f1.step r by.bytes d.lines) rest-is by.common)

    tells : DiffersBy d.verdict (f0.lines + d.lines + 1) (next_line (drop by.bytes (lines_of m))) (next_line (drop by.bytes rest))
        (is_ended (drop by.bytes rest))
    tells =
        subst
        (λ n.
        DiffersBy d.verdict (n + d.lines + 1) (next_line (drop by.bytes (lines_of m))) (next_line (drop by.bytes rest)) (is_ended (drop by.bytes rest)))
        (keeps m wrote).lines
        (subst
        (λ s. DiffersBy d.verdict (f1.lines + d.lines + 1) (next_line (drop by.bytes s)) (next_line (drop by.bytes rest)) (is_ended (drop by.bytes rest)))
        (step-is m wrote)
        (subst
        (λ r. DiffersBy d.verdict (f1.lines + d.lines + 1) (next_line (drop by.bytes f1.step)) (next_line (drop by.bytes r)) (is_ended (drop by.bytes r)))
        rest-is by.differs))

    step-closes : closes true (lines_of m) ≡ true
    step-closes = closes-step asked.procs (option_map (λ (t : ℕ × Line). t.1) m) (move_effects asked.setting asked.procs p m)

    more-lines : 1 ≤ line_count (drop by.bytes (lines_of m))
    more-lines = by_count (cases_lt 0 (line_count (drop by.bytes (lines_of m))))
      where
        by_count : (0 < line_count (drop by.bytes (lines_of m))) ⊎ (line_count (drop by.bytes (lines_of m)) ≤ 0) → 1 ≤ line_count (drop by.bytes (lines_of m))
        by_count (inl some) = omega (arith, some)
        by_count (inr none) =
            let whole : closes true (drop by.bytes (lines_of m))
            ≡ true = closes-rest (take by.bytes (lines_of m)) (drop by.bytes (lines_of m)) common.closed
            (ap (closes true) (take-append-drop by.bytes (lines_of m)) ∙ step-closes) in
            let empty = ap length (none-whole (drop by.bytes (lines_of m)) whole (omega (arith, none))) in
            absurd (omega (arith, empty, length-drop by.bytes (lines_of m), by.more, ap length (step-is m wrote)))

    pub differs-in : Due asked.setting p m → Forced asked f0.recorded (f0.lines + 1) (after_move p m) → (next : Reach)
        → IsReached asked next → moment asked next ≡ after_move p m → 1 ≤ d.lines → Says asked f0.recorded d.verdict next.takes next.calls
    differs-in due forced next reached stands some =
        let k = line_count (take by.bytes (lines_of m)) in
        says-other asked f0.recorded d.verdict (f0.lines + k + 1) (next_line (drop by.bytes (lines_of m))) (next_line (drop by.bytes rest))
        (is_ended (drop by.bytes rest)) next.takes next.calls
        (subst
        (λ j.
        DiffersBy d.verdict (f0.lines + j + 1) (next_line (drop by.bytes (lines_of m))) (next_line (drop by.bytes rest)) (is_ended (drop by.bytes rest)))
        common.count tells)
        (in-step asked f0.recorded fit speaks f0.lines p rest here.stands at_here here.reached refl m due forced next reached stands
        (take by.bytes (lines_of m)) (drop by.bytes (lines_of m)) (drop by.bytes rest)
        (sym (take-append-drop by.bytes (lines_of m))) (sym (take-append-drop by.bytes rest) ∙ ap (λ l. l ++ drop by.bytes rest) (sym common.same))
        common.closed (omega (arith, some, common.count)) more-lines common.differs)

  pub walk-take-differs : (c : ℕ) (x : Line) → IsTold lines (session_of asked.setting p).live.pod rest c x
      → (wrote : Wrote (Some (event_in lines c, x))) → (d : Difference) → IsDifference f1.step (drop f1.at f1.recorded) f1.lines d
      → Says asked f0.recorded d.verdict (after_move p (Some (event_in lines c, x))).takes (after_move p (Some (event_in lines c, x))).calls
  walk-take-differs c x is wrote d by =
      let m = Some (event_in lines c, x) in
      let w = take-told asked f0.recorded p (event_in lines c, x) here.stands.made is.waits in
      let same : Agree 1 rest (lines_of m) =
      subst (λ l. Agree 1 rest l) (sym w.1) (agree-longer 1 rest (told_line asked f0.recorded p (event_in lines c, x)) w.0 is.agree) in
      differs-in m wrote d by is.waits (forced-by asked f0.recorded fit speaks p lines f0.at f0.lines f0.ticks here c x is.within is.next is.agree)
      (record { takes = (after_move p m).takes; calls = p.calls; left = without_first c here.left })
      (reached-take asked f0.recorded fit speaks p lines f0.at f0.lines f0.ticks here c x is.within is.next is.waits) refl
      (by_lines d.lines refl same)
    where
      by_lines : (k : ℕ) → d.lines ≡ k → Agree 1 rest (lines_of (Some (event_in lines c, x))) → 1 ≤ k
      by_lines zero e agree = absurd
          (common-none (lines_of (Some (event_in lines c, x))) rest by.bytes d.lines (common (Some (event_in lines c, x)) wrote d by) e agree)
      by_lines (suc k) e agree = omega arith

  pub no-take : NoneTold lines (session_of asked.setting p).live.pod rest (length lines.clients) → (t : ℕ × Line)
      → Due asked.setting p (Some t) → IsNext asked p t → Agree 1 rest (told_line asked f0.recorded p t) → ⊥
  no-take none t due next agree =
      let c = t.1.client in
      let low : c < length lines.clients = omega (arith, next-client asked fit p t next, ap length here.same_clients) in
      let event : event_in lines c ≡ t.0 = ap (λ es. event_of es c) here.same_clients ∙ next.event in
      none c t.1 low (record {
        within = low;
        next = ap (λ l. slice_get l 0) (here.kept.each c low) ∙ left-next asked f0.recorded p here.left t here.reached next;
        waits = ap (is_takeable (session_of asked.setting p).live.pod) event ∙ due;
        agree = subst (λ e. Agree 1 rest (told_line asked f0.recorded p (e, t.1))) (sym event) agree;
      })

  pub walk-call-differs : phase_of (session_of asked.setting p).live.pod.state asked.turns p.calls ≡ phase.Turn → (wrote : Wrote None)
      → (d : Difference) → IsDifference f1.step (drop f1.at f1.recorded) f1.lines d → 1 ≤ d.lines
      → Says asked f0.recorded d.verdict p.takes (p.calls + 1)
  walk-call-differs turn wrote d by some =
      let due = is_call_due-turn (session_of asked.setting p) asked.turns p.calls turn in
      let room = room-turn (session_of asked.setting p).live.pod.state asked.turns p.calls turn in
      let agree : Agree 1 rest (lines_of None) = common-some (lines_of None) rest by.bytes d.lines (common None wrote d by) some in
      differs-in None wrote d by due
      (forced-call asked f0.recorded fit speaks f0.lines p rest here.stands due [] (agree-longer 1 rest (lines_of None) [] agree))
      (record { takes = p.takes; calls = p.calls + 1; left = here.left })
      (reached-call asked f0.recorded fit speaks p lines f0.at f0.lines f0.ticks here due room) refl some

  pub walk-call-other : phase_of (session_of asked.setting p).live.pod.state asked.turns p.calls ≡ phase.Turn
      → NoneTold lines (session_of asked.setting p).live.pod rest (length lines.clients)
      → (tells_take rest ≡ true → lowest_in lines (session_of asked.setting p).live.pod ≡ None) → (wrote : Wrote None) → (d : Difference)
      → IsDifference f1.step (drop f1.at f1.recorded) f1.lines d → d.lines ≡ 0
      → Says asked f0.recorded d.verdict p.takes p.calls
  walk-call-other turn none lowest wrote d by zero_lines =
      let shared = common None wrote d by in
      let front : take by.bytes (lines_of None) ≡ [] = none-whole (take by.bytes (lines_of None)) shared.closed (omega (arith, zero_lines, shared.count)) in
      let all : drop by.bytes (lines_of None)
      ≡ lines_of None = ap (λ l. l ++ drop by.bytes (lines_of None)) (sym front) ∙ take-append-drop by.bytes (lines_of None) in
      let all_rest : drop by.bytes rest ≡ rest = ap (λ l. l ++ drop by.bytes rest) (sym (sym shared.same ∙ front)) ∙ take-append-drop by.bytes rest in
      let want : next_line (drop by.bytes (lines_of None)) ≡ next_line (next_lines asked at_here rest) = ap next_line (all ∙ sym next-is) in
      says-other asked f0.recorded d.verdict (f0.lines + 1) (next_line (next_lines asked at_here rest)) (next_line rest) (is_ended rest) p.takes p.calls
      (subst (λ r. DiffersBy d.verdict (f0.lines + 1) (next_line (next_lines asked at_here rest)) (next_line r) (is_ended r)) all_rest
      (subst (λ o. DiffersBy d.verdict (f0.lines + 1) o (next_line (drop by.bytes rest)) (is_ended (drop by.bytes rest))) want
      (subst
      (λ n. DiffersBy d.verdict n (next_line (drop by.bytes (lines_of None))) (next_line (drop by.bytes rest)) (is_ended (drop by.bytes rest)))
      (omega (arith, zero_lines)) (tells None wrote d by))))
      (missing asked f0.recorded fit speaks f0.lines p rest here.stands at_here here.reached refl here.last
      (over-turn (session_of asked.setting p).live.pod.state asked.turns p.calls
      (is_wanted (session_of asked.setting p).live.pod (full_shelves asked.clients here.left)) turn)
      (λ due room agree. common-none (lines_of None) rest by.bytes d.lines shared zero_lines agree)
      (no-take none))
    where
      next-is : next_lines asked at_here rest ≡ lines_of None
      next-is = by_tells (tells_take rest) refl
        where
          chosen : is_some (choice (session_of asked.setting p).live.pod.state) ≡ true
          chosen = chosen-turn (session_of asked.setting p).live.pod.state asked.turns p.calls turn

          by_tells : (b : Bool) → tells_take rest ≡ b → next_lines asked at_here rest ≡ lines_of None
          by_tells true e = rw (chosen, e)
              (ap (λ o. unwrap_or o (call_lines asked at_here)) (sym (lowest-same asked p lines here.left here.same_clients here.kept) ∙ lowest e))
          by_tells false e = rw (chosen, e) refl
