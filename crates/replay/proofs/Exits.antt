-- What is known where a walk ends.
use Rattle.lwp_types.specs.declared.call.Line.{Line}
use Rattle.pod_runner.proofs.Plays.{LastBy-of, play-call, play-take}
use Rattle.pod_runner.specs.Run.{but_last}
use Rattle.pod_runner.specs.Session.{Made, Session}
use Rattle.pod_runner.specs.Trace.{lines}
use Rattle.replay.proofs.Extends.{ends}
use Rattle.replay.proofs.Forcing.{call-one, closes-told, none-in-end, none-in-step, none-more, stays-in-end, take-one, told_line}
use Rattle.replay.proofs.Left.{end-same, halt-same}
use Rattle.replay.proofs.LineLaws.{agree-equal, agree-fewer, agree-front, agree-none, behind-all, behind-whole}
use Rattle.replay.proofs.LineLaws.{closes-both, count-append, cut, first-append, none-whole, some-line}
use Rattle.replay.proofs.Moves.{IsAt-moved, lines_on, told-gone, told-moved}
use Rattle.replay.specs.Asked.{Asked, IsReached, Reach, end_by, halt_at, text_at, lines_at}
use Rattle.replay.specs.Recorded.{Agree, behind_lines, closes, first_lines, is_ended, line_count, next_line}
use Rattle.replay.specs.Verdict.{IsBegun, IsFollowed, IsMost, IsOther, next_lines, or_else, want_at, want_between}
use Rattle.replay.specs.Walk.{Due, DueAll, Forced, IsAt, IsFit, IsLast, IsNext, Moment, Move, Reaches, Speaks, Stands}
use Rattle.replay.specs.Walk.{after_move, after_moves, moment, move_lines, session_of, lines_until, took_at}
use Rattle.trace_text.specs.declared.ends.Halt.{Halt}
use Rattle.std.specs.Prelude.{Option}
use Rattle.std.proofs.Common.{List, None, Some, [], ap, append_assoc, append-nil, arith, inl, inr, length, length-append}
use Rattle.std.proofs.Common.{refl, subst, sym, take, true, ℕ, ◌++◌, ◌+◌, ◌<◌, ◌∙◌, ◌∷◌, ◌≡◌, ◌≤◌, ◌⊎◌}
use Rattle.std.proofs.lemmas.Bool.{cases_lt}

but-last-push : {A : Type 0} (xs : List A) (x : A) → but_last (xs ++ x ∷ []) ≡ xs
but-last-push xs x = ap (λ n. take n (xs ++ x ∷ [])) (omega (arith, length-append xs (x ∷ []))) ∙ take-length xs (x ∷ [])
  where
    take-length : {A : Type 0} (xs ys : List A) → take (length xs) (xs ++ ys) ≡ xs
    take-length [] ys = refl
    take-length (y ∷ xs) ys = ap (λ l. y ∷ l) (take-length xs ys)

-- one step more
steps-moved : {B : Type 0} (asked : Asked B) (p : Moment) (m : Move) → IsAt asked.setting p
    → (made : Made) × ((session_of asked.setting (after_move p m)).steps ≡ (session_of asked.setting p).steps ++ made ∷ [])
steps-moved {B} asked p None made =
    (_, ap (λ (s : Session B). s.steps) (play-call asked.setting p.takes p.calls (LastBy-of asked.setting p.takes p.calls made)))
steps-moved {B} asked p (Some t) made = (_, ap (λ (s : Session B). s.steps) (play-take asked.setting (took_at p t) p.takes p.calls refl))

-- its first line is among those told
pub last-moved : {B : Type 0} (asked : Asked B) (p : Moment) (m : Move) → IsAt asked.setting p → (n : ℕ)
    → line_count (lines_until asked.setting asked.procs p) < n → IsLast asked (after_move p m) n
last-moved asked p m made n low =
    let w = steps-moved asked p m made in
    inr (omega (
      arith,
      low,
      ap (λ l. line_count (lines asked.procs (but_last l))) w.1,
      ap (λ l. line_count (lines asked.procs l)) (but-last-push (session_of asked.setting p).steps w.0),
    ))

module _ {B : Type 0} (asked : Asked B) (bytes : List ℕ) (fit : IsFit asked) (speaks : Speaks asked) where
  abbrev end_of : Reach → List ℕ
  end_of at = end_by asked at (halt_at asked at)

  abbrev said : Moment → List ℕ
  said p = lines_until asked.setting asked.procs p

  -- no session goes on with one line more
  abbrev pub NoMore : ℕ → Type 0
  NoMore n = (at : Reach) → IsReached asked at → Agree (n + 1) bytes (text_at asked at) → ⊥

  -- nor are the bytes the whole of one that is over
  abbrev pub NoTrace : Type 0
  NoTrace = (at : Reach) → IsReached asked at → (h : Halt) → halt_at asked at ≡ Some h → bytes ≡ text_at asked at → ⊥

  most : (n : ℕ) → IsBegun asked bytes n → NoMore n → IsMost asked bytes n
  most n begun stops = record {
    begun = begun;
    most = λ m other. by m other (cases_lt n m);
  }
    where
      by : (m : ℕ) → IsBegun asked bytes m → (n < m) ⊎ (m ≤ n) → m ≤ n
      by m other (inr le) = le
      by m other (inl more) =
          let t = other.1.1 in
          absurd (stops other.1.0 t.reached
          (agree-fewer (n + 1) m bytes (text_at asked other.1.0) (omega (arith, more)) (subst (λ l. Agree m bytes l) t.whole other.2)))

  pub other : (n : ℕ) (to : Reach) (rest : List ℕ) (want : Option (List ℕ)) → IsFollowed asked bytes n to → IsBegun asked bytes n → NoMore n
      → NoTrace → behind_lines n bytes ≡ rest
      → want ≡ want_at asked to n rest → IsOther asked bytes (n + 1) want (next_line rest) (is_ended rest) to.takes to.calls
  other n to rest want followed begun stops trace behind wanted = record {
    none = λ t. trace t.0 t.1.reached t.1.halt t.1.over t.1.whole;
    n = n;
    at = refl;
    most = most n begun stops;
    left = to.left;
    followed = followed;
    wanted = wanted ∙ ap (want_at asked to n) (sym behind);
    found = ap next_line (sym behind);
    whole = ap is_ended (sym behind);
  }

  -- a session that goes through a moment, to its end
  begun-at : (n : ℕ) (to : Reach) (front more : List ℕ) → IsReached asked to → closes true front ≡ true → n ≡ line_count front
      → lines_at asked to ≡ front ++ more → (after : List ℕ) → bytes ≡ front ++ after → IsBegun asked bytes n
  begun-at n to front more is closed count split after start =
      let e = ends asked fit to is in
      let whole : text_at asked e.to ≡ front ++ (more ++ (lines_on asked.setting asked.procs (moment asked to) e.way.moves ++ end_of e.to)) =
      ap (λ q. said q ++ end_of e.to) (sym e.way.comes)
      ∙ ap (λ l. l ++ end_of e.to) (told-gone asked.setting asked.procs e.way.moves (moment asked to) is.due e.way.due)
      ∙ append_assoc (lines_at asked to) (lines_on asked.setting asked.procs (moment asked to) e.way.moves) (end_of e.to)
      ∙ ap (λ l. l ++ (lines_on asked.setting asked.procs (moment asked to) e.way.moves ++ end_of e.to)) split
      ∙ append_assoc front more (lines_on asked.setting asked.procs (moment asked to) e.way.moves ++ end_of e.to) in (
        text_at asked e.to,
        (e.to, record { reached = e.reached; halt = e.halt; over = e.over; whole = refl }),
        agree-start n front after _ (text_at asked e.to) closed count start whole,
      )
    where
      agree-start : (n : ℕ) (front after z text : List ℕ) → closes true front ≡ true → n ≡ line_count front → bytes ≡ front ++ after
          → text ≡ front ++ z → Agree n bytes text
      agree-start n front after z text closed count start whole =
          subst (λ b. Agree n b text) (sym start) (subst (λ t. Agree n (front ++ after) t) (sym whole)
          (subst (λ k. Agree k (front ++ after) (front ++ z)) (omega (arith, count)) (agree-front front after z 0 closed (agree-none after z))))

  follows-at : (n : ℕ) (to : Reach) (front more : List ℕ) → IsReached asked to → closes true front ≡ true → n ≡ line_count front
      → text_at asked to ≡ front ++ more → (after : List ℕ) → bytes ≡ front ++ after → IsLast asked (moment asked to) n
      → IsFollowed asked bytes n to
  follows-at n to front more is closed count split after start last = record {
    reached = is;
    agree = subst (λ b. Agree n b (text_at asked to)) (sym start) (subst (λ t. Agree n (front ++ after) t) (sym split)
        (subst (λ k. Agree k (front ++ after) (front ++ more)) (omega (arith, count)) (agree-front front after more 0 closed (agree-none after more))));
    last = last;
  }

  module _ (n : ℕ) (p : Moment) (rest : List ℕ) (here : Stands asked bytes n p rest) (to : Reach) (is : IsReached asked to) (stands : moment asked to ≡ p) where
    told-is : lines_at asked to ≡ said p
    told-is = ap said stands

    -- a session whose whole text is recorded stays, or goes on by a line at least
    stays-or : (at : Reach) → IsReached asked at → bytes ≡ text_at asked at
        → ((moment asked at ≡ p) × (rest ≡ end_of at)) ⊎ Agree (n + 1) bytes (text_at asked at)
    stays-or at reached whole = by_moves way.moves way.due way.comes
      where
        way : Reaches asked.setting p (moment asked at)
        way = here.forced at reached (agree-equal n bytes (text_at asked at) whole
            (omega (arith, here.count, ap line_count here.begins, count-append (said p) rest)))

        step-one : (m : Move) → Due asked.setting p m → 1 ≤ line_count (move_lines asked.setting asked.procs p m)
        step-one None due = call-one asked bytes speaks p here.made due
        step-one (Some t) due = take-one asked bytes p t here.made due

        by_moves : (ms : List Move) → DueAll asked.setting p ms → after_moves p ms ≡ moment asked at
            → ((moment asked at ≡ p) × (rest ≡ end_of at)) ⊎ Agree (n + 1) bytes (text_at asked at)
        by_moves [] due comes = inl (sym comes, cut (said p) rest (end_of at) (sym here.begins ∙ whole ∙ ap (λ q. said q ++ end_of at) (sym comes)))
        by_moves (m ∷ ms) due comes =
            let one = step-one m due.0 in
            let way_told : lines_at asked at ≡ said p ++ (move_lines asked.setting asked.procs p m ++ lines_on asked.setting asked.procs (after_move p m) ms) =
            ap said (sym comes) ∙ told-gone asked.setting asked.procs (m ∷ ms) p here.made due in
            inr (agree-equal (n + 1) bytes (text_at asked at) whole (omega (
              arith,
              one,
              here.count,
              ap line_count whole,
              ap line_count way_told,
              count-append (lines_at asked at) (end_of at),
              count-append (said p) (move_lines asked.setting asked.procs p m ++ lines_on asked.setting asked.procs (after_move p m) ms),
              count-append (move_lines asked.setting asked.procs p m) (lines_on asked.setting asked.procs (after_move p m) ms),
            )))

    -- between two steps of a session that isn't over, where no recorded line is that of a next step
    pub missing : IsLast asked p n → halt_at asked to ≡ None
        → (Due asked.setting p None → p.calls + 1 ≤ asked.turns → Agree 1 rest (move_lines asked.setting asked.procs p None) → ⊥)
        → ((t : ℕ × Line) → Due asked.setting p (Some t) → IsNext asked p t → Agree 1 rest (told_line asked bytes p t) → ⊥)
        → IsOther asked bytes (n + 1) (next_line (next_lines asked to rest)) (next_line rest) (is_ended rest) to.takes to.calls
    missing last goes_on no_call no_take =
        other n to rest (next_line (next_lines asked to rest))
        (follows-at n to (said p) (end_of to) is (closes-told asked bytes p) here.count (ap (λ l. l ++ end_of to) told-is) rest here.begins
        (subst (λ q. IsLast asked q n) (sym stands) last))
        (begun-at n to (said p) [] is (closes-told asked bytes p) here.count (told-is ∙ sym (append-nil (said p))) rest here.begins)
        stops
        (λ at reached h over whole. elim (stays-or at reached whole) [
          | inl w ↦ let same = halt-same asked at to reached is (w.0 ∙ sym stands) in absurd (let bad : Some h ≡ None = sym over ∙ same ∙ goes_on in cc bad)
          | inr agree ↦ stops at reached agree
        ])
        (ap (behind_lines n) here.begins ∙ behind-whole n (said p) rest (closes-told asked bytes p) here.count)
        (sym (ap (λ l. or_else (next_line l) (want_between asked to n rest (halt_at asked to)))
        (ap (behind_lines n) told-is ∙ behind-all n (said p) (closes-told asked bytes p) (omega (arith, here.count)))
        ∙ ap (want_between asked to n rest) goes_on))
      where
        stops : NoMore n
        stops = none-more asked bytes fit speaks n p rest here to is stands
            (λ agree. absurd (let none : line_count (end_of to) ≡ 0 = ap (λ o. line_count (end_by asked to o)) goes_on in omega (arith, agree.there, none)))
            no_call no_take

    -- in the midst of a step, or before its end
    pub in-step : (m : Move) → Due asked.setting p m → Forced asked bytes (n + 1) (after_move p m) → (next : Reach) → IsReached asked next
        → moment asked next ≡ after_move p m → (front more after : List ℕ)
        → move_lines asked.setting asked.procs p m ≡ front ++ more → rest ≡ front ++ after
        → closes true front ≡ true → 1 ≤ line_count front → 1 ≤ line_count more → (Agree 1 after more → ⊥)
        → IsOther asked bytes (n + line_count front + 1) (next_line more) (next_line after) (is_ended after) next.takes next.calls
    in-step m due forced next reached_next moves_on front more after split is_rest closed some goes_on differs =
        other (n + line_count front) next after (next_line more)
        (follows-at (n + line_count front) next (said p ++ front) (more ++ end_of next) reached_next whole_closed count
        (ap (λ l. l ++ end_of next) told_next ∙ append_assoc (said p ++ front) more (end_of next)) after start last)
        (begun-at (n + line_count front) next (said p ++ front) more reached_next whole_closed count told_next after start)
        (none-in-step asked bytes fit speaks n p rest here m due forced front more after split is_rest closed some goes_on differs)
        no_trace
        (ap (behind_lines (n + line_count front)) start ∙ behind-whole (n + line_count front) (said p ++ front) after whole_closed count)
        (sym (ap (λ l. or_else (next_line l) (want_between asked next (n + line_count front) after (halt_at asked next)))
        (ap (behind_lines (n + line_count front)) told_next ∙ behind-whole (n + line_count front) (said p ++ front) more whole_closed count)
        ∙ ap (λ o. or_else o (want_between asked next (n + line_count front) after (halt_at asked next))) (some-line more goes_on)
        ∙ sym (some-line more goes_on)))
      where
        whole_closed : closes true (said p ++ front) ≡ true
        whole_closed = closes-both (said p) front (closes-told asked bytes p) closed

        count : n + line_count front ≡ line_count (said p ++ front)
        count = omega (arith, here.count, count-append (said p) front)

        start : bytes ≡ (said p ++ front) ++ after
        start = here.begins ∙ ap (λ l. said p ++ l) is_rest ∙ sym (append_assoc (said p) front after)

        told_next : lines_at asked next ≡ (said p ++ front) ++ more
        told_next = ap said moves_on ∙ told-moved asked.setting asked.procs p m here.made ∙ ap (λ l. said p ++ l) split ∙ sym (append_assoc (said p) front more)

        last : IsLast asked (moment asked next) (n + line_count front)
        last = subst (λ q. IsLast asked q (n + line_count front)) (sym moves_on)
            (last-moved asked p m here.made (n + line_count front) (omega (arith, here.count, some)))

        no_trace : NoTrace
        no_trace at reached h over whole =
            let enough : n + 1 ≤ line_count bytes = omega (arith, ap line_count start, count, count-append (said p ++ front) after, some) in
            let way = forced at reached (agree-equal (n + 1) bytes (text_at asked at) whole enough) in
            let z = lines_on asked.setting asked.procs (after_move p m) way.moves ++ end_of at in
            let text : text_at asked at ≡ (said p ++ front) ++ (more ++ z) =
            ap (λ q. said q ++ end_of at) (sym way.comes)
            ∙ ap (λ l. l ++ end_of at) (told-gone asked.setting asked.procs way.moves (after_move p m) (IsAt-moved asked.setting p m here.made due) way.due)
            ∙ append_assoc (said (after_move p m)) (lines_on asked.setting asked.procs (after_move p m) way.moves) (end_of at)
            ∙ ap (λ l. l ++ z) (ap said (sym moves_on) ∙ told_next)
            ∙ append_assoc (said p ++ front) more z in
            let same : after ≡ more ++ z = cut (said p ++ front) after (more ++ z) (sym start ∙ whole ∙ text) in
            differs (record {
              here = omega (arith, ap line_count same, count-append more z, goes_on);
              there = goes_on;
              same = ap (first_lines 1) same ∙ first-append 1 more z goes_on;
            })

    -- in the midst of an end
    pub in-end : IsLast asked p n → (h : Halt) → halt_at asked to ≡ Some h → (front more after : List ℕ) → end_of to ≡ front ++ more → rest ≡ front ++ after
        → closes true front ≡ true → (Agree 1 after more → ⊥) → (more ≡ after → ⊥)
        → (Due asked.setting p None → p.calls + 1 ≤ asked.turns → ⊥)
        → ((t : ℕ × Line) → Due asked.setting p (Some t) → IsNext asked p t → Agree 1 rest (told_line asked bytes p t) → ⊥)
        → IsOther asked bytes (n + line_count front + 1) (next_line more) (next_line after) (is_ended after) to.takes to.calls
    in-end last h over front more after split is_rest closed differs unlike no_call no_take =
        other (n + line_count front) to after (next_line more)
        (follows-at (n + line_count front) to (said p ++ front) more is whole_closed count text_to after start
        (subst (λ q. IsLast asked q (n + line_count front)) (sym stands) (last-more last)))
        begun stops
        (λ at reached k over_at whole. elim (stays-or at reached whole) [
          | inl w ↦ unlike (cut front more after (sym split ∙ sym (end-same asked at to reached is (w.0 ∙ sym stands)) ∙ sym w.1 ∙ is_rest))
          | inr agree ↦ no_at at reached whole agree
        ])
        (ap (behind_lines (n + line_count front)) start ∙ behind-whole (n + line_count front) (said p ++ front) after whole_closed count)
        (sym (ap (λ l. or_else (next_line l) (want_between asked to (n + line_count front) after (halt_at asked to)))
        (ap (behind_lines (n + line_count front)) told-is ∙ behind-all (n + line_count front) (said p) (closes-told asked bytes p) (omega (arith, here.count)))
        ∙ ap (want_between asked to (n + line_count front) after) over
        ∙ ap next_line (ap (behind_lines (n + line_count front)) text_to ∙ behind-whole (n + line_count front) (said p ++ front) more whole_closed count)))
      where
        whole_closed : closes true (said p ++ front) ≡ true
        whole_closed = closes-both (said p) front (closes-told asked bytes p) closed

        count : n + line_count front ≡ line_count (said p ++ front)
        count = omega (arith, here.count, count-append (said p) front)

        start : bytes ≡ (said p ++ front) ++ after
        start = here.begins ∙ ap (λ l. said p ++ l) is_rest ∙ sym (append_assoc (said p) front after)

        text_to : text_at asked to ≡ (said p ++ front) ++ more
        text_to = ap (λ l. l ++ end_of to) told-is ∙ ap (λ l. said p ++ l) split ∙ sym (append_assoc (said p) front more)

        last-more : IsLast asked p n → IsLast asked p (n + line_count front)
        last-more (inl none) = inl none
        last-more (inr low) = inr (omega (arith, low))

        begun : IsBegun asked bytes (n + line_count front)
        begun = (
          text_at asked to,
          (to, record { reached = is; halt = h; over = over; whole = refl }),
          (follows-at (n + line_count front) to (said p ++ front) more is whole_closed count text_to after start
              (subst (λ q. IsLast asked q (n + line_count front)) (sym stands) (last-more last))).agree,
        )

        stops : NoMore (n + line_count front)
        stops at reached agree = by (cases_lt 0 (line_count front))
          where
            by : (0 < line_count front) ⊎ (line_count front ≤ 0) → ⊥
            by (inl some) = none-in-end asked bytes fit speaks n p rest here to is stands front more after split is_rest closed
                (omega (arith, some)) differs at reached agree
            by (inr none) =
                let empty : front ≡ [] = none-whole front closed (omega (arith, none)) in
                let all : more ≡ end_of to = sym (split ∙ ap (λ l. l ++ more) empty) in
                let behind : after ≡ rest = sym (is_rest ∙ ap (λ l. l ++ after) empty) in
                none-more asked bytes fit speaks n p rest here to is stands
                (λ a. differs (subst (λ l. Agree 1 l more) (sym behind) (subst (λ l. Agree 1 rest l) (sym all) a)))
                (λ due room a. no_call due room) no_take at reached
                (subst (λ k. Agree k bytes (text_at asked at)) (omega (arith, none)) agree)

        no_at : (at : Reach) → IsReached asked at → bytes ≡ text_at asked at → Agree (n + 1) bytes (text_at asked at) → ⊥
        no_at at reached whole agree = by (cases_lt 0 (line_count front))
          where
            by : (0 < line_count front) ⊎ (line_count front ≤ 0) → ⊥
            by (inl some) =
                let same = stays-in-end asked bytes fit speaks n p rest here to front more after split is_rest (omega (arith, some)) at reached agree in
                let all : rest ≡ end_of at = cut (said p) rest (end_of at) (sym here.begins ∙ whole ∙ ap (λ q. said q ++ end_of at) (sym same)) in
                unlike (cut front more after (sym split ∙ sym (end-same asked at to reached is (sym same ∙ sym stands)) ∙ sym all ∙ is_rest))
            by (inr none) = stops at reached (subst (λ k. Agree k bytes (text_at asked at)) (omega (arith, none)) agree)
