-- The forcing law: which steps a session has made is known by the lines that it has told.
use Rattle.event_gate.proofs.Lines.{cond_other, cond_same, of-append, same_or}
use Rattle.event_gate.specs.History.{IsClientHistory, lines_of}
use Rattle.event_gate.specs.Port.{of}
use Rattle.event_gate.specs.Shelves.{event_of}
use Rattle.lwp_types.specs.declared.call.Line.{Line}
use Rattle.pod_runner.proofs.Plays.{IsDefined-zero}
use Rattle.pod_runner.specs.Session.{Made, take_move}
use Rattle.pod_runner.specs.Trace.{lines, made_lines}
use Rattle.pod_runner.specs.declared.session.Took.{Took}
use Rattle.replay.proofs.Left.{end-same}
use Rattle.replay.proofs.LineLaws.{agree-fewer, agree-heads, agree-peel, agree-shorter, closes-both, count-append, head-append, head_of}
use Rattle.replay.proofs.Clock.{clock-free, takeable-small}
use Rattle.replay.proofs.Moves.{IsAt-moved, gone-calls, gone-takes, lines_on, reached, told-gone, told-moved, told-opened}
use Rattle.replay.specs.Walk.{Due, DueAll, Forced, IsAt, IsFit, IsNext, Moment, Move, Reaches, Speaks, Stands, after_move}
use Rattle.replay.specs.Walk.{after_moves, count_of, first_moment, moment, move_lines, session_of, lines_until, took_at}
use Rattle.replay.proofs.StepLines.{Speaking, call-lines, call-some, closes-step, end-head, one-line}
use Rattle.replay.proofs.StepLines.{take-client, take-first, take-tells, tells-head, tells-same}
use Rattle.replay.specs.Asked.{Asked, IsReached, Reach, counts_from, end_by, halt_at, pairs_of, text_at, lines_at}
use Rattle.replay.specs.Recorded.{Agree, closes, line_count}
use Rattle.replay.specs.Verdict.{take_text, tells_take}
use Rattle.trace_text.specs.Lines.{ended_line, later_lines, step_lines}
use Rattle.trace_text.specs.declared.ends.Halt.{Halt}
use Rattle.std.specs.List.{AllByRecursion}
use Rattle.std.specs.Prelude.{Option}
use Rattle.std.proofs.Common.{List, None, Some, [], ap, append_assoc, append-nil, arith, false, inl, inr, length, refl}
use Rattle.std.proofs.Common.{slice_get, subst, sym, true, ℕ, ◌++◌, ◌+◌, ◌<◌, ◌^◌, ◌∙◌, ◌∷◌, ◌≡◌, ◌≤◌, ◌⊎◌}
use Rattle.std.proofs.lemmas.List.{map-append}
use Rattle.std.proofs.lemmas.List.Elements.{recursion_from_All}

at-front : {A : Type 0} (xs ys : List A) (x : A) → slice_get (xs ++ x ∷ ys) (length xs) ≡ Some x
at-front [] ys x = refl
at-front (z ∷ xs) ys x = at-front xs ys x

all-behind : {A : Type 0} (P : A → Type 0) (xs : List A) (x : A) (ys : List A) → AllByRecursion P (xs ++ x ∷ ys) → P x
all-behind P [] x ys all = all.0
all-behind P (z ∷ xs) x ys all = all-behind P xs x ys all.1

pub pairs-append : (a b : List Took) → pairs_of (a ++ b) ≡ pairs_of a ++ pairs_of b
pairs-append a b = map-append (λ (took : Took). (took.event, took.line)) a b

pub lines-append : (a b : List (ℕ × Line)) → lines_of (a ++ b) ≡ lines_of a ++ lines_of b
lines-append a b = map-append (λ (t : ℕ × Line). t.1) a b

-- of a session's takes, each is of its client's next line
next-of : {B : Type 0} (asked : Asked B) (p : Moment) (t : ℕ × Line) (takes later : List Took) (left : List Line)
    → takes ≡ p.takes ++ took_at p t ∷ later → IsClientHistory asked.clients asked.posts (pairs_of takes) left → IsNext asked p t
next-of asked p t takes later left is h =
    let c = t.1.client in
    let pairs : pairs_of takes ≡ pairs_of p.takes ++ t ∷ pairs_of later = ap pairs_of is ∙ pairs-append p.takes (took_at p t ∷ later) in
    let mine : of c (lines_of (pairs_of takes)) ≡ of c (lines_of (pairs_of p.takes)) ++ t.1 ∷ of c (lines_of (pairs_of later)) =
    ap (λ (l : List (ℕ × Line)). of c (lines_of l)) pairs
    ∙ ap (of c) (lines-append (pairs_of p.takes) (t ∷ pairs_of later))
    ∙ of-append c (lines_of (pairs_of p.takes)) (t.1 ∷ lines_of (pairs_of later))
    ∙ ap (λ l. of c (lines_of (pairs_of p.takes)) ++ l)
    (cond_same t.1.client c (t.1 ∷ of c (lines_of (pairs_of later))) (of c (lines_of (pairs_of later))) refl) in
    let posts : of c asked.posts ≡ of c (lines_of (pairs_of p.takes)) ++ t.1 ∷ (of c (lines_of (pairs_of later)) ++ of c left) =
    sym (h.lines_are c) ∙ ap (λ l. l ++ of c left) mine
    ∙ append_assoc (of c (lines_of (pairs_of p.takes))) (t.1 ∷ of c (lines_of (pairs_of later))) (of c left) in
    record {
      event = all-behind (λ (u : ℕ × Line). event_of asked.clients u.1.client ≡ u.0) (pairs_of p.takes) t (pairs_of later)
          (subst (λ l. AllByRecursion (λ (u : ℕ × Line). event_of asked.clients u.1.client ≡ u.0) l) pairs
          (recursion_from_All (λ (u : ℕ × Line). event_of asked.clients u.1.client ≡ u.0) (pairs_of takes) h.events_are));
      line = ap (λ l. slice_get l (count_of c p.takes)) posts
          ∙ at-front (of c (lines_of (pairs_of p.takes))) (of c (lines_of (pairs_of later)) ++ of c left) t.1;
    }

some-same : {A : Type 0} {x y : A} → Some x ≡ Some y → x ≡ y
some-same {A} {x} h = ap un h
  where
    un : Option A → A
    un None = x
    un (Some z) = z

-- a client has one next line
next-same : {B : Type 0} (asked : Asked B) (p : Moment) (t u : ℕ × Line) → IsNext asked p t → IsNext asked p u → t.1.client ≡ u.1.client → t ≡ u
next-same asked p t u one two same =
    let line : t.1 ≡ u.1 = some-same (sym one.line ∙ ap (λ c. slice_get (of c asked.posts) (count_of c p.takes)) same ∙ two.line) in
    let event : t.0 ≡ u.0 = sym one.event ∙ ap (event_of asked.clients) same ∙ two.event in
    (λ i. (event i, line i))

-- a line that is posted is one of a client
pub posted-by : (k c n : ℕ) (x : Line) (posts : List Line) → AllByRecursion (λ (line : Line). line.client < k) posts → slice_get (of c posts) n ≡ Some x → c < k
posted-by k c n x [] all h = absurd (cc)
posted-by k c n x (y ∷ posts) all h = elim (same_or y.client c) [
  | inl same ↦ subst (λ d. d < k) same all.0
  | inr other ↦ posted-by k c n x posts all.1 (ap (λ l. slice_get l n) (sym (cond_other y.client c (y ∷ of c posts) (of c posts) other)) ∙ h)
]

-- and the client of a next line is one that posts
pub next-client : {B : Type 0} (asked : Asked B) (fit : IsFit asked) (p : Moment) (t : ℕ × Line) → IsNext asked p t → t.1.client < length asked.clients
next-client asked fit p t next =
    posted-by (length asked.clients) t.1.client (count_of t.1.client p.takes) t.1 asked.posts
    (recursion_from_All (λ (line : Line). line.client < length asked.clients) asked.posts fit.posters) next.line

next-poster : {B : Type 0} (asked : Asked B) (fit : IsFit asked) (p : Moment) (t : ℕ × Line) → IsNext asked p t → t.1.client < 2 ^ 64
next-poster asked fit p t next = omega (arith, next-client asked fit p t next, fit.few)

-- ---- the law

module _ {B : Type 0} (asked : Asked B) (bytes : List ℕ) where
  pub forced-more : (m n : ℕ) (p : Moment) → n ≤ m → Forced asked bytes n p → Forced asked bytes m p
  forced-more m n p le f at is agree = f at is (agree-fewer n m bytes (text_at asked at) le agree)

  abbrev end_of : Reach → List ℕ
  end_of at = end_by asked at (halt_at asked at)

  -- how a session that agrees on one line more goes on
  pub data Goes (p : Moment) (rest : List ℕ) (at : Reach) : Type 0 where
    Stays : p ≡ moment asked at → Agree 1 rest (end_of at) → Goes p rest at
    Calls : Due asked.setting p None → p.calls + 1 ≤ asked.turns → (more : List ℕ) → Agree 1 rest (move_lines asked.setting asked.procs p None ++ more)
        → Reaches asked.setting (after_move p None) (moment asked at) → Goes p rest at
    Takes : (t : ℕ × Line) → Due asked.setting p (Some t) → IsNext asked p t → (more : List ℕ)
        → Agree 1 rest (move_lines asked.setting asked.procs p (Some t) ++ more)
        → Reaches asked.setting (after_move p (Some t)) (moment asked at) → Goes p rest at

  closes-lines : (steps : List Made) → closes true (lines asked.procs steps) ≡ true
  closes-lines [] = refl
  closes-lines (made ∷ steps) = closes-both (made_lines asked.procs made) (lines asked.procs steps)
      (closes-step asked.procs _ made.effects) (closes-lines steps)

  pub closes-told : (p : Moment) → closes true (lines_until asked.setting asked.procs p) ≡ true
  closes-told p = closes-lines (session_of asked.setting p).steps

  -- the first line after those told
  next-line : (p : Moment) (rest more : List ℕ) (n : ℕ) (at : Reach) → Stands asked bytes n p rest → Agree (n + 1) bytes (text_at asked at)
      → text_at asked at ≡ lines_until asked.setting asked.procs p ++ more → Agree 1 rest more
  next-line p rest more n at here agree whole =
      agree-peel (lines_until asked.setting asked.procs p) rest more 1 (closes-told p)
      (subst (λ k. Agree (k + 1) (lines_until asked.setting asked.procs p ++ rest) (lines_until asked.setting asked.procs p ++ more)) here.count
      (subst (λ b. Agree (n + 1) b (lines_until asked.setting asked.procs p ++ more)) here.begins
      (subst (λ b. Agree (n + 1) bytes b) whole agree)))

  pub goes : (n : ℕ) (p : Moment) (rest : List ℕ) (at : Reach) → Stands asked bytes n p rest → IsReached asked at
      → Agree (n + 1) bytes (text_at asked at) → Goes p rest at
  goes n p rest at here is agree = by_moves way.moves way.due way.comes
    where
      way : Reaches asked.setting p (moment asked at)
      way = here.forced at is (agree-fewer n (n + 1) bytes (text_at asked at) (omega arith) agree)

      by_moves : (ms : List Move) → DueAll asked.setting p ms → after_moves p ms ≡ moment asked at → Goes p rest at
      by_moves [] due comes = Stays comes
          (next-line p rest (end_of at) n at here agree (ap (λ q. lines_until asked.setting asked.procs q ++ end_of at) (sym comes)))
      by_moves (None ∷ ms) due comes =
          let way_told = told-gone asked.setting asked.procs (None ∷ ms) p here.made due in
          let more = lines_on asked.setting asked.procs (after_move p None) ms ++ end_of at in
          let whole : text_at asked at ≡ lines_until asked.setting asked.procs p ++ (move_lines asked.setting asked.procs p None ++ more) =
          ap (λ q. lines_until asked.setting asked.procs q ++ end_of at) (sym comes) ∙ ap (λ l. l ++ end_of at) way_told
          ∙ append_assoc (lines_until asked.setting asked.procs p)
          (move_lines asked.setting asked.procs p None ++ lines_on asked.setting asked.procs (after_move p None) ms) (end_of at)
          ∙ ap (λ l. lines_until asked.setting asked.procs p ++ l)
          (append_assoc (move_lines asked.setting asked.procs p None) (lines_on asked.setting asked.procs (after_move p None) ms) (end_of at)) in
          Calls due.0 (omega (arith, gone-calls ms (after_move p None), ap (λ (q : Moment). q.calls) comes, is.room)) more
          (next-line p rest (move_lines asked.setting asked.procs p None ++ more) n at here agree whole)
          (record { moves = ms; due = due.1; comes = comes })
      by_moves (Some t ∷ ms) due comes =
          let way_told = told-gone asked.setting asked.procs (Some t ∷ ms) p here.made due in
          let more = lines_on asked.setting asked.procs (after_move p (Some t)) ms ++ end_of at in
          let whole : text_at asked at ≡ lines_until asked.setting asked.procs p ++ (move_lines asked.setting asked.procs p (Some t) ++ more) =
          ap (λ q. lines_until asked.setting asked.procs q ++ end_of at) (sym comes) ∙ ap (λ l. l ++ end_of at) way_told
          ∙ append_assoc (lines_until asked.setting asked.procs p)
          (move_lines asked.setting asked.procs p (Some t) ++ lines_on asked.setting asked.procs (after_move p (Some t)) ms) (end_of at)
          ∙ ap (λ l. lines_until asked.setting asked.procs p ++ l)
          (append_assoc (move_lines asked.setting asked.procs p (Some t)) (lines_on asked.setting asked.procs (after_move p (Some t)) ms) (end_of at)) in
          let later = gone-takes ms (after_move p (Some t)) in
          let takes : at.takes
          ≡ p.takes ++ took_at p t ∷ later.0 = sym (ap (λ (q : Moment). q.takes) comes) ∙ later.1 ∙ append_assoc p.takes (took_at p t ∷ []) later.0 in
          Takes t due.0 (next-of asked p t at.takes later.0 at.left takes is.history) more
          (next-line p rest (move_lines asked.setting asked.procs p (Some t) ++ more) n at here agree whole)
          (record { moves = ms; due = due.1; comes = comes })

  -- ---- how the lines begin

  -- how often the clock has ticked by then
  abbrev now_of : Moment → ℕ
  now_of p = (session_of asked.setting p).live.pod.state.now

  -- the line of a take that is made then
  abbrev pub told_line : Moment → ℕ × Line → List ℕ
  told_line p t = ended_line (take_text (now_of p) t.0 t.1)

  pub take-told : (p : Moment) (t : ℕ × Line) → IsAt asked.setting p → Due asked.setting p (Some t)
      → (rest : List ℕ) × (move_lines asked.setting asked.procs p (Some t) ≡ told_line p t ++ rest)
  unfolding take_move
  take-told p t made due =
      let w = take-first (session_of asked.setting p).live.pod t.0 t.1.text (clock-free asked.setting p made) due in (
        later_lines asked.procs w.rest,
        ap (step_lines asked.procs (Some t.1)) w.are ∙ ap (λ l. ended_line l ++ later_lines asked.procs w.rest) (w.line asked.procs t.1),
      )

  pub call-told : Speaks asked → (p : Moment) (more : List ℕ) → IsAt asked.setting p → Due asked.setting p None
      → Speaking (move_lines asked.setting asked.procs p None ++ more)
  call-told speaks p more made due =
      let w = speaks p made due in
      subst (λ es. Speaking (step_lines asked.procs None es ++ more)) (sym w.2) (call-lines asked.procs w.0 w.1 more w.3)

  pub call-one : Speaks asked → (p : Moment) → IsAt asked.setting p → Due asked.setting p None → 1 ≤ line_count (move_lines asked.setting asked.procs p None)
  call-one speaks p made due = let w = speaks p made due in
      subst (λ es. 1 ≤ line_count (step_lines asked.procs None es)) (sym w.2) (call-some asked.procs w.0 w.1)

  pub take-one : (p : Moment) (t : ℕ × Line) → IsAt asked.setting p → Due asked.setting p (Some t)
      → 1 ≤ line_count (move_lines asked.setting asked.procs p (Some t))
  take-one p t made due = let w = take-told p t made due in subst (λ l. 1 ≤ line_count l) (sym w.1) (one-line (take_text (now_of p) t.0 t.1) w.0)

  end-told : (at : Reach) (o : Option Halt) → 1 ≤ line_count (end_by asked at o) → (head_of (end_by asked at o) ≡ 115) ⊎ (head_of (end_by asked at o) ≡ 108)
  end-told at None some = absurd (omega (arith, some))
  end-told at (Some h) some = end-head asked.turns (counts_from 0 asked.clients at.left) h some

  abbrev Ends : List ℕ → Type 0
  Ends rest = (head_of rest ≡ 115) ⊎ (head_of rest ≡ 108)

  ends-rest : (rest : List ℕ) (at : Reach) → Agree 1 rest (end_of at) → Ends rest
  ends-rest rest at h = elim (end-told at (halt_at asked at) h.there) [
    | inl e ↦ inl (agree-heads rest (end_of at) h ∙ e)
    | inr e ↦ inr (agree-heads rest (end_of at) h ∙ e)
  ]

  tells-rest : Speaks asked → (p : Moment) (rest more : List ℕ) → IsAt asked.setting p → Due asked.setting p None
      → Agree 1 rest (move_lines asked.setting asked.procs p None ++ more) → Speaking rest
  tells-rest speaks p rest more made due h =
      let w = call-told speaks p more made due in
      let text = move_lines asked.setting asked.procs p None ++ more in
      (elim w.0 [ inl e ↦ inl (agree-heads rest text h ∙ e) | inr e ↦ inr (agree-heads rest text h ∙ e) ], tells-same rest text h ∙ w.1)

  -- the line of a take, where such a step comes next
  take-line : (p : Moment) (rest more : List ℕ) (t : ℕ × Line) → IsAt asked.setting p → Due asked.setting p (Some t)
      → Agree 1 rest (move_lines asked.setting asked.procs p (Some t) ++ more)
      → (y : List ℕ) × Agree 1 rest (told_line p t ++ y)
  take-line p rest more t made due h =
      let w = take-told p t made due in
      (w.0 ++ more, subst (λ l. Agree 1 rest l) (ap (λ l. l ++ more) w.1 ∙ append_assoc (told_line p t) w.0 more) h)

  takes-rest : (p : Moment) (rest x : List ℕ) (t : ℕ × Line) → Agree 1 rest (told_line p t ++ x) → tells_take rest ≡ true
  takes-rest p rest x t h = tells-same rest (told_line p t ++ x) h ∙ take-tells (now_of p) t.0 t.1 x

  no-end : (rest : List ℕ) → Ends rest → tells_take rest ≡ true → ⊥
  no-end rest ends h = apart ends (tells-head rest h)
    where
      apart : Ends rest → (head_of rest ≡ 101) ⊎ (head_of rest ≡ 116) → ⊥
      apart (inl e) (inl f) = omega (arith, e, f)
      apart (inl e) (inr f) = omega (arith, e, f)
      apart (inr e) (inl f) = omega (arith, e, f)
      apart (inr e) (inr f) = omega (arith, e, f)

  no-call : (rest : List ℕ) → Speaking rest → tells_take rest ≡ true → ⊥
  no-call rest speaks h = let bad : false ≡ true = sym speaks.1 ∙ h in cc bad

  no-both : (rest : List ℕ) → Speaking rest → Ends rest → ⊥
  no-both rest speaks ends = apart speaks.0 ends
    where
      apart : (head_of rest ≡ 116) ⊎ (head_of rest ≡ 110) → Ends rest → ⊥
      apart (inl e) (inl f) = omega (arith, e, f)
      apart (inl e) (inr f) = omega (arith, e, f)
      apart (inr e) (inl f) = omega (arith, e, f)
      apart (inr e) (inr f) = omega (arith, e, f)

  module _ (fit : IsFit asked) (speaks : Speaks asked) (n : ℕ) (p : Moment) (rest : List ℕ) (here : Stands asked bytes n p rest) where
    -- the recorded line is that of a take of a client's next line: so each such session makes this take
    pub forced-take : (t : ℕ × Line) → IsNext asked p t → (x : List ℕ) → Agree 1 rest (told_line p t ++ x) → Forced asked bytes (n + 1) (after_move p (Some t))
    forced-take t next x first at is agree = by_case (goes n p rest at here is agree)
      where
        head : tells_take rest ≡ true
        head = takes-rest p rest x t first

        by_case : Goes p rest at → Reaches asked.setting (after_move p (Some t)) (moment asked at)
        by_case (Stays same tail) = absurd (no-end rest (ends-rest rest at tail) head)
        by_case (Calls due room more line way) = absurd (no-call rest (tells-rest speaks p rest more here.made due line) head)
        by_case (Takes u due other more line way) =
            let w = take-line p rest more u here.made due line in
            let client = take-client (now_of p) t.0 u.0 t.1 u.1 x w.0
            (subst (λ e. e < 2 ^ 64) next.event (fit.events t.1.client)) (subst (λ e. e < 2 ^ 64) other.event (fit.events u.1.client))
            (next-poster asked fit p t next) (next-poster asked fit p u other)
            (λ is. omega (arith, takeable-small (session_of asked.setting p).live.pod (clock-free asked.setting p here.made) (subst (λ e. Due asked.setting p (Some (e, u.1))) is due)))
            (sym first.same ∙ w.1.same) in
            subst (λ v. Reaches asked.setting (after_move p (Some v)) (moment asked at)) (sym (next-same asked p t u next other client)) way

    -- it is the first line of the next call: so each makes this call
    pub forced-call : Due asked.setting p None → (x : List ℕ) → Agree 1 rest (move_lines asked.setting asked.procs p None ++ x)
        → Forced asked bytes (n + 1) (after_move p None)
    forced-call may x first at is agree = by_case (goes n p rest at here is agree)
      where
        tells : Speaking rest
        tells = tells-rest speaks p rest x here.made may first

        by_case : Goes p rest at → Reaches asked.setting (after_move p None) (moment asked at)
        by_case (Stays same tail) = absurd (no-both rest tells (ends-rest rest at tail))
        by_case (Calls due room more line way) = way
        by_case (Takes u due other more line way) = let w = take-line p rest more u here.made due line in
            absurd (no-call rest tells (takes-rest p rest w.0 u w.1))

    -- it is neither, nor that of an end: so none goes on with it
    pub none-more : (to : Reach) → IsReached asked to → moment asked to ≡ p
        → (Agree 1 rest (end_of to) → ⊥)
        → (Due asked.setting p None → p.calls + 1 ≤ asked.turns → Agree 1 rest (move_lines asked.setting asked.procs p None) → ⊥)
        → ((t : ℕ × Line) → Due asked.setting p (Some t) → IsNext asked p t → Agree 1 rest (told_line p t) → ⊥)
        → (at : Reach) → IsReached asked at → Agree (n + 1) bytes (text_at asked at) → ⊥
    none-more to reached stands no_end no_call no_take at is agree = by_case (goes n p rest at here is agree)
      where
        by_case : Goes p rest at → ⊥
        by_case (Stays same tail) = no_end (subst (λ l. Agree 1 rest l) (end-same asked at to is reached (sym same ∙ sym stands)) tail)
        by_case (Calls due room more line way) =
            no_call due room (agree-shorter 1 rest (move_lines asked.setting asked.procs p None) more (call-one speaks p here.made due) line)
        by_case (Takes u due other more line way) =
            let w = take-line p rest more u here.made due line in
            no_take u due other (agree-shorter 1 rest (told_line p u) w.0
            (subst (λ l. 1 ≤ line_count l) (append-nil (told_line p u)) (one-line (take_text (now_of p) u.0 u.1) [])) w.1)

    -- the whole of a step was recorded
    pub stands-on : (m : Move) → Due asked.setting p m → Forced asked bytes (n + 1) (after_move p m) → (after : List ℕ)
        → rest ≡ move_lines asked.setting asked.procs p m ++ after → 1 ≤ line_count (move_lines asked.setting asked.procs p m)
        → Stands asked bytes (n + line_count (move_lines asked.setting asked.procs p m)) (after_move p m) after
    stands-on m due forced after is some = record {
      made = IsAt-moved asked.setting p m here.made due;
      begins = here.begins ∙ ap (λ l. lines_until asked.setting asked.procs p ++ l) is
          ∙ sym (append_assoc (lines_until asked.setting asked.procs p) (move_lines asked.setting asked.procs p m) after)
          ∙ ap (λ l. l ++ after) (sym (told-moved asked.setting asked.procs p m here.made));
      count = ap (λ k. k + line_count (move_lines asked.setting asked.procs p m)) here.count
          ∙ sym (count-append (lines_until asked.setting asked.procs p) (move_lines asked.setting asked.procs p m))
          ∙ ap line_count (sym (told-moved asked.setting asked.procs p m here.made));
      forced = forced-more (n + line_count (move_lines asked.setting asked.procs p m)) (n + 1) (after_move p m) (omega (arith, some)) forced;
    }

    -- only the first lines of a step were recorded, and no session goes on after them
    pub none-in-step : (m : Move) → Due asked.setting p m → Forced asked bytes (n + 1) (after_move p m) → (front more after : List ℕ)
        → move_lines asked.setting asked.procs p m ≡ front ++ more → rest ≡ front ++ after
        → closes true front ≡ true → 1 ≤ line_count front → 1 ≤ line_count more → (Agree 1 after more → ⊥)
        → (at : Reach) → IsReached asked at → Agree (n + line_count front + 1) bytes (text_at asked at) → ⊥
    none-in-step m due forced front more after split is closed some goes_on differs at reached agree =
        let way = forced at reached (agree-fewer (n + 1) (n + line_count front + 1) bytes (text_at asked at) (omega (arith, some)) agree) in
        let said = lines_until asked.setting asked.procs p in
        let z = lines_on asked.setting asked.procs (after_move p m) way.moves ++ end_of at in
        let whole : text_at asked at ≡ (said ++ front) ++ (more ++ z) =
        ap (λ q. lines_until asked.setting asked.procs q ++ end_of at) (sym way.comes)
        ∙ ap (λ l. l ++ end_of at) (told-gone asked.setting asked.procs way.moves (after_move p m) (IsAt-moved asked.setting p m here.made due) way.due)
        ∙ append_assoc (lines_until asked.setting asked.procs (after_move p m)) (lines_on asked.setting asked.procs (after_move p m) way.moves) (end_of at)
        ∙ ap (λ l. l ++ z) (told-moved asked.setting asked.procs p m here.made ∙ ap (λ l. said ++ l) split ∙ sym (append_assoc said front more))
        ∙ append_assoc (said ++ front) more z in
        let start : bytes ≡ (said ++ front) ++ after = here.begins ∙ ap (λ l. said ++ l) is ∙ sym (append_assoc said front after) in
        let count : n + line_count front + 1 ≡ line_count (said ++ front) + 1 = omega (arith, here.count, count-append said front) in
        differs (agree-shorter 1 after more z goes_on (agree-peel (said ++ front) after (more ++ z) 1 (closes-both said front (closes-told p) closed)
        (subst (λ k. Agree k ((said ++ front) ++ after) ((said ++ front) ++ (more ++ z))) count
        (subst (λ b. Agree (n + line_count front + 1) b ((said ++ front) ++ (more ++ z))) start
        (subst (λ b. Agree (n + line_count front + 1) bytes b) whole agree)))))

    -- the first line of an end was recorded: each session that goes on so is over
    pub stays-in-end : (to : Reach) (front more after : List ℕ) → end_of to ≡ front ++ more → rest ≡ front ++ after → 1 ≤ line_count front
        → (at : Reach) → IsReached asked at → Agree (n + 1) bytes (text_at asked at) → p ≡ moment asked at
    stays-in-end to front more after split is some at is_at agree = by_case (goes n p rest at here is_at agree)
      where
        enough : 1 ≤ line_count (end_of to)
        enough = omega (arith, some, ap line_count split, count-append front more)

        ends : Ends rest
        ends =
            let heads : head_of rest
            ≡ head_of (end_of to) = ap head_of is ∙ head-append front after some ∙ sym (head-append front more some) ∙ ap head_of (sym split) in
            elim (end-told to (halt_at asked to) enough) [ inl e ↦ inl (heads ∙ e) | inr e ↦ inr (heads ∙ e) ]

        by_case : Goes p rest at → p ≡ moment asked at
        by_case (Calls due room more line way) = absurd (no-both rest (tells-rest speaks p rest more here.made due line) ends)
        by_case (Takes u due other more line way) = let w = take-line p rest more u here.made due line in
            absurd (no-end rest ends (takes-rest p rest w.0 u w.1))
        by_case (Stays same tail) = same

    -- only the first lines of an end were recorded, one at least, and no session goes on after them
    pub none-in-end : (to : Reach) → IsReached asked to → moment asked to ≡ p → (front more after : List ℕ) → end_of to ≡ front ++ more → rest ≡ front ++ after
        → closes true front ≡ true → 1 ≤ line_count front → (Agree 1 after more → ⊥)
        → (at : Reach) → IsReached asked at → Agree (n + line_count front + 1) bytes (text_at asked at) → ⊥
    none-in-end to reached stands front more after split is closed some differs at is_at agree =
        let same = stays-in-end to front more after split is some at is_at
        (agree-fewer (n + 1) (n + line_count front + 1) bytes (text_at asked at) (omega (arith, some)) agree) in
        let said = lines_until asked.setting asked.procs p in
        let whole : text_at asked at ≡ (said ++ front) ++ more =
        ap (λ l. lines_at asked at ++ l) (end-same asked at to is_at reached (sym same ∙ sym stands) ∙ split)
        ∙ ap (λ (q : Moment). lines_until asked.setting asked.procs q ++ (front ++ more)) (sym same)
        ∙ sym (append_assoc said front more) in
        let start : bytes ≡ (said ++ front) ++ after = here.begins ∙ ap (λ l. said ++ l) is ∙ sym (append_assoc said front after) in
        let count : n + line_count front + 1 ≡ line_count (said ++ front) + 1 = omega (arith, here.count, count-append said front) in
        differs (agree-peel (said ++ front) after more 1 (closes-both said front (closes-told p) closed)
        (subst (λ k. Agree k ((said ++ front) ++ after) ((said ++ front) ++ more)) count
        (subst (λ b. Agree (n + line_count front + 1) b ((said ++ front) ++ more)) start
        (subst (λ b. Agree (n + line_count front + 1) bytes b) whole agree))))

-- before the first step
pub stands-opened : {B : Type 0} (asked : Asked B) (bytes : List ℕ) → Stands asked bytes 0 first_moment bytes
stands-opened asked bytes = record {
  made = IsDefined-zero asked.setting;
  begins = sym (ap (λ l. l ++ bytes) (told-opened asked.setting asked.procs));
  count = sym (ap line_count (told-opened asked.setting asked.procs));
  forced = λ at is agree. reached asked.setting (moment asked at) is.due;
}
