-- How the lines of a step begin, and those of an end.
use Rattle.lwp_types.specs.Agents.{deliver, deliver_to, event_agents, is_event_armed, is_for, message}
use Rattle.lwp_types.specs.Choice.{choice}
use Rattle.lwp_types.specs.Messages.{post, with_holding}
use Rattle.lwp_types.specs.Names.{null_id}
use Rattle.lwp_types.specs.State.{State, and_then, for_each, is_empty, passes}
use Rattle.lwp_types.specs.Step.{case_of, end_effects, own_effects, step, step_by, step_if}
use Rattle.lwp_types.specs.Time.{after_tick, due_threads, may_tick, tick, time_out}
use Rattle.lwp_types.specs.declared.call.Call.{Call}
use Rattle.lwp_types.specs.declared.call.Effect.{Effect}
use Rattle.lwp_types.specs.declared.call.Line.{Line}
use Rattle.lwp_types.specs.declared.call.LwpErr.{LwpErr}
use Rattle.lwp_types.specs.declared.rows.AgentRow.{AgentRow}
use Rattle.pod_events.specs.Events.{EventState, after_pass_on, after_take_trap, is_takeable, is_trapped, may_trap, rites_event, take_event}
use Rattle.pod_events.specs.Rites.{after_first_report, as_rites, report_text, reports_after, after_rites}
use Rattle.pod_events.specs.Step.{event_step, event_step_by, event_step_if}
use Rattle.pod_events.specs.Traps.{after_call_as, after_machine_step, after_trap, after_trap_and_call, agent_event_of, after_refusal, trap_of, trap_refusal}
use Rattle.replay.proofs.Digits.{decimal-no-line, number-split}
use Rattle.replay.proofs.LineLaws.{agree-behind, agree-head, closes-both, closes-line, count-append, head_of}
use Rattle.replay.specs.Recorded.{Agree, closes, first_lines, is_newline, line_count}
use Rattle.replay.specs.Verdict.{begins_with, take_text, tells_take}
use Rattle.replay.specs.Walk.{is_spoken}
use Rattle.std.proofs.Common.{Bool, List, None, Some, [], ap, append_assoc, arith, codes, cond, false, inl, inr, refl, subst}
use Rattle.std.proofs.Common.{sym, true, zero, suc, ℕ, ◌++◌, ◌+◌, ◌/◌, ◌%◌, ◌<◌, ◌^◌, ◌∙◌, ◌∷◌, ◌≡◌, ◌≤◌, ◌⊎◌}
use Rattle.std.specs.Prelude.{IsTrue, Option, map, nat_lt, not, ◌&&◌, ◌==◌, ◌||◌}
use Rattle.std.specs.List.{AllByRecursion, filter, list_all}
use Rattle.std.specs.Fmt.{decimal, digit_glyph, digits, digits_onto}
use Rattle.std.proofs.lemmas.Bool.{eqb-true, ne_eqb}
use Rattle.trace_text.specs.Lines.{call_text, end_text, ended_line, halt_text, later_lines, left_text, left_texts}
use Rattle.trace_text.specs.Lines.{line_text, step_lines, taken_text, thread_text, ticked_text, with_space}
use Rattle.trace_text.specs.declared.ends.Halt.{Halt}
use Rattle.lwp_types.specs.declared.call.Effect.TheVariants as effect
use Rattle.lwp_types.specs.declared.call.LwpErr.TheVariants as error
use Rattle.trace_text.specs.declared.ends.Halt.TheVariants as halt

-- ---- they end in a newline

closes-later : (procs : List (List ℕ)) (es : List Effect) → closes true (later_lines procs es) ≡ true
closes-later procs [] = refl
closes-later procs (e ∷ es) =
    closes-both (ended_line (line_text procs None e)) (later_lines procs es) (closes-line true (line_text procs None e)) (closes-later procs es)

pub closes-step : (procs : List (List ℕ)) (took : Option Line) (es : List Effect) → closes true (step_lines procs took es) ≡ true
closes-step procs took [] = refl
closes-step procs took (e ∷ es) =
    closes-both (ended_line (line_text procs took e)) (later_lines procs es) (closes-line true (line_text procs took e)) (closes-later procs es)

closes-left : (c count : ℕ) → closes true (left_text c count) ≡ true
closes-left c count = by_count (count == 0)
  where
    ends : (a b : List ℕ) → closes true (a ++ (b ++ codes "\n")) ≡ true
    ends a b = ap (closes true) (sym (append_assoc a b (codes "\n"))) ∙ closes-line true (a ++ b)

    by_count : (b : Bool) → closes true (cond b [] (codes "left client " ++ (decimal c ++ (codes " " ++ (decimal count ++ codes "\n"))))) ≡ true
    by_count true = refl
    by_count false = ap (λ l. closes true (codes "left client " ++ (decimal c ++ l))) (sym (append_assoc (codes " ") (decimal count) (codes "\n")))
        ∙ ap (λ l. closes true (codes "left client " ++ l)) (sym (append_assoc (decimal c) (codes " " ++ decimal count) (codes "\n")))
        ∙ ends (codes "left client ") (decimal c ++ (codes " " ++ decimal count))

closes-lefts : (c : ℕ) (counts : List ℕ) → closes true (left_texts c counts) ≡ true
closes-lefts c [] = refl
closes-lefts c (count ∷ counts) = closes-both (left_text c count) (left_texts (c + 1) counts) (closes-left c count) (closes-lefts (c + 1) counts)

closes-halt : (turns : ℕ) (h : Halt) → closes true (halt_text turns h) ≡ true
closes-halt turns (halt.Ended status) = refl
closes-halt turns halt.Stuck = refl
closes-halt turns halt.Spent = ap (closes true) (sym (append_assoc (codes "spent ") (decimal turns) (codes "\n")))
    ∙ closes-line true (codes "spent " ++ decimal turns)

pub closes-end : (turns : ℕ) (left : List ℕ) (h : Halt) → closes true (end_text turns left h) ≡ true
closes-end turns left h = closes-both (halt_text turns h) (left_texts 0 left) (closes-halt turns h) (closes-lefts 0 left)

-- ---- what they begin with

-- a line has one newline at least
pub one-line : (a more : List ℕ) → 1 ≤ line_count (ended_line a ++ more)
one-line a more = omega (arith, count-append (ended_line a) more, count-append a (10 ∷ []))

-- ---- whether they tell of a take

-- the first line of a text begins as the text does, where no line ends in what it is to begin with
begins-same : (front x : List ℕ) → AllByRecursion (λ a. is_newline a ≡ false) front → begins_with front (first_lines 1 x) ≡ begins_with front x
begins-same [] x none = refl
begins-same (a ∷ front) [] none = refl
begins-same (a ∷ front) (b ∷ x) none = by_same (a == b) refl (begins-same front x none.1)
  where
    by_same : (t : Bool) → (a == b) ≡ t → begins_with front (first_lines 1 x) ≡ begins_with front x
        → (t && begins_with front (first_lines (cond (is_newline b) 0 1) x)) ≡ (t && begins_with front x)
    by_same true e rest =
        let open_line : is_newline b ≡ false = ap is_newline (sym (eqb-true a b e)) ∙ none.0 in
        ap (λ t. begins_with front (first_lines (cond t 0 1) x)) open_line ∙ rest
    by_same false e rest = refl

first-tells : (x : List ℕ) → tells_take (first_lines 1 x) ≡ tells_take x
first-tells x = ap (λ b. b || begins_with (codes "tick ") (first_lines 1 x)) (begins-same (codes "event ") x (refl, (refl, (refl, (refl, (refl, (refl, tt)))))))
    ∙ ap (λ b. begins_with (codes "event ") x || b) (begins-same (codes "tick ") x (refl, (refl, (refl, (refl, (refl, tt))))))

-- texts with the same first line tell of a take or don't, both
pub tells-same : (a b : List ℕ) → Agree 1 a b → tells_take a ≡ tells_take b
tells-same a b h = sym (first-tells a) ∙ ap tells_take h.same ∙ first-tells b

-- what tells of a take begins with an e or a t
pub tells-head : (a : List ℕ) → tells_take a ≡ true → (head_of a ≡ 101) ⊎ (head_of a ≡ 116)
tells-head [] h = absurd (cc)
tells-head (x ∷ a) h = by_first (101 == x) (116 == x) refl refl h
  where
    by_first : (p q : Bool) → (101 == x) ≡ p → (116 == x) ≡ q
        → ((p && begins_with (codes "vent ") a) || (q && begins_with (codes "ick ") a)) ≡ true → (x ≡ 101) ⊎ (x ≡ 116)
    by_first true q e f h = inl (sym (eqb-true 101 x e))
    by_first false true e f h = inr (sym (eqb-true 116 x f))
    by_first false false e f h = absurd (cc)

-- ---- who speaks

glyph-low : (n : ℕ) → digit_glyph false (n % 10) < 105
glyph-low n = by_test (nat_lt (n % 10) 10)
  where
    by_test : (b : Bool) → cond b (48 + n % 10) (87 + n % 10) < 105
    by_test true = omega arith
    by_test false = omega arith

-- a number begins with no letter, nor does what follows it
onto-low : (k n : ℕ) (acc more : List ℕ) → head_of (acc ++ more) < 105 → head_of (digits_onto k 10 false n acc ++ more) < 105
onto-low zero n acc more low = low
onto-low (suc k) n acc more low = by_test ((n / 10) == 0) (onto-low k (n / 10) (digit_glyph false (n % 10) ∷ acc) more (glyph-low n))
  where
    by_test : (b : Bool) → head_of (digits_onto k 10 false (n / 10) (digit_glyph false (n % 10) ∷ acc) ++ more) < 105
        → head_of (cond b (digit_glyph false (n % 10) ∷ acc) (digits_onto k 10 false (n / 10) (digit_glyph false (n % 10) ∷ acc)) ++ more) < 105
    by_test true rest = glyph-low n
    by_test false rest = rest

decimal-low : (n : ℕ) (more : List ℕ) → head_of more < 105 → head_of (decimal n ++ more) < 105
unfolding digits
decimal-low n more low = onto-low 64 n [] more low

no-tick : (x : List ℕ) → head_of x < 105 → begins_with (codes "ick ") x ≡ false
no-tick [] low = refl
no-tick (b ∷ x) low = ap (λ t. t && begins_with (codes "ck ") x) (ne_eqb 105 b (λ e. omega (arith, e, low)))

-- how a text begins that tells who speaks: with a t or an n, and of no take
abbrev pub Speaking : List ℕ → Type 0
Speaking text = ((head_of text ≡ 116) ⊎ (head_of text ≡ 110)) × (tells_take text ≡ false)

thread-speaks : (t : ℕ) (more : List ℕ) → head_of more < 105 → Speaking (thread_text t ++ more)
thread-speaks t more low = by_null (t == null_id)
  where
    by_null : (b : Bool) → Speaking (cond b (codes "none") (codes "t" ++ decimal t) ++ more)
    by_null true = (inr refl, refl)
    by_null false = (inl refl, no-tick (decimal t ++ more) (decimal-low t more low))

line-speaks : (t : ℕ) (w rest more : List ℕ) → head_of (w ++ 10 ∷ []) < 105 → 1 ≤ line_count (w ++ 10 ∷ [])
    → Speaking ((ended_line (thread_text t ++ w) ++ rest) ++ more)
line-speaks t w rest more low some =
    let behind = (w ++ 10 ∷ []) ++ (rest ++ more) in
    let same : (ended_line (thread_text t ++ w) ++ rest) ++ more ≡ thread_text t ++ behind =
    append_assoc (ended_line (thread_text t ++ w)) rest more
    ∙ ap (λ l. l ++ (rest ++ more)) (append_assoc (thread_text t) w (10 ∷ []))
    ∙ append_assoc (thread_text t) (w ++ 10 ∷ []) (rest ++ more) in
    subst (λ l. Speaking l) (sym same) (thread-speaks t behind (front (w ++ 10 ∷ []) some low))
  where
    front : (a : List ℕ) → 1 ≤ line_count a → head_of a < 105 → head_of (a ++ (rest ++ more)) < 105
    front [] some low = absurd (omega (arith, some))
    front (x ∷ a) some low = low

some-end : (w : List ℕ) → 1 ≤ line_count (w ++ 10 ∷ [])
some-end w = omega (arith, count-append w (10 ∷ []))

-- the first line of a call step tells who speaks
pub call-lines : (procs : List (List ℕ)) (e : Effect) (es : List Effect) (more : List ℕ) → is_spoken e ≡ true
    → Speaking (step_lines procs None (e ∷ es) ++ more)
call-lines procs (effect.Called t c) es more h =
    line-speaks t (codes ": " ++ call_text procs (Some t) c) (later_lines procs es) more (omega arith) (some-end (codes ": " ++ call_text procs (Some t) c))
call-lines procs (effect.Trapped t e) es more h =
    line-speaks t (codes " trap " ++ decimal e) (later_lines procs es) more (omega arith) (some-end (codes " trap " ++ decimal e))
call-lines procs (effect.Answered t a) es more h = absurd (cc)
call-lines procs (effect.Exited t reg x a) es more h = absurd (cc)
call-lines procs (effect.Died t) es more h = absurd (cc)
call-lines procs (effect.Delivered a e) es more h = absurd (cc)
call-lines procs (effect.Ticked now) es more h = absurd (cc)
call-lines procs (effect.Ended status) es more h = absurd (cc)
call-lines procs (effect.Rites a d) es more h = absurd (cc)

pub call-some : (procs : List (List ℕ)) (e : Effect) (es : List Effect) → 1 ≤ line_count (step_lines procs None (e ∷ es))
call-some procs e es = one-line (line_text procs None e) (later_lines procs es)

-- somebody speaks first in these effects
pub record FirstSpoken (effects : List Effect) : Type 0 where
  pub first : Effect
  pub rest : List Effect
  pub are : effects ≡ first ∷ rest
  pub spoken : is_spoken first ≡ true

-- a call of the thread that was chosen is told first
step-called : (s : State) (t : ℕ) (c : Call) → choice s ≡ Some t → (es : List Effect) × ((step s c).effects ≡ effect.Called t c ∷ es)
unfolding step step_by
step-called s t c is = by_choice (choice s) is
  where
    by_choice : (o : Option ℕ) → o ≡ Some t → (es : List Effect) × ((step_if s c o).effects ≡ effect.Called t c ∷ es)
    by_choice None e = absurd (cc)
    by_choice (Some u) e = let same : u ≡ t = cc in
        ((case_of s t c).others ++ (own_effects t (case_of s t c).own ++ end_effects (case_of s t c).after), ap (λ v. (step_if s c (Some v)).effects) same)

called-first : (s : State) (trapped : List Bool) (t : ℕ) (c : Call) (pending : Option ℕ) → choice s ≡ Some t
    → FirstSpoken (after_trap_and_call s trapped t c pending).effects
called-first s trapped t c (Some e) is = record { first = effect.Trapped t e; rest = _; are = refl; spoken = refl }
called-first s trapped t c None is = by_trap (trap_of c)
  where
    by_refusal : (e : ℕ) (o : Option LwpErr) → FirstSpoken (after_trap s trapped t c e o).effects
    by_refusal e None = record { first = effect.Called t c; rest = _; are = refl; spoken = refl }
    by_refusal e (Some why) = record { first = effect.Called t c; rest = _; are = refl; spoken = refl }

    by_agent : (b : Bool) → FirstSpoken (cond b (after_refusal s trapped t c error.InUse) (after_machine_step trapped (step s c))).effects
    by_agent true = record { first = effect.Called t c; rest = _; are = refl; spoken = refl }
    by_agent false = let w = step-called s t c is in record { first = effect.Called t c; rest = w.0; are = w.1; spoken = refl }

    by_trap : (o : Option ℕ) → FirstSpoken (after_call_as s trapped t c o).effects
    by_trap None = by_agent (passes (is_trapped trapped) (agent_event_of c))
    by_trap (Some e) = by_refusal e (trap_refusal s trapped e)

-- a report comes after it
said-first : (s : State) (es : List Effect) (reports : List ℕ) → FirstSpoken es → FirstSpoken (after_rites s es reports).effects
said-first s es reports h = by_armed (is_event_armed s rites_event) reports
  where
    by_armed : (b : Bool) (rs : List ℕ) → FirstSpoken (cond b (after_first_report s es rs) (record { state = s; reports = rs; effects = es })).effects
    by_armed true [] = h
    by_armed true (dead ∷ later) =
        let told = map (as_rites dead) (deliver s rites_event (report_text dead)).effects in
        record { first = h.first; rest = h.rest ++ told; are = ap (λ l. l ++ told) h.are; spoken = h.spoken }
    by_armed false rs = h

pub event-first : (es : EventState) (c : Call) (t : ℕ) → choice es.state ≡ Some t → FirstSpoken (event_step es c).effects
unfolding event_step event_step_by
event-first es c t is = by_choice (choice es.state) is
  where
    by_choice : (o : Option ℕ) → o ≡ Some t → FirstSpoken (event_step_if es c o).effects
    by_choice None e = absurd (cc)
    by_choice (Some u) e =
        let same : u ≡ t = cc in
        let out = after_trap_and_call es.state es.trapped u c es.pending in
        said-first out.state out.effects (reports_after es.state out.state es.reports out.effects)
        (called-first es.state es.trapped u c es.pending (is ∙ ap Some (sym same)))

-- the end begins otherwise, if there is anything
pub end-head : (turns : ℕ) (left : List ℕ) (h : Halt) → 1 ≤ line_count (end_text turns left h)
    → (head_of (end_text turns left h) ≡ 115) ⊎ (head_of (end_text turns left h) ≡ 108)
end-head turns left (halt.Ended status) some = lefts 0 left some
  where
    one_left : (c count : ℕ) (more : List ℕ) (b : Bool) → (1 ≤ line_count more → (head_of more ≡ 115) ⊎ (head_of more ≡ 108))
        → 1 ≤ line_count (cond b [] (codes "left client " ++ (decimal c ++ (codes " " ++ (decimal count ++ codes "\n")))) ++ more)
        → (head_of (cond b [] (codes "left client " ++ (decimal c ++ (codes " " ++ (decimal count ++ codes "\n")))) ++ more) ≡ 115)
        ⊎ (head_of (cond b [] (codes "left client " ++ (decimal c ++ (codes " " ++ (decimal count ++ codes "\n")))) ++ more) ≡ 108)
    one_left c count more true rest some = rest some
    one_left c count more false rest some = inr refl

    lefts : (c : ℕ) (counts : List ℕ) → 1 ≤ line_count (left_texts c counts) → (head_of (left_texts c counts) ≡ 115) ⊎ (head_of (left_texts c counts) ≡ 108)
    lefts c [] some = absurd (omega (arith, some))
    lefts c (count ∷ counts) some = one_left c count (left_texts (c + 1) counts) (count == 0) (lefts (c + 1) counts) some
end-head turns left halt.Stuck some = inl refl
end-head turns left halt.Spent some = inl refl

-- ---- takes

filter-first : {X : Type 0} (p : X → Bool) (xs : List X) (y : X) (ys : List X) → filter p xs ≡ y ∷ ys → p y ≡ true
filter-first p [] y ys h = absurd (cc)
filter-first p (x ∷ xs) y ys h = by_test (p x) refl h (filter-first p xs y ys)
  where
    by_test : (b : Bool) → p x ≡ b → cond b (x ∷ filter p xs) (filter p xs) ≡ y ∷ ys → (filter p xs ≡ y ∷ ys → p y ≡ true) → p y ≡ true
    by_test true e h rest = let same : x ≡ y = cc in subst (λ z. p z ≡ true) same e
    by_test false e h rest = rest h

-- the first effect of a take prints the line of this take
pub record FirstTaken (es : EventState) (e : ℕ) (text : List ℕ) : Type 0 where
  pub first : Effect
  pub rest : List Effect
  pub are : (take_event es e text).effects ≡ first ∷ rest
  pub line : (procs : List (List ℕ)) (line : Line) → line_text procs (Some line) first ≡ take_text es.state.now e line

other-text : (now e : ℕ) (line : Line) → (e == 0) ≡ false → taken_text e line ≡ take_text now e line
other-text now e line h = ap (λ b. cond b (ticked_text (now + 1) line) (taken_text e line)) (sym h)

-- where the clock's event isn't trapped
pub take-first : (es : EventState) (e : ℕ) (text : List ℕ) → is_trapped es.trapped 0 ≡ false → IsTrue (is_takeable es e) → FirstTaken es e text
unfolding take_event deliver for_each and_then
take-first es e text clock may = by_trapped (is_trapped es.trapped e) refl may
  where
    no_clock : (b : Bool) → (e == 0) ≡ b → is_trapped es.trapped e ≡ true → (e == 0) ≡ false
    no_clock true h traps = let same : e ≡ 0 = eqb-true e 0 h in absurd (let bad : true ≡ false = sym traps ∙ ap (is_trapped es.trapped) same ∙ clock in cc)
    no_clock false h traps = h

    by_agents : (rows : List AgentRow) → event_agents es.state.agents e ≡ rows → (e == 0) ≡ false → not (is_empty rows) ≡ true
        → (first : Effect) × (rest : List Effect) × ((for_each (deliver_to text) rows es.state).effects ≡ first ∷ rest)
        × ((procs : List (List ℕ)) (line : Line) → line_text procs (Some line) first ≡ take_text es.state.now e line)
    by_agents [] is off some = absurd (cc)
    by_agents (row ∷ rows) is off some =
        let at : row.event ≡ e = eqb-true row.event e (filter-first (is_for e) es.state.agents row rows is) in (
          effect.Delivered row.number row.event,
          (post (message text row) (record es.state { agents = with_holding row.number true es.state.agents })).effects
              ++ (for_each (deliver_to text) rows (deliver_to text row es.state).after).effects,
          refl,
          λ procs line. ap (λ k. taken_text k line) at ∙ other-text es.state.now e line off,
        )

    both : (p q : Bool) → (p && q) ≡ true → p ≡ true
    both true q h = refl
    both false q h = absurd (cc)

    second : (p q : Bool) → (p && q) ≡ true → q ≡ true
    second true q h = h
    second false q h = absurd (cc)

    by_clock : (b : Bool) → (e == 0) ≡ b → is_event_armed es.state e ≡ true
        → (first : Effect) × (rest : List Effect)
        × ((cond b (tick es.state) (for_each (deliver_to text) (event_agents es.state.agents e) es.state)).effects ≡ first ∷ rest)
        × ((procs : List (List ℕ)) (line : Line) → line_text procs (Some line) first ≡ take_text es.state.now e line)
    by_clock true h waits = (
      effect.Ticked (es.state.now + 1),
      (for_each time_out (due_threads (after_tick es.state)) (after_tick es.state)).effects,
      refl,
      λ procs line. ap (λ b. cond b (ticked_text (es.state.now + 1) line) (taken_text e line)) (sym h),
    )
    by_clock false h waits =
        let go = second (not es.state.ended)
        (cond (e == 0) (may_tick es.state)
        (not (is_empty (event_agents es.state.agents e)) && list_all (λ (row : AgentRow). not row.holding) (event_agents es.state.agents e)))
        waits in
        let is_armed_now = subst
        (λ b. cond b (may_tick es.state)
        (not (is_empty (event_agents es.state.agents e)) && list_all (λ (row : AgentRow). not row.holding) (event_agents es.state.agents e))
        ≡ true)
        h go in
        by_agents (event_agents es.state.agents e) refl h (both (not (is_empty (event_agents es.state.agents e)))
        (list_all (λ (row : AgentRow). not row.holding) (event_agents es.state.agents e)) is_armed_now)

    by_trapped : (b : Bool) → is_trapped es.trapped e ≡ b → cond b (may_trap es) (nat_lt e rites_event && is_event_armed es.state e) ≡ true
        → FirstTaken es e text
    by_trapped true h may = record {
      first = effect.Delivered null_id e;
      rest = [];
      are = ap (λ b. (cond b (after_take_trap es e) (after_pass_on es (deliver es.state e text))).effects) h;
      line = λ procs line. other-text es.state.now e line (no_clock (e == 0) refl h);
    }
    by_trapped false h may =
        let w = by_clock (e == 0) refl (second (nat_lt e rites_event) (is_event_armed es.state e) may) in
        record {
          first = w.0;
          rest = w.1;
          are = ap (λ b. (cond b (after_take_trap es e) (after_pass_on es (deliver es.state e text))).effects) h ∙ w.2;
          line = w.3;
        }

-- ---- lines of takes

-- what follows the client's number
abbrev behind_client : Line → List ℕ → List ℕ
behind_client line more = codes "seq " ++ (decimal line.seq ++ (with_space line.text ++ more))

-- a word, a number, and what a client has posted
posted-shape : (word : List ℕ) (n : ℕ) (line : Line) (more : List ℕ)
    → ended_line (word ++ (decimal n ++ (codes " client " ++ (decimal line.client ++ (codes " seq " ++ (decimal line.seq ++ with_space line.text)))))) ++ more
    ≡ word ++ (decimal n ++ (codes " client " ++ (decimal line.client ++ 32 ∷ behind_client line (10 ∷ more))))
posted-shape word n line more =
    append_assoc
    (word ++ (decimal n ++ (codes " client " ++ (decimal line.client ++ (codes " seq " ++ (decimal line.seq ++ with_space line.text)))))) (10 ∷ []) more
    ∙ append_assoc word (decimal n ++ (codes " client " ++ (decimal line.client ++ (codes " seq " ++ (decimal line.seq ++ with_space line.text))))) (10 ∷ more)
    ∙ ap (λ l. word ++ l) (
    append_assoc (decimal n) (codes " client " ++ (decimal line.client ++ (codes " seq " ++ (decimal line.seq ++ with_space line.text)))) (10 ∷ more)
    ∙ ap (λ l. decimal n ++ (codes " client " ++ l)) (
    append_assoc (decimal line.client) (codes " seq " ++ (decimal line.seq ++ with_space line.text)) (10 ∷ more)
    ∙ ap (λ l. decimal line.client ++ (codes " seq " ++ l)) (append_assoc (decimal line.seq) (with_space line.text) (10 ∷ more))))

-- texts that begin so, with the same first line, tell of the same client
posted-client : (word : List ℕ) (n : ℕ) (line other : Line) (x y : List ℕ) → line_count word ≡ 0 → n < 2 ^ 64 → line.client < 2 ^ 64 → other.client < 2 ^ 64
    → first_lines 1 (word ++ (decimal n ++ (codes " client " ++ (decimal line.client ++ 32 ∷ x))))
    ≡ first_lines 1 (word ++ (decimal n ++ (codes " client " ++ (decimal other.client ++ 32 ∷ y))))
    → line.client ≡ other.client
posted-client word n line other x y none low lc lo h =
    let numbers = agree-behind word (decimal n ++ (codes " client " ++ (decimal line.client ++ 32 ∷ x)))
    (decimal n ++ (codes " client " ++ (decimal other.client ++ 32 ∷ y))) none h in
    let clients = agree-behind (decimal n) (codes " client " ++ (decimal line.client ++ 32 ∷ x))
    (codes " client " ++ (decimal other.client ++ 32 ∷ y)) (decimal-no-line n low) numbers in
    number-split line.client other.client x y lc lo
    (agree-behind (codes " client ") (decimal line.client ++ 32 ∷ x) (decimal other.client ++ 32 ∷ y) refl clients)

-- lines of takes of other events than the clock's
event-client : (e f : ℕ) (line other : Line) (x y : List ℕ) → e < 2 ^ 64 → f < 2 ^ 64 → line.client < 2 ^ 64 → other.client < 2 ^ 64
    → first_lines 1 (ended_line (taken_text e line) ++ x) ≡ first_lines 1 (ended_line (taken_text f other) ++ y) → line.client ≡ other.client
event-client e f line other x y le lf lc lo h =
    let u = behind_client line (10 ∷ x) in
    let v = behind_client other (10 ∷ y) in
    let shaped : first_lines 1 (codes "event " ++ (decimal e ++ (codes " client " ++ (decimal line.client ++ 32 ∷ u))))
    ≡ first_lines 1 (codes "event " ++ (decimal f ++ (codes " client " ++ (decimal other.client ++ 32 ∷ v)))) =
    sym (ap (first_lines 1) (posted-shape (codes "event ") e line x)) ∙ h ∙ ap (first_lines 1) (posted-shape (codes "event ") f other y) in
    let events = agree-behind (codes "event ") (decimal e ++ (codes " client " ++ (decimal line.client ++ 32 ∷ u)))
    (decimal f ++ (codes " client " ++ (decimal other.client ++ 32 ∷ v))) refl shaped in
    let same : e
    ≡ f = number-split e f (codes "client " ++ (decimal line.client ++ 32 ∷ u)) (codes "client " ++ (decimal other.client ++ 32 ∷ v)) le lf events in
    posted-client (codes "event ") e line other u v refl le lc lo
    (shaped ∙ ap (λ k. first_lines 1 (codes "event " ++ (decimal k ++ (codes " client " ++ (decimal other.client ++ 32 ∷ v))))) (sym same))

-- lines of takes that are the same tell of the same client; the clock has ticked equally often
pub take-client : (now e f : ℕ) (line other : Line) (x y : List ℕ) → e < 2 ^ 64 → f < 2 ^ 64 → line.client < 2 ^ 64 → other.client < 2 ^ 64
    → (f ≡ 0 → now + 1 < 2 ^ 64)
    → first_lines 1 (ended_line (take_text now e line) ++ x) ≡ first_lines 1 (ended_line (take_text now f other) ++ y) → line.client ≡ other.client
take-client now e f line other x y le lf lc lo small h = by_clock (e == 0) (f == 0) refl h
  where
    ticks_behind : Line → List ℕ → List ℕ
    ticks_behind l more = codes "ick " ++ (decimal (now + 1) ++ (codes " client " ++ (decimal l.client ++ 32 ∷ behind_client l (10 ∷ more))))

    event_behind : ℕ → Line → List ℕ → List ℕ
    event_behind k l more = codes "vent " ++ (decimal k ++ (codes " client " ++ (decimal l.client ++ 32 ∷ behind_client l (10 ∷ more))))

    by_clock : (a b : Bool) → (f == 0) ≡ b
        → first_lines 1 (ended_line (cond a (ticked_text (now + 1) line) (taken_text e line)) ++ x)
        ≡ first_lines 1 (ended_line (cond b (ticked_text (now + 1) other) (taken_text f other)) ++ y)
        → line.client ≡ other.client
    by_clock true true is h =
        posted-client (codes "tick ") (now + 1) line other (behind_client line (10 ∷ x)) (behind_client other (10 ∷ y)) refl (small (eqb-true f 0 is)) lc lo
        (sym (ap (first_lines 1) (posted-shape (codes "tick ") (now + 1) line x)) ∙ h ∙ ap (first_lines 1) (posted-shape (codes "tick ") (now + 1) other y))
    by_clock true false is h =
        absurd (omega (arith, agree-head 116 101 (ticks_behind line x) (event_behind f other y) (sym (ap (first_lines 1) (posted-shape (codes "tick ") (now + 1) line x)) ∙ h ∙ ap (first_lines 1) (posted-shape (codes "event ") f other y))))
    by_clock false true is h =
        absurd (omega (arith, agree-head 101 116 (event_behind e line x) (ticks_behind other y) (sym (ap (first_lines 1) (posted-shape (codes "event ") e line x)) ∙ h ∙ ap (first_lines 1) (posted-shape (codes "tick ") (now + 1) other y))))
    by_clock false false is h = event-client e f line other x y le lf lc lo h

-- it tells of a take
pub take-tells : (now e : ℕ) (line : Line) (more : List ℕ) → tells_take (ended_line (take_text now e line) ++ more) ≡ true
take-tells now e line more = by_clock (e == 0)
  where
    by_clock : (b : Bool) → tells_take (ended_line (cond b (ticked_text (now + 1) line) (taken_text e line)) ++ more) ≡ true
    by_clock true = ap tells_take (posted-shape (codes "tick ") (now + 1) line more)
    by_clock false = ap tells_take (posted-shape (codes "event ") e line more)
