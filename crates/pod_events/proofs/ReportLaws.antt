-- Each death that is to be reported is, once and in order, as long as somebody hears.
use Rattle.lwp_types.specs.Agents.{deliver, deliver_to, event_agents, is_armed, is_event_armed, is_for, message}
use Rattle.lwp_types.specs.Choice.{choice}
use Rattle.lwp_types.specs.CountLaws.{count-cons, one}
use Rattle.lwp_types.specs.Messages.{as_answer, as_received, post, takes_from, with_holding}
use Rattle.lwp_types.specs.State.{Outcome, State, and_then, for_each, is_agent_row, is_empty, passes, still, thread_of}
use Rattle.lwp_types.specs.Unblock.{unblock}
use Rattle.lwp_types.specs.declared.call.Call.{Call}
use Rattle.lwp_types.specs.declared.call.Effect.{Effect}
use Rattle.lwp_types.specs.declared.rows.AgentRow.{AgentRow}
use Rattle.lwp_types.specs.declared.rows.Letter.{Letter}
use Rattle.lwp_types.specs.declared.call.Effect.TheVariants as effect
use Rattle.pod_events.proofs.Mild.{mild_deliver}
use Rattle.pod_events.proofs.MildCalls.{deaths-append, is_tame, mild_deathless}
use Rattle.pod_events.proofs.Quiet.{IsAside, called-counts, delivery-none, raised_by}
use Rattle.pod_events.specs.Events.{EventOutcome, EventState, after_pass_on, after_take_trap, has_agent, is_trapped, rites_event, take_event}
use Rattle.pod_events.specs.Laws.{EveryAgentIsTold, EveryDeathIsReported, NoReportWaits, NobodyHearsNothing, reports_due, reports_due_of_move}
use Rattle.pod_events.specs.Laws.{dead_reported, deaths_reported, reports_of_moves, reports_of_call}
use Rattle.pod_events.specs.Moves.{EventMove, ToCall, ToTake, after_moves, event_move}
use Rattle.pod_events.specs.Rites.{Reporting, after_first_report, as_rites, dead_to_report, deaths, report_text, reports_after, after_rites}
use Rattle.pod_events.specs.Step.{event_step, event_step_by, event_step_if}
use Rattle.pod_events.specs.Traps.{after_trap_and_call}
use Rattle.std.proofs.Common.{Bool, List, None, Option, Some, [], ap, arith, cond, count_by, false, map}
use Rattle.std.proofs.Common.{not, refl, subst, sym, take, true, ℕ, ◌&&◌, ◌++◌, ◌∙◌, ◌∷◌, ◌≡◌, ◌||◌}
use Rattle.std.proofs.lemmas.Bool.{and_parts, eq-eqb, or_right}
use Rattle.std.proofs.lemmas.List.{append-nil, append_assoc}
use Rattle.std.specs.List.{list_all, list_any}
use Rattle.std.specs.Prelude.{is_some}

-- the effect is a report
abbrev is_rites : Effect → Bool
is_rites x = is_some (dead_reported x)

aside : IsAside is_rites
aside = record { tame = tame; no_call = λ t c. refl; no_end = λ status. refl }
  where
    tame : (x : Effect) → is_tame x ≡ true → is_rites x ≡ false
    tame (effect.Called t c) h = refl
    tame (effect.Answered t a) h = refl
    tame (effect.Exited t reg c a) h = refl
    tame (effect.Died t) h = refl
    tame (effect.Delivered a f) h = refl
    tame (effect.Ticked now) h = refl
    tame (effect.Ended status) h = refl
    tame (effect.Trapped t f) h = refl
    tame (effect.Rites a d) h = absurd (cc)

reported-none : (es : List Effect) → count_by is_rites es ≡ 0 → deaths_reported es ≡ []
reported-none [] none = refl
reported-none (x ∷ xs) none = by_effect x (omega (arith, none, count-cons is_rites x xs)) (reported-none xs (omega (arith, none, count-cons is_rites x xs)))
  where
    by_effect : (x : Effect) → one (is_rites x) ≡ 0 → deaths_reported xs ≡ [] → deaths_reported (x ∷ xs) ≡ []
    by_effect (effect.Called t c) h rest = rest
    by_effect (effect.Answered t a) h rest = rest
    by_effect (effect.Exited t reg c a) h rest = rest
    by_effect (effect.Died t) h rest = rest
    by_effect (effect.Delivered a f) h rest = rest
    by_effect (effect.Ticked now) h rest = rest
    by_effect (effect.Ended status) h rest = rest
    by_effect (effect.Trapped t f) h rest = rest
    by_effect (effect.Rites a d) h rest = absurd (omega (arith, h))

reported-append : (xs ys : List Effect) → deaths_reported (xs ++ ys) ≡ deaths_reported xs ++ deaths_reported ys
reported-append [] ys = refl
reported-append (x ∷ xs) ys = by_effect x (reported-append xs ys)
  where
    by_effect : (x : Effect) → deaths_reported (xs ++ ys) ≡ deaths_reported xs ++ deaths_reported ys
        → deaths_reported (x ∷ (xs ++ ys)) ≡ deaths_reported (x ∷ xs) ++ deaths_reported ys
    by_effect (effect.Called t c) rest = rest
    by_effect (effect.Answered t a) rest = rest
    by_effect (effect.Exited t reg c a) rest = rest
    by_effect (effect.Died t) rest = rest
    by_effect (effect.Delivered a f) rest = rest
    by_effect (effect.Ticked now) rest = rest
    by_effect (effect.Ended status) rest = rest
    by_effect (effect.Trapped t f) rest = rest
    by_effect (effect.Rites a d) rest = ap (λ ns. d ∷ ns) rest

rites-deaths : (dead : ℕ) (es : List Effect) → deaths (map (as_rites dead) es) ≡ deaths es
rites-deaths dead [] = refl
rites-deaths dead (x ∷ xs) = by_effect x (rites-deaths dead xs)
  where
    by_effect : (x : Effect) → deaths (map (as_rites dead) xs) ≡ deaths xs → deaths (as_rites dead x ∷ map (as_rites dead) xs) ≡ deaths (x ∷ xs)
    by_effect (effect.Called t c) rest = rest
    by_effect (effect.Answered t a) rest = rest
    by_effect (effect.Exited t reg c a) rest = rest
    by_effect (effect.Died t) rest = ap (λ ns. t ∷ ns) rest
    by_effect (effect.Delivered a f) rest = rest
    by_effect (effect.Ticked now) rest = rest
    by_effect (effect.Ended status) rest = rest
    by_effect (effect.Trapped t f) rest = rest
    by_effect (effect.Rites a d) rest = rest

-- the delivery of an event that is armed: the two lemmas that look into it

-- it begins with a delivery
record Begins (es : List Effect) : Type 0 where
  pub agent : ℕ
  pub event : ℕ
  pub rest : List Effect
  pub splits : es ≡ effect.Delivered agent event ∷ rest

armed-delivers : (s : State) (text : List ℕ) → is_event_armed s rites_event ≡ true → Begins (deliver s rites_event text).effects
unfolding deliver and_then for_each
armed-delivers s text arms = by_agents (event_agents s.agents rites_event) (and_parts (not s.ended) (is_armed s.agents rites_event) arms).1
  where
    by_agents : (rows : List AgentRow) → (not (is_empty rows) && list_all (λ row. not row.holding) rows) ≡ true
        → Begins (for_each (deliver_to text) rows s).effects
    by_agents [] h = absurd (cc)
    by_agents (row ∷ rows) h = record { agent = row.number; event = row.event; rest = _; splits = refl }

-- a thread that has an agent keeps it
holding-heard : (a e : ℕ) (rows : List AgentRow) → list_any (is_for e) (with_holding a true rows) ≡ list_any (is_for e) rows
holding-heard a e [] = refl
holding-heard a e (row ∷ rows) = ap (λ b. is_for e row || b) (holding-heard a e rows)

post-agents : (letter : Letter) (s : State) → (post letter s).after.agents ≡ s.agents
post-agents letter s = by_taken (passes (λ row. takes_from letter.from row.block) (thread_of s letter.to))
  where
    by_taken : (b : Bool) → (cond {A = Outcome} b
        (unblock (as_answer letter) letter.to (record s { letters = s.letters ++ as_received letter ∷ [] }))
        (still (record s { letters = s.letters ++ letter ∷ [] }))).after.agents ≡ s.agents
    by_taken true = refl
    by_taken false = refl

deliver_to-heard : (text : List ℕ) (row : AgentRow) (s : State) (f : ℕ) → has_agent (deliver_to text row s).after f ≡ has_agent s f
unfolding and_then
deliver_to-heard text row s f = ap (list_any (is_for f)) (post-agents (message text row) (record s { agents = with_holding row.number true s.agents }))
    ∙ holding-heard row.number f s.agents

each-heard : (text : List ℕ) (rows : List AgentRow) (s : State) (f : ℕ) → has_agent (for_each (deliver_to text) rows s).after f ≡ has_agent s f
unfolding and_then for_each
each-heard text [] s f = refl
each-heard text (row ∷ rows) s f = each-heard text rows (deliver_to text row s).after f ∙ deliver_to-heard text row s f

deliver-heard : (s : State) (text : List ℕ) (f : ℕ) → has_agent (deliver s rites_event text).after f ≡ has_agent s f
unfolding deliver
deliver-heard s text f = each-heard text (event_agents s.agents rites_event) s f

-- what a report does

first-told : (dead : ℕ) (es : List Effect) → Begins es → take 1 (deaths_reported (map (as_rites dead) es)) ≡ dead ∷ []
first-told dead es begins = ap (λ xs. take 1 (deaths_reported (map (as_rites dead) xs))) begins.splits

said-told : (s : State) (es : List Effect) (reports : List ℕ) → deaths_reported es ≡ []
    → reports ≡ reports_of_call (after_rites s es reports).effects ++ (after_rites s es reports).reports
said-told s es reports none = by_armed (is_event_armed s rites_event) refl reports
  where
    by_armed : (b : Bool) → is_event_armed s rites_event ≡ b → (rs : List ℕ)
        → rs
        ≡ reports_of_call (cond b (after_first_report s es rs) (record { state = s; reports = rs; effects = es })).effects
        ++ (cond b (after_first_report s es rs) (record { state = s; reports = rs; effects = es })).reports
    by_armed true arms [] = sym (ap (λ ns. take 1 ns ++ []) none)
    by_armed true arms (dead ∷ later) = sym (
        ap (λ ns. take 1 ns ++ later) (reported-append es (map (as_rites dead) (deliver s rites_event (report_text dead)).effects)
        ∙ ap (λ ns. ns ++ deaths_reported (map (as_rites dead) (deliver s rites_event (report_text dead)).effects)) none)
        ∙ ap (λ ns. ns ++ later) (first-told dead (deliver s rites_event (report_text dead)).effects (armed-delivers s (report_text dead) arms)))
    by_armed false arms rs = sym (ap (λ ns. take 1 ns ++ rs) none)

said-deaths : (s : State) (es : List Effect) (reports : List ℕ) → deaths (after_rites s es reports).effects ≡ deaths es
said-deaths s es reports = by_armed (is_event_armed s rites_event) reports
  where
    by_armed : (b : Bool) (rs : List ℕ) → deaths (cond b (after_first_report s es rs) (record { state = s; reports = rs; effects = es })).effects ≡ deaths es
    by_armed true [] = refl
    by_armed true (dead ∷ later) =
        deaths-append es (map (as_rites dead) (deliver s rites_event (report_text dead)).effects)
        ∙ ap (λ ns. deaths es ++ ns) (rites-deaths dead (deliver s rites_event (report_text dead)).effects
        ∙ mild_deathless (deliver s rites_event (report_text dead)).effects (mild_deliver s rites_event (report_text dead)).tells)
        ∙ append-nil (deaths es)
    by_armed false rs = refl

said-heard : (s : State) (es : List Effect) (reports : List ℕ) (f : ℕ) → has_agent (after_rites s es reports).state f ≡ has_agent s f
said-heard s es reports f = by_armed (is_event_armed s rites_event) reports
  where
    by_armed : (b : Bool) (rs : List ℕ)
        → has_agent (cond b (after_first_report s es rs) (record { state = s; reports = rs; effects = es })).state f ≡ has_agent s f
    by_armed true [] = refl
    by_armed true (dead ∷ later) = deliver-heard s (report_text dead) f
    by_armed false rs = refl

said-nothing : (s : State) (es : List Effect) → (after_rites s es []).reports ≡ []
said-nothing s es = by_armed (is_event_armed s rites_event)
  where
    by_armed : (b : Bool) → (cond b (after_first_report s es []) (record { state = s; reports = []; effects = es })).reports ≡ []
    by_armed true = refl
    by_armed false = refl

-- the machine's own part of a call reports nothing
called-silent : (s : State) (trapped : List Bool) (t : ℕ) (c : Call) (pending : Option ℕ)
    → deaths_reported (after_trap_and_call s trapped t c pending).effects ≡ []
called-silent s trapped t c pending =
    reported-none (after_trap_and_call s trapped t c pending).effects (called-counts is_rites aside s trapped t c pending ∙ none pending)
  where
    none : (o : Option ℕ) → raised_by is_rites aside t o ≡ 0
    none None = refl
    none (Some e) = refl

-- one move

step-told : (es : EventState) (c : Call) → has_agent (event_step es c).after.state rites_event ≡ true
    → es.reports ++ dead_to_report es.state (deaths (event_step es c).effects) ≡ reports_of_call (event_step es c).effects ++ (event_step es c).after.reports
unfolding event_step event_step_by
step-told es c heard = by_choice (choice es.state) heard
  where
    by_choice : (o : Option ℕ) → has_agent (event_step_if es c o).after.state rites_event ≡ true
        → es.reports ++ dead_to_report es.state (deaths (event_step_if es c o).effects)
        ≡ reports_of_call (event_step_if es c o).effects ++ (event_step_if es c o).after.reports
    by_choice None heard = append-nil es.reports
    by_choice (Some t) heard = by_out (after_trap_and_call es.state es.trapped t c es.pending).state
        (after_trap_and_call es.state es.trapped t c es.pending).effects heard (called-silent es.state es.trapped t c es.pending)
      where
        by_out : (s : State) (ef : List Effect)
            → has_agent (after_rites s ef (reports_after es.state s es.reports ef)).state rites_event ≡ true → deaths_reported ef ≡ []
            → es.reports ++ dead_to_report es.state (deaths (after_rites s ef (reports_after es.state s es.reports ef)).effects)
            ≡ reports_of_call (after_rites s ef (reports_after es.state s es.reports ef)).effects
            ++ (after_rites s ef (reports_after es.state s es.reports ef)).reports
        by_out s ef heard none =
            ap (λ ds. es.reports ++ dead_to_report es.state ds) (said-deaths s ef (reports_after es.state s es.reports ef))
            ∙ sym (ap (λ b. cond b (es.reports ++ dead_to_report es.state (deaths ef)) [])
            (sym (said-heard s ef (reports_after es.state s es.reports ef) rites_event) ∙ heard))
            ∙ said-told s ef (reports_after es.state s es.reports ef) none

take-told : (es : EventState) (e : ℕ) (text : List ℕ)
    → es.reports ++ dead_to_report es.state (deaths (take_event es e text).effects)
    ≡ reports_of_call (take_event es e text).effects ++ (take_event es e text).after.reports
unfolding take_event
take-told es e text = by_trapped (is_trapped es.trapped e)
  where
    by_trapped : (b : Bool)
        → es.reports ++ dead_to_report es.state (deaths (cond b (after_take_trap es e) (after_pass_on es (deliver es.state e text))).effects)
        ≡ reports_of_call (cond b (after_take_trap es e) (after_pass_on es (deliver es.state e text))).effects
        ++ (cond b (after_take_trap es e) (after_pass_on es (deliver es.state e text))).after.reports
    by_trapped true = append-nil es.reports
    by_trapped false =
        ap (λ ds. es.reports ++ dead_to_report es.state ds) (mild_deathless (deliver es.state e text).effects (mild_deliver es.state e text).tells)
        ∙ append-nil es.reports
        ∙ sym (ap (λ ns. take 1 ns ++ es.reports) (reported-none (deliver es.state e text).effects (delivery-none is_rites aside es.state e text)))

move-told : (es : EventState) (move : EventMove) → has_agent (event_move es move).after.state rites_event ≡ true
    → es.reports ++ reports_due_of_move es move ≡ reports_of_call (event_move es move).effects ++ (event_move es move).after.reports
move-told es (ToCall c) heard = step-told es c heard
move-told es (ToTake e text) heard = take-told es e text

pub every_death_is_reported : EveryDeathIsReported
every_death_is_reported [] es heard = append-nil es.reports
every_death_is_reported (move ∷ moves) es heard =
    sym (append_assoc es.reports (reports_due_of_move es move) (reports_due moves (event_move es move).after))
    ∙ ap (λ ns. ns ++ reports_due moves (event_move es move).after) (move-told es move heard.0)
    ∙ append_assoc (reports_of_call (event_move es move).effects) (event_move es move).after.reports (reports_due moves (event_move es move).after)
    ∙ ap (λ ns. reports_of_call (event_move es move).effects ++ ns) (every_death_is_reported moves (event_move es move).after heard.1)
    ∙ sym (append_assoc (reports_of_call (event_move es move).effects) (reports_of_moves moves (event_move es move).after)
    (after_moves moves (event_move es move).after).reports)

pub nobody_hears_nothing : NobodyHearsNothing
unfolding event_step event_step_by
nobody_hears_nothing es c t chosen silent =
    let out = after_trap_and_call es.state es.trapped t c es.pending in
    let whole = ap (event_step_if es c) chosen in
    let none = sym (said-heard out.state out.effects (reports_after es.state out.state es.reports out.effects) rites_event)
    ∙ sym (ap (λ (o : EventOutcome). has_agent o.after.state rites_event) whole) ∙ silent in
    ap (λ (o : EventOutcome). o.after.reports) whole
    ∙ ap (λ b. (after_rites out.state out.effects (cond b (es.reports ++ dead_to_report es.state (deaths out.effects)) [])).reports) none
    ∙ said-nothing out.state out.effects

-- what a report that is said comes to
record Says (s : State) (es : List Effect) (told : Reporting) (dead : ℕ) : Type 0 where
  pub waits : is_event_armed s rites_event ≡ true
  pub after : told.state ≡ (deliver s rites_event (report_text dead)).after
  pub effects : told.effects ≡ es ++ map (as_rites dead) (deliver s rites_event (report_text dead)).effects

said-says : (s : State) (es : List Effect) (reports : List ℕ) (dead : ℕ) → deaths_reported es ≡ []
    → reports_of_call (after_rites s es reports).effects ≡ dead ∷ [] → Says s es (after_rites s es reports) dead
said-says s es reports dead none said = by_armed (is_event_armed s rites_event) refl reports said
  where
    nothing : reports_of_call es ≡ dead ∷ [] → ⊥
    nothing h = let empty : reports_of_call es ≡ [] = ap (take 1) none in cc

    by_armed : (b : Bool) → is_event_armed s rites_event ≡ b → (rs : List ℕ)
        → reports_of_call (cond b (after_first_report s es rs) (record { state = s; reports = rs; effects = es })).effects ≡ dead ∷ []
        → Says s es (cond b (after_first_report s es rs) (record { state = s; reports = rs; effects = es })) dead
    by_armed true arms [] h = absurd (nothing h)
    by_armed true arms (d ∷ later) h =
        let sent = deliver s rites_event (report_text d) in
        let first : reports_of_call (es ++ map (as_rites d) sent.effects) ≡ d ∷ [] =
        ap (take 1) (reported-append es (map (as_rites d) sent.effects) ∙ ap (λ ns. ns ++ deaths_reported (map (as_rites d) sent.effects)) none)
        ∙ first-told d sent.effects (armed-delivers s (report_text d) arms) in
        let same : d ≡ dead = cc in
        subst (λ n. Says s es (record {
          state = (deliver s rites_event (report_text d)).after;
          reports = later;
          effects = es ++ map (as_rites d) (deliver s rites_event (report_text d)).effects;
        }) n)
        same (record { waits = arms; after = refl; effects = refl })
    by_armed false arms rs h = absurd (nothing h)

pub every_agent_is_told : EveryAgentIsTold
unfolding event_step event_step_by
every_agent_is_told es c t dead chosen told =
    let out = after_trap_and_call es.state es.trapped t c es.pending in
    let whole = ap (event_step_if es c) chosen in
    let says = said-says out.state out.effects (reports_after es.state out.state es.reports out.effects) dead (called-silent es.state es.trapped t c es.pending)
    (sym (ap (λ (o : EventOutcome). reports_of_call o.effects) whole) ∙ told) in
    record {
      before = out.effects;
      at = out.state;
      waits = says.waits;
      after = ap (λ (o : EventOutcome). o.after.state) whole ∙ says.after;
      effects = ap (λ (o : EventOutcome). o.effects) whole ∙ says.effects;
      silent = called-silent es.state es.trapped t c es.pending;
    }

-- an agent of the event holds a message
abbrev is_busy : ℕ → AgentRow → Bool
is_busy e row = is_for e row && row.holding

-- an agent that holds one still does when another is given one
holding-busy : (a e : ℕ) (rows : List AgentRow) → list_any (is_busy e) rows ≡ true → list_any (is_busy e) (with_holding a true rows) ≡ true
holding-busy a e [] busy = absurd (cc)
holding-busy a e (row ∷ rows) busy = by_tests (is_for e row) row.holding (is_agent_row a row) busy (holding-busy a e rows)
  where
    by_tests : (f h k : Bool) → ((f && h) || list_any (is_busy e) rows) ≡ true
        → (list_any (is_busy e) rows ≡ true → list_any (is_busy e) (with_holding a true rows) ≡ true)
        → ((f && cond k true h) || list_any (is_busy e) (with_holding a true rows)) ≡ true
    by_tests true true true at rest = refl
    by_tests true true false at rest = refl
    by_tests true false true at rest = refl
    by_tests true false false at rest = rest at
    by_tests false h k at rest = rest at

-- the first of an event's agents holds one then
first-busy : (e : ℕ) (rows : List AgentRow) (row : AgentRow) (others : List AgentRow) → event_agents rows e ≡ row ∷ others
    → list_any (is_busy e) (with_holding row.number true rows) ≡ true
first-busy e [] row others found = absurd (cc)
first-busy e (x ∷ rows) row others found = by_test (is_for e x) refl found (first-busy e rows row others)
  where
    by_test : (b : Bool) → is_for e x ≡ b → cond b (x ∷ event_agents rows e) (event_agents rows e) ≡ row ∷ others
        → (event_agents rows e ≡ row ∷ others → list_any (is_busy e) (with_holding row.number true rows) ≡ true)
        → list_any (is_busy e) (with_holding row.number true (x ∷ rows)) ≡ true
    by_test true is at rest =
        let same : x ≡ row = cc in
        ap (λ b. (b && cond (is_agent_row row.number x) true x.holding) || list_any (is_busy e) (with_holding row.number true rows)) is
        ∙ ap (λ b. cond b true x.holding || list_any (is_busy e) (with_holding row.number true rows))
        (eq-eqb x.number row.number (ap (λ (r : AgentRow). r.number) same))
    by_test false is at rest =
        or_right (is_for e x && cond (is_agent_row row.number x) true x.holding) (list_any (is_busy e) (with_holding row.number true rows)) (rest at)

-- an event of which one agent holds a message isn't armed
busy-unarmed : (e : ℕ) (rows : List AgentRow) → list_any (is_busy e) rows ≡ true → is_armed rows e ≡ false
busy-unarmed e rows busy = ap (λ b. not (is_empty (event_agents rows e)) && b) (some_holds rows busy) ∙ and_false (not (is_empty (event_agents rows e)))
  where
    and_false : (b : Bool) → (b && false) ≡ false
    and_false true = refl
    and_false false = refl

    some_holds : (rows : List AgentRow) → list_any (is_busy e) rows ≡ true → list_all (λ row. not row.holding) (event_agents rows e) ≡ false
    some_holds [] busy = absurd (cc)
    some_holds (row ∷ rows) busy = by_tests (is_for e row) row.holding refl busy (some_holds rows)
      where
        by_tests : (f h : Bool) → row.holding ≡ h → ((f && h) || list_any (is_busy e) rows) ≡ true
            → (list_any (is_busy e) rows ≡ true → list_all (λ row. not row.holding) (event_agents rows e) ≡ false)
            → list_all (λ row. not row.holding) (cond f (row ∷ event_agents rows e) (event_agents rows e)) ≡ false
        by_tests true true is at rest = ap (λ b. not b && list_all (λ row. not row.holding) (event_agents rows e)) is
        by_tests true false is at rest = ap (λ b. not b && list_all (λ row. not row.holding) (event_agents rows e)) is ∙ rest at
        by_tests false h is at rest = rest at

each-busy : (text : List ℕ) (rows : List AgentRow) (s : State) (e : ℕ) → list_any (is_busy e) s.agents ≡ true
    → list_any (is_busy e) (for_each (deliver_to text) rows s).after.agents ≡ true
unfolding and_then for_each
each-busy text [] s e busy = busy
each-busy text (row ∷ rows) s e busy = each-busy text rows (deliver_to text row s).after e
    (ap (list_any (is_busy e)) (post-agents (message text row) (record s { agents = with_holding row.number true s.agents }))
    ∙ holding-busy row.number e s.agents busy)

-- an event isn't armed once it was delivered
delivered-unarmed : (s : State) (text : List ℕ) → is_event_armed s rites_event ≡ true → is_event_armed (deliver s rites_event text).after rites_event ≡ false
unfolding deliver and_then for_each
delivered-unarmed s text arms =
    ap (λ b. not (deliver s rites_event text).after.ended && b) (busy-unarmed rites_event (deliver s rites_event text).after.agents
    (by_agents (event_agents s.agents rites_event) refl (and_parts (not s.ended) (is_armed s.agents rites_event) arms).1))
    ∙ and_false (not (deliver s rites_event text).after.ended)
  where
    and_false : (b : Bool) → (b && false) ≡ false
    and_false true = refl
    and_false false = refl

    by_agents : (rows : List AgentRow) → event_agents s.agents rites_event ≡ rows → (not (is_empty rows) && list_all (λ row. not row.holding) rows) ≡ true
        → list_any (is_busy rites_event) (for_each (deliver_to text) rows s).after.agents ≡ true
    by_agents [] found h = absurd (cc)
    by_agents (row ∷ rows) found h = each-busy text rows (deliver_to text row s).after rites_event
        (ap (list_any (is_busy rites_event)) (post-agents (message text row) (record s { agents = with_holding row.number true s.agents }))
        ∙ first-busy rites_event s.agents row rows found)

said-waits : (s : State) (es : List Effect) (reports : List ℕ) → is_event_armed (after_rites s es reports).state rites_event ≡ true
    → (after_rites s es reports).reports ≡ []
said-waits s es reports arms = by_armed (is_event_armed s rites_event) refl reports arms
  where
    by_armed : (b : Bool) → is_event_armed s rites_event ≡ b → (rs : List ℕ)
        → is_event_armed (cond b (after_first_report s es rs) (record { state = s; reports = rs; effects = es })).state rites_event ≡ true
        → (cond b (after_first_report s es rs) (record { state = s; reports = rs; effects = es })).reports ≡ []
    by_armed true was [] h = refl
    by_armed true was (dead ∷ later) h = let never = delivered-unarmed s (report_text dead) was in absurd (cc (h, never))
    by_armed false was rs h = absurd (cc)

pub no_report_waits : NoReportWaits
unfolding event_step event_step_by
no_report_waits es c t chosen arms =
    let out = after_trap_and_call es.state es.trapped t c es.pending in
    let whole = ap (event_step_if es c) chosen in
    ap (λ (o : EventOutcome). o.after.reports) whole
    ∙ said-waits out.state out.effects (reports_after es.state out.state es.reports out.effects)
    (sym (ap (λ (o : EventOutcome). is_event_armed o.after.state rites_event) whole) ∙ arms)
