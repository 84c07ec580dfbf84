-- Each death that is to be reported comes in its turn.
use Rattle.lwp_types.specs.Agents.{deliver, deliver_to, event_agents, is_for, message}
use Rattle.lwp_types.specs.Choice.{choice}
use Rattle.lwp_types.specs.Messages.{as_answer, as_received, post, takes_from, with_holding}
use Rattle.lwp_types.specs.State.{Outcome, State, and_then, for_each, passes, still, thread_of}
use Rattle.lwp_types.specs.Time.{after_tick, due_threads, tick, time_out}
use Rattle.lwp_types.specs.Unblock.{unblock}
use Rattle.lwp_types.specs.declared.call.Call.{Call}
use Rattle.lwp_types.specs.declared.call.Effect.{Effect}
use Rattle.lwp_types.specs.declared.rows.AgentRow.{AgentRow}
use Rattle.lwp_types.specs.declared.rows.Letter.{Letter}
use Rattle.lwp_types.specs.declared.call.Effect.TheVariants as effect
use Rattle.pod_events.proofs.Mild.{mild_deliver}
use Rattle.pod_events.proofs.MildCalls.{is_tame, mild_deathless, mild_tame}
use Rattle.pod_events.proofs.ReportLaws.{every_agent_is_told, every_death_is_reported, no_report_waits, nobody_hears_nothing}
use Rattle.pod_events.specs.Events.{EventOutcome, EventState, after_pass_on, after_take_trap, has_agent, is_trapped, rites_event, take_event}
use Rattle.pod_events.specs.Laws.{can_move, deaths_reported, reports_due_of_move, reports_of_call}
use Rattle.pod_events.specs.Moves.{EventMove, ToCall, ToTake, event_move}
use Rattle.pod_events.specs.Rites.{deaths}
use Rattle.pod_events.specs.Step.{event_step, event_step_if}
use Rattle.promise_laws.proofs.Steps.{CanGo, Kept, in_sessions}
use Rattle.promise_laws.specs.EachStep.{InEachStep}
use Rattle.promise_laws.specs.Reports.{ComesInTurn, IsToldBy, LeavesReports, LineMoves, ReportsComeInTurn, ReportsDeaths, ReportsInCall, WaitsOnlyWhereHeard}
use Rattle.session_laws.specs.StepByStep.{SessionsAreStepwise}
use Rattle.std.proofs.Common.{Bool, List, None, Option, Some, [], ap, append-nil, cond, eqb, false, refl, subst}
use Rattle.std.proofs.Common.{suc, sym, take, true, zero, ℕ, ◌++◌, ◌∙◌, ◌∷◌, ◌≡◌, ◌||◌}
use Rattle.std.proofs.lemmas.Bool.{and_parts}
use Rattle.std.specs.List.{list_all, list_any}
use Rattle.std.specs.Prelude.{MatchBool, slice_get}

-- ---- a take

-- a delivery leaves the agents of each event

holding_heard : (a f : ℕ) (rows : List AgentRow) → list_any (is_for f) (with_holding a true rows) ≡ list_any (is_for f) rows
holding_heard a f [] = refl
holding_heard a f (row ∷ rows) = ap (λ b. is_for f row || b) (holding_heard a f rows)

post_agents : (letter : Letter) (s : State) → (post letter s).after.agents ≡ s.agents
post_agents letter s = by_taken (passes (λ row. takes_from letter.from row.block) (thread_of s letter.to))
  where
    by_taken : (b : Bool) → (cond {A = Outcome} b
        (unblock (as_answer letter) letter.to (record s { letters = s.letters ++ as_received letter ∷ [] }))
        (still (record s { letters = s.letters ++ letter ∷ [] }))).after.agents ≡ s.agents
    by_taken true = refl
    by_taken false = refl

deliver_to_heard : (text : List ℕ) (row : AgentRow) (s : State) (f : ℕ) → has_agent (deliver_to text row s).after f ≡ has_agent s f
unfolding and_then
deliver_to_heard text row s f = ap (list_any (is_for f)) (post_agents (message text row) (record s { agents = with_holding row.number true s.agents }))
    ∙ holding_heard row.number f s.agents

each_heard : (text : List ℕ) (rows : List AgentRow) (s : State) (f : ℕ) → has_agent (for_each (deliver_to text) rows s).after f ≡ has_agent s f
unfolding and_then for_each
each_heard text [] s f = refl
each_heard text (row ∷ rows) s f = each_heard text rows (deliver_to text row s).after f ∙ deliver_to_heard text row s f

times_heard : (ts : List ℕ) (s : State) (f : ℕ) → has_agent (for_each time_out ts s).after f ≡ has_agent s f
unfolding and_then for_each
times_heard [] s f = refl
times_heard (t ∷ ts) s f = times_heard ts (time_out t s).after f

tick_heard : (s : State) (f : ℕ) → has_agent (tick s).after f ≡ has_agent s f
unfolding and_then
tick_heard s f = times_heard (due_threads (after_tick s)) (after_tick s) f

deliver_heard : (s : State) (e : ℕ) (text : List ℕ) (f : ℕ) → has_agent (deliver s e text).after f ≡ has_agent s f
unfolding deliver
deliver_heard s e text f = by_clock (eqb e 0)
  where
    by_clock : (b : Bool) → has_agent (cond b (tick s) (for_each (deliver_to text) (event_agents s.agents e) s)).after f ≡ has_agent s f
    by_clock true = tick_heard s f
    by_clock false = each_heard text (event_agents s.agents e) s f

-- what tells of no report
tame_silent : (es : List Effect) → list_all is_tame es ≡ true → deaths_reported es ≡ []
tame_silent [] tame = refl
tame_silent (x ∷ xs) tame =
    let parts = and_parts (is_tame x) (list_all is_tame xs) tame in
    by_effect x parts.0 (tame_silent xs parts.1)
  where
    by_effect : (x : Effect) → is_tame x ≡ true → deaths_reported xs ≡ [] → deaths_reported (x ∷ xs) ≡ []
    by_effect (effect.Called t c) h rest = rest
    by_effect (effect.Answered t a) h rest = rest
    by_effect (effect.Exited t reg c a) h rest = rest
    by_effect (effect.Died t) h rest = rest
    by_effect (effect.Delivered a f) h rest = rest
    by_effect (effect.Ticked now) h rest = rest
    by_effect (effect.Ended status) h rest = rest
    by_effect (effect.Trapped t f) h rest = rest
    by_effect (effect.Rites a d) h rest = absurd (cc)

record Left (pod after : EventState) (es : List Effect) : Type 0 where
  none_reported : reports_of_call es ≡ []
  none_dies : deaths es ≡ []
  same : after.reports ≡ pod.reports

take_left : (pod : EventState) (e : ℕ) (text : List ℕ) → Left pod (take_event pod e text).after (take_event pod e text).effects
unfolding take_event
take_left pod e text = by_trapped (is_trapped pod.trapped e)
  where
    by_trapped : (b : Bool)
        → Left pod (cond b (after_take_trap pod e) (after_pass_on pod (deliver pod.state e text))).after
        (cond b (after_take_trap pod e) (after_pass_on pod (deliver pod.state e text))).effects
    by_trapped true = record { none_reported = refl; none_dies = refl; same = refl }
    by_trapped false =
        let mild = (mild_deliver pod.state e text).tells in
        let es = (deliver pod.state e text).effects in
        record { none_reported = ap (take 1) (tame_silent es (mild_tame es mild)); none_dies = mild_deathless es mild; same = refl }

leaves_reports : (pod : EventState) (e : ℕ) (text : List ℕ) → LeavesReports pod e text
leaves_reports pod e text =
    let its = take_left pod e text in
    record { none_reported = its.none_reported; none_dies = its.none_dies; same = its.same }

-- ---- where nobody hears nothing waits

call_idle : (pod : EventState) (c : Call) → choice pod.state ≡ None → event_step pod c ≡ record { after = pod; effects = [] }
unfolding event_step
call_idle pod c is = ap (event_step_if pod c) is

call_heard : (pod : EventState) → WaitsOnlyWhereHeard pod → (c : Call) → WaitsOnlyWhereHeard (event_step pod c).after
call_heard pod stands c = by_choice (choice pod.state) refl
  where
    by_choice : (o : Option ℕ) → choice pod.state ≡ o → WaitsOnlyWhereHeard (event_step pod c).after
    by_choice None is = subst WaitsOnlyWhereHeard (sym (ap (λ (out : EventOutcome). out.after) (call_idle pod c is))) stands
    by_choice (Some t) is = λ silent. nobody_hears_nothing pod c t is silent

take_heard : (pod : EventState) → WaitsOnlyWhereHeard pod → (e : ℕ) (text : List ℕ) → WaitsOnlyWhereHeard (take_event pod e text).after
unfolding take_event
take_heard pod stands e text = by_trapped (is_trapped pod.trapped e)
  where
    by_trapped : (b : Bool) → WaitsOnlyWhereHeard (cond b (after_take_trap pod e) (after_pass_on pod (deliver pod.state e text))).after
    by_trapped true = stands
    by_trapped false = λ silent. stands (sym (deliver_heard pod.state e text rites_event) ∙ silent)

kept_heard : Kept WaitsOnlyWhereHeard
kept_heard = record { keeps = keeps }
  where
    keeps : (pod : EventState) → WaitsOnlyWhereHeard pod → (move : EventMove) → can_move pod move ≡ true → WaitsOnlyWhereHeard (event_move pod move).after
    keeps pod stands (ToCall c) may = call_heard pod stands c
    keeps pod stands (ToTake e text) may = take_heard pod stands e text

-- ---- one move

one_report : (pod : EventState) (move : EventMove) → has_agent (event_move pod move).after.state rites_event ≡ true
    → pod.reports ++ reports_due_of_move pod move ≡ reports_of_call (event_move pod move).effects ++ (event_move pod move).after.reports
one_report pod move heard =
    ap (λ ns. pod.reports ++ ns) (sym (append-nil (reports_due_of_move pod move)))
    ∙ every_death_is_reported (move ∷ []) pod (heard, tt)
    ∙ ap (λ ns. ns ++ (event_move pod move).after.reports) (append-nil (reports_of_call (event_move pod move).effects))

reports_in_call : (pod : EventState) (c : Call) (t : ℕ) → choice pod.state ≡ Some t → ReportsInCall pod c
reports_in_call pod c t is = record {
  heard = λ heard. one_report pod (ToCall c) heard;
  unheard = λ silent. nobody_hears_nothing pod c t is silent;
  told = λ dead some. every_agent_is_told pod c t dead is some;
  none_waits = λ armed. no_report_waits pod c t is armed;
}

pub sessions_report_deaths : (B : Type 0) → SessionsAreStepwise B → InEachStep B ReportsDeaths
sessions_report_deaths B stepwise setting =
    in_sessions ReportsDeaths (λ pod. Unit {0}) (record { keeps = λ pod stands move may. tt }) holds stepwise setting tt
  where
    holds : (pod : EventState) → Unit {0} → (move : EventMove) → can_move pod move ≡ true → (later : List (Option EventMove))
        → CanGo (event_move pod move).after later → ReportsDeaths pod move later
    holds pod stands (ToCall c) may later can = reports_in_call pod c
    holds pod stands (ToTake e text) may later can = leaves_reports pod e text

-- ---- in turn

told_by : (pod : EventState) (move : EventMove) (d : ℕ) → reports_of_call (event_move pod move).effects ≡ d ∷ [] → IsToldBy pod move d
told_by pod (ToCall c) d told = by_choice (choice pod.state) refl
  where
    by_choice : (o : Option ℕ) → choice pod.state ≡ o → IsToldBy pod (ToCall c) d
    by_choice None is =
        let none : [] ≡ d ∷ [] = sym (ap (λ (out : EventOutcome). reports_of_call out.effects) (call_idle pod c is)) ∙ told in
        absurd (cc)
    by_choice (Some t) is = every_agent_is_told pod c t d is told
told_by pod (ToTake e text) d told =
    let none : [] ≡ d ∷ [] = sym (leaves_reports pod e text).none_reported ∙ told in
    absurd (cc)

at_append : (xs ys : List ℕ) (k n : ℕ) → slice_get xs k ≡ Some n → slice_get (xs ++ ys) k ≡ Some n
at_append [] ys k n is = absurd (cc)
at_append (x ∷ xs) ys zero n is = is
at_append (x ∷ xs) ys (suc k) n is = at_append xs ys k n is

module _ (pod : EventState) (move : EventMove) (later : List (Option EventMove)) (n : ℕ) (stands : WaitsOnlyWhereHeard (event_move pod move).after)
    (rest : (j : ℕ) → slice_get (event_move pod move).after.reports j ≡ Some n → ComesInTurn n j (event_move pod move).after later) where
  line_moves : (ds : List ℕ) → deaths_reported (event_move pod move).effects ≡ ds → (k : ℕ)
      → slice_get (take 1 ds ++ (event_move pod move).after.reports) k ≡ Some n
      → LineMoves pod move n (λ j. ComesInTurn n j (event_move pod move).after later) (take 1 ds) k
  line_moves [] is k placed = rest k placed
  line_moves (d ∷ ds) is zero placed =
      let head : Some d ≡ Some n = placed in
      let same : d ≡ n = cc in
      (same, subst (IsToldBy pod move) same (told_by pod move d (ap (take 1) is)))
  line_moves (d ∷ ds) is (suc k) placed = rest k placed

  comes_by : (k : ℕ) → slice_get (pod.reports ++ reports_due_of_move pod move) k ≡ Some n → ComesInTurn n k pod (Some move ∷ later)
  comes_by k placed = by_heard (has_agent (event_move pod move).after.state rites_event) refl
    where
      by_heard : (b : Bool) → has_agent (event_move pod move).after.state rites_event ≡ b → MatchBool b
          (LineMoves pod move n (λ j. ComesInTurn n j (event_move pod move).after later) (reports_of_call (event_move pod move).effects) k)
          ((event_move pod move).after.reports ≡ [])
      by_heard true e = line_moves (deaths_reported (event_move pod move).effects) refl k (sym (ap (λ ns. slice_get ns k) (one_report pod move e)) ∙ placed)
      by_heard false e = stands e

comes_in_turn : (later : List (Option EventMove)) (n k : ℕ) (pod : EventState) → WaitsOnlyWhereHeard pod → CanGo pod later → slice_get pod.reports k ≡ Some n
    → ComesInTurn n k pod later
comes_in_turn [] n k pod stands can placed = placed
comes_in_turn (None ∷ later) n k pod stands can placed = comes_in_turn later n k pod stands can placed
comes_in_turn (Some move ∷ later) n k pod stands can placed =
    let next = kept_heard.keeps pod stands move can.0 in
    comes_by pod move later n next (λ j here. comes_in_turn later n j (event_move pod move).after next can.1 here) k
    (at_append pod.reports (reports_due_of_move pod move) k n placed)

pub reports_come_in_turn : (B : Type 0) → SessionsAreStepwise B → InEachStep B ReportsComeInTurn
reports_come_in_turn B stepwise setting = in_sessions ReportsComeInTurn WaitsOnlyWhereHeard kept_heard holds stepwise setting (λ silent. refl)
  where
    holds : (pod : EventState) → WaitsOnlyWhereHeard pod → (move : EventMove) → can_move pod move ≡ true → (later : List (Option EventMove))
        → CanGo (event_move pod move).after later → ReportsComeInTurn pod move later
    holds pod stands move may later can n k placed =
        let next = kept_heard.keeps pod stands move may in
        comes_by pod move later n next (λ j here. comes_in_turn later n j (event_move pod move).after next can here) k placed
