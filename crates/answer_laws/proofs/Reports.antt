-- What is delivered in a session has room in a letter, if the lines have.
use Rattle.answer_laws.proofs.OwnSteps.{event_is}
use Rattle.answer_laws.proofs.Openings.{texts_called}
use Rattle.answer_laws.proofs.PodSteps.{births_said, lines_told, reports_told, tame_deliver, texts_append}
use Rattle.answer_laws.proofs.Fadings.{event_fades}
use Rattle.answer_laws.proofs.Servings.{gone_fades, got_more, moved_lawful}
use Rattle.answer_laws.proofs.TalkTexts.{births_deliver}
use Rattle.answer_laws.specs.Agents.{deliveries_to}
use Rattle.answer_laws.specs.Clients.{texts_delivered}
use Rattle.answer_laws.specs.Lengths.{is_short}
use Rattle.answer_laws.specs.Served.{CanGoOn, after_move, after_moves, line_is_short, steps_of}
use Rattle.answer_laws.specs.Stands.{texts_in}
use Rattle.lwp_types.specs.Agents.{deliver, is_event_armed}
use Rattle.lwp_types.specs.Choice.{choice}
use Rattle.lwp_types.specs.CountLaws.{count-append, count-cons, one}
use Rattle.lwp_types.specs.Lawful.{Lawful}
use Rattle.lwp_types.specs.Names.{null_id, names_for_poll}
use Rattle.lwp_types.specs.State.{Outcome, State, all_below}
use Rattle.lwp_types.specs.declared.call.Call.{Call}
use Rattle.lwp_types.specs.declared.call.Effect.{Effect}
use Rattle.pod_events.specs.Events.{EventState, after_pass_on, after_take_trap, has_agent, is_trapped, rites_event, take_event}
use Rattle.pod_events.specs.Rites.{after_first_report, as_rites, dead_to_report, deaths, is_reported, report_text, reports_after, after_rites}
use Rattle.pod_events.specs.Step.{event_step, event_step_by, event_step_if}
use Rattle.pod_events.specs.Traps.{after_trap_and_call as traps_called}
use Rattle.pod_laws.proofs.Elements.{all_filter}
use Rattle.pod_laws.specs.Forgotten.{is_died}
use Rattle.pod_runner.specs.Session.{Live, Made, Session, Setting, call_move, move, move_by, move_row, row_of, take_move}
use Rattle.pod_runner.specs.declared.session.Row.{Row}
use Rattle.pod_runner.specs.declared.session.Took.{Took}
use Rattle.session_laws.proofs.Pods.{call_moved}
use Rattle.std.proofs.Common.{Bool, List, None, Option, Some, [], ap, arith, cond, count_by, eqb, false, length}
use Rattle.std.proofs.Common.{refl, subst, suc, sym, true, zero, ℕ, ◌++◌, ◌<◌, ◌∙◌, ◌∷◌, ◌≡◌, ◌≤◌}
use Rattle.std.proofs.lemmas.Bool.{and_from, and_parts, eq-eqb, le-leb, lt-ltb, ltb-true}
use Rattle.std.proofs.lemmas.Fmt.{length-decimal-le}
use Rattle.std.proofs.lemmas.List.Folds.{list_all-append}
use Rattle.std.specs.List.{list_all}
use Rattle.std.specs.Prelude.{map, nat_lt, option_map, replicate}
use Rattle.lwp_types.specs.declared.call.Effect.TheVariants as effect

-- a report of a number that isn't that of nobody is short
report_short : (dead : ℕ) → dead < null_id → is_short (report_text dead) ≡ true
report_short dead low = le-leb (length (report_text dead)) 240
    (omega (arith, length-decimal-le 20 dead (omega arith) (omega (arith, low)) (omega (arith, low))))

all_replicate : (text : List ℕ) (n : ℕ) → is_short text ≡ true → list_all is_short (replicate n text) ≡ true
all_replicate text zero short = refl
all_replicate text (suc n) short = and_from _ _ short (all_replicate text n short)

all_both : (xs ys : List (List ℕ)) → list_all is_short xs ≡ true → list_all is_short ys ≡ true → list_all is_short (xs ++ ys) ≡ true
all_both xs ys one two = list_all-append is_short xs ys ∙ and_from _ _ one two

-- who is told to have died is below the births
deaths_below : (b : ℕ) (es : List Effect) → ((n : ℕ) → 1 ≤ count_by (is_died n) es → n < b) → all_below b (deaths es) ≡ true
deaths_below b [] low = refl
deaths_below b (effect.Died t ∷ es) low =
    and_from _ _ (lt-ltb t b (low t (omega (arith, count-cons (is_died t) (effect.Died t) es, ap one (eq-eqb t t refl)))))
    (deaths_below b es (λ n some. low n (omega (arith, some, count-cons (is_died n) (effect.Died t) es))))
deaths_below b (effect.Called t c ∷ es) low = deaths_below b es (λ n some. low n (omega (arith, some, count-cons (is_died n) (effect.Called t c) es)))
deaths_below b (effect.Answered t x ∷ es) low = deaths_below b es (λ n some. low n (omega (arith, some, count-cons (is_died n) (effect.Answered t x) es)))
deaths_below b (effect.Exited t reg c x ∷ es) low =
    deaths_below b es (λ n some. low n (omega (arith, some, count-cons (is_died n) (effect.Exited t reg c x) es)))
deaths_below b (effect.Delivered a e ∷ es) low = deaths_below b es (λ n some. low n (omega (arith, some, count-cons (is_died n) (effect.Delivered a e) es)))
deaths_below b (effect.Ticked now ∷ es) low = deaths_below b es (λ n some. low n (omega (arith, some, count-cons (is_died n) (effect.Ticked now) es)))
deaths_below b (effect.Ended status ∷ es) low = deaths_below b es (λ n some. low n (omega (arith, some, count-cons (is_died n) (effect.Ended status) es)))
deaths_below b (effect.Trapped t e ∷ es) low = deaths_below b es (λ n some. low n (omega (arith, some, count-cons (is_died n) (effect.Trapped t e) es)))
deaths_below b (effect.Rites a d ∷ es) low = deaths_below b es (λ n some. low n (omega (arith, some, count-cons (is_died n) (effect.Rites a d) es)))

-- the dead that are to be reported are below the births
abbrev pub Below : EventState → Type 0
Below es = all_below es.state.births es.reports ≡ true

-- after a call, and its texts
pub record Reported (a : ℕ) (es : EventState) (after : EventState) (fs : List Effect) : Type 0 where
  pub below : Below after
  pub short : after.state.births < null_id → list_all is_short (texts_in a None fs) ≡ true

below_more : (b c : ℕ) (ns : List ℕ) → b ≤ c → all_below b ns ≡ true → all_below c ns ≡ true
below_more b c [] low h = refl
below_more b c (n ∷ ns) low h = let parts = and_parts (nat_lt n b) (all_below b ns) h in
    and_from _ _ (lt-ltb n c (omega (arith, low, ltb-true n b parts.0))) (below_more b c ns low parts.1)

below_both : (b : ℕ) (xs ys : List ℕ) → all_below b xs ≡ true → all_below b ys ≡ true → all_below b (xs ++ ys) ≡ true
below_both b xs ys one two = list_all-append (λ n. nat_lt n b) xs ys ∙ and_from _ _ one two

module _ (a : ℕ) (es : EventState) (was : Lawful es.state None) (h : Below es) (c : Call) (t : ℕ) (turn : choice es.state ≡ Some t) where
  after_below : (now : State) (fs : List Effect) → es.state.births ≤ now.births → ((n : ℕ) → 1 ≤ count_by (is_died n) fs → n < now.births)
      → all_below now.births (reports_after es.state now es.reports fs) ≡ true
  after_below now fs more died = by_agent (has_agent now rites_event)
    where
      by_agent : (b : Bool) → all_below now.births (cond b (es.reports ++ dead_to_report es.state (deaths fs)) []) ≡ true
      by_agent false = refl
      by_agent true = below_both now.births es.reports (dead_to_report es.state (deaths fs)) (below_more es.state.births now.births es.reports more h)
          (all_filter (λ n. nat_lt n now.births) (λ n. nat_lt n now.births) (is_reported es.state) (λ n kept low. low) (deaths fs)
          (deaths_below now.births fs died))

  said : (now : State) (fs : List Effect) (reports : List ℕ) → all_below now.births reports ≡ true → texts_in a None fs ≡ []
      → (all_below (after_rites now fs reports).state.births (after_rites now fs reports).reports ≡ true)
      × ((after_rites now fs reports).state.births < null_id → list_all is_short (texts_in a None (after_rites now fs reports).effects) ≡ true)
  said now fs reports below none = (
    subst (λ n. all_below n (after_rites now fs reports).reports ≡ true) (sym (births_said now fs reports))
        (left_below (is_event_armed now rites_event) reports below),
    λ few. short_by (omega (arith, few, births_said now fs reports)) (is_event_armed now rites_event) reports below,
  )
    where
      left_below : (b : Bool) (rs : List ℕ) → all_below now.births rs ≡ true
          → all_below now.births (cond b (after_first_report now fs rs) (record { state = now; reports = rs; effects = fs })).reports ≡ true
      left_below true [] low = refl
      left_below false rs low = low
      left_below true (dead ∷ later) low = (and_parts (nat_lt dead now.births) (all_below now.births later) low).1

      short_by : now.births < null_id → (b : Bool) (rs : List ℕ) → all_below now.births rs ≡ true
          → list_all is_short (texts_in a None (cond b (after_first_report now fs rs) (record { state = now; reports = rs; effects = fs })).effects) ≡ true
      short_by few true [] low = ap (list_all is_short) none
      short_by few false rs low = ap (list_all is_short) none
      short_by few true (dead ∷ later) low =
          let sent = (deliver now rites_event (report_text dead)).effects in
          let tame = tame_deliver now rites_event (report_text dead) in
          let is = texts_append a None fs (map (as_rites dead) sent)
          ∙ (λ i. none i ++ (reports_told a dead sent tame ∙ lines_told a (report_text dead) sent tame) i) in
          ap (list_all is_short) is
          ∙ all_replicate (report_text dead) (deliveries_to a sent)
          (report_short dead (omega (arith, few, ltb-true dead now.births (and_parts (nat_lt dead now.births) (all_below now.births later) low).0)))

-- ---- a call, and a take

died_by : (now : State) (fs : List Effect) (reports : List ℕ)
    → ((n : ℕ) → 1 ≤ count_by (is_died n) (after_rites now fs reports).effects → n < (after_rites now fs reports).state.births) → (n : ℕ)
    → 1 ≤ count_by (is_died n) fs → n < now.births
died_by now fs reports died n some = subst (λ m. n < m) (births_said now fs reports) (died n (by_armed (is_event_armed now rites_event) reports))
  where
    by_armed : (b : Bool) (rs : List ℕ)
        → 1 ≤ count_by (is_died n) (cond b (after_first_report now fs rs) (record { state = now; reports = rs; effects = fs })).effects
    by_armed true [] = some
    by_armed false rs = some
    by_armed true (dead ∷ later) = omega (arith, some, count-append (is_died n) fs (map (as_rites dead) (deliver now rites_event (report_text dead)).effects))

call_reported : (a : ℕ) (es : EventState) → Lawful es.state None → Below es → (c : Call) → Reported a es (event_step es c).after (event_step es c).effects
unfolding event_step event_step_by
call_reported a es was h c = by_choice (choice es.state) refl
  where
    by_choice : (o : Option ℕ) → choice es.state ≡ o → Reported a es (event_step_if es c o).after (event_step_if es c o).effects
    by_choice None e = record { below = h; short = λ few. refl }
    by_choice (Some t) e =
        let out = traps_called es.state es.trapped t c es.pending in
        let reports = reports_after es.state out.state es.reports out.effects in
        let died = subst (λ (o : Outcome). (n : ℕ) → 1 ≤ count_by (is_died n) o.effects → n < o.after.births) (event_is es t c e)
        (λ n some. ((call_moved es was c).does.gone n some).born) in
        let more = subst (λ (o : Outcome). es.state.births ≤ o.after.births) (event_is es t c e) (event_fades 0 es c).births in
        let below = after_below a es was h c t e out.state out.effects (omega (arith, more, births_said out.state out.effects reports))
        (died_by out.state out.effects reports died) in
        let both = said a es was h c t e out.state out.effects reports below (texts_called a es.state es.trapped t c es.pending) in
        record { below = both.0; short = both.1 }

take_reported : (a : ℕ) (es : EventState) → Below es → (e : ℕ) (text : List ℕ) → is_short text ≡ true
    → Below (take_event es e text).after × (list_all is_short (texts_in a (Some text) (take_event es e text).effects) ≡ true)
unfolding take_event
take_reported a es h e text short = by_trapped (is_trapped es.trapped e)
  where
    by_test : (b : Bool) → list_all is_short (cond b (text ∷ []) [] ++ []) ≡ true
    by_test true = and_from _ _ short refl
    by_test false = refl

    by_trapped : (b : Bool)
        → Below (cond b (after_take_trap es e) (after_pass_on es (deliver es.state e text))).after
        × (list_all is_short (texts_in a (Some text) (cond b (after_take_trap es e) (after_pass_on es (deliver es.state e text))).effects) ≡ true)
    by_trapped true = (h, by_test (eqb null_id a))
    by_trapped false = (
      subst (λ n. all_below n es.reports ≡ true) (sym (births_deliver es.state e text)) h,
      ap (list_all is_short) (lines_told a text (deliver es.state e text).effects (tame_deliver es.state e text))
          ∙ all_replicate text (deliveries_to a (deliver es.state e text).effects) short,
    )

-- ---- a session

module _ {B : Type 0} (setting : Setting B) where
  -- so far all that was delivered is short, and the dead that are to be reported are below the births
  pub record IsShortSoFar (session : Session B) : Type 0 where
    pub below : Below session.live.pod
    pub short : (a : ℕ) → list_all is_short (texts_delivered a (steps_of session.steps)) ≡ true

  pushed : (steps : List Made) (m : Made) (a : ℕ) → list_all is_short (texts_delivered a (steps_of steps)) ≡ true
      → list_all is_short (texts_in a (option_map (λ (took : Took). took.line.text) m.take) m.effects) ≡ true
      → list_all is_short (texts_delivered a (steps_of (steps ++ m ∷ []))) ≡ true
  pushed steps m a one two = ap (list_all is_short) (sym (got_more steps m a))
      ∙ all_both (texts_delivered a (steps_of steps)) (texts_in a (option_map (λ (took : Took). took.line.text) m.take) m.effects) one two

  call_short : (live : Live B) → Lawful live.pod.state None → Below live.pod → (a : ℕ)
      → Reported a live.pod (move setting.next setting.bodies live).live.pod (move setting.next setting.bodies live).effects
  unfolding move call_move
  call_short live was h a = by_choice (choice live.pod.state)
    where
      by_row : (t : ℕ) (o : Option (Row B))
          → Reported a live.pod (move_row setting.next setting.bodies live t o).live.pod (move_row setting.next setting.bodies live t o).effects
      by_row t None = record { below = h; short = λ few. refl }
      by_row t (Some row) = call_reported a live.pod was h (setting.next row.body (names_for_poll t live.names) row.answer).0

      by_choice : (o : Option ℕ)
          → Reported a live.pod (move_by setting.next setting.bodies live o).live.pod (move_by setting.next setting.bodies live o).effects
      by_choice None = record { below = h; short = λ few. refl }
      by_choice (Some t) = by_row t (row_of t live.rows)

  move_short : (session : Session B) (m : Option Took) → Lawful session.live.pod.state None → IsShortSoFar session
      → (after_move setting session m).live.pod.state.births < null_id → line_is_short m ≡ true → IsShortSoFar (after_move setting session m)
  unfolding take_move
  move_short session None was h few line = record {
    below = (call_short session.live was h.below 0).below;
    short = λ a. pushed session.steps (record { take = None; effects = (move setting.next setting.bodies session.live).effects }) a
        (h.short a) ((call_short session.live was h.below a).short few);
  }
  move_short session (Some took) was h few line = record {
    below = (take_reported 0 session.live.pod h.below took.event took.line.text line).0;
    short = λ a. pushed session.steps (record { take = Some took; effects = (take_move setting.bodies took session.live).effects }) a
        (h.short a) (take_reported a session.live.pod h.below took.event took.line.text line).1;
  }

  pub moves_short : (moves : List (Option Took)) (session : Session B) → Lawful session.live.pod.state None → CanGoOn setting moves session
      → IsShortSoFar session → (after_moves setting moves session).live.pod.state.births < null_id → list_all line_is_short moves ≡ true
      → IsShortSoFar (after_moves setting moves session)
  moves_short [] session was can h few lines = h
  moves_short (m ∷ ms) session was can h few lines =
      let parts = and_parts (line_is_short m) (list_all line_is_short ms) lines in
      moves_short ms (after_move setting session m) (moved_lawful setting session m can.0 was) can.1
      (move_short session m was h (omega (arith, few, (gone_fades setting 0 ms (after_move setting session m)).births)) parts.0) few parts.1
