-- What a step does to a core, whatever else the session has.
use Rattle.lwp_explore.specs.CoreLaws.{CallsAlike, TakesAlike}
use Rattle.lwp_explore.specs.Cores.{live_of, row_of_mind}
use Rattle.lwp_types.specs.Choice.{choice}
use Rattle.lwp_types.specs.Names.{Names, names_for_poll, null_id}
use Rattle.lwp_types.specs.Poll.{Next, Polled}
use Rattle.lwp_types.specs.declared.call.Answer.{Answer}
use Rattle.lwp_types.specs.declared.call.Call.{Call}
use Rattle.lwp_types.specs.declared.call.Effect.{Effect}
use Rattle.lwp_types.specs.declared.call.Effect.TheVariants as effect
use Rattle.pod_events.specs.Events.{take_event}
use Rattle.pod_events.specs.Step.{event_step}
use Rattle.pod_runner.specs.Session.{Live, Move, after_answer, after_poll, after_settle, after_settle_by, call_move, move}
use Rattle.pod_runner.specs.Session.{move_by, move_row, proc_of, row_of, rows_born, take_move, thread_in, without_row}
use Rattle.pod_runner.specs.declared.session.Row.{Row}
use Rattle.pod_runner.specs.declared.session.Took.{Took}
use Rattle.session_cores.specs.Core.{Mind, core_of, mind_of}
use Rattle.std.proofs.Common.{Bool, List, None, Option, Some, [], ap, false, map, refl, subst, sym, true, ℕ, ◌++◌, ◌∙◌, ◌∷◌, ◌≡◌}
use Rattle.std.proofs.lemmas.List.{map-append}
use Rattle.std.specs.Prelude.{if◌then◌else◌, option_map, ◌==◌}

polls_names : (t : ℕ) (a b : Names) → names_for_poll null_id a ≡ names_for_poll null_id b → names_for_poll t a ≡ names_for_poll t b
polls_names t a b same = ap (λ names. names_for_poll t names) same

module _ {B : Type 0} where
  -- ---- the operations on rows, on what counts of them

  abbrev with_mind : ℕ → (Mind B → Mind B) → List (Mind B) → List (Mind B)
  with_mind t change [] = []
  with_mind t change (m ∷ ms) = if m.number == t then change m ∷ ms else m ∷ with_mind t change ms

  abbrev without_mind : ℕ → List (Mind B) → List (Mind B)
  without_mind t [] = []
  without_mind t (m ∷ ms) = if m.number == t then ms else m ∷ without_mind t ms

  abbrev mind_at : ℕ → List (Mind B) → Option (Mind B)
  mind_at t [] = None
  mind_at t (m ∷ ms) = if m.number == t then Some m else mind_at t ms

  abbrev settled_by : List B → Option ℕ → Effect → List (Mind B) → List (Mind B)
  settled_by bodies born (effect.Answered t a) ms = with_mind t (λ m. record m { answer = a }) ms ++ map mind_of (rows_born bodies born (thread_in a))
  settled_by bodies born (effect.Died t) ms = without_mind t ms
  settled_by bodies born _ ms = ms

  abbrev settled : List B → Option ℕ → List Effect → List (Mind B) → List (Mind B)
  settled bodies born [] ms = ms
  settled bodies born (e ∷ es) ms = settled bodies born es (settled_by bodies born e ms)

  -- ---- they are

  answered : (t : ℕ) (a : Answer) (rows : List (Row B)) → map mind_of (after_answer t a rows) ≡ with_mind t (λ m. record m { answer = a }) (map mind_of rows)
  answered t a [] = refl
  answered t a (row ∷ rows) = by (row.tid == t) (answered t a rows)
    where
      by : (b : Bool) → map mind_of (after_answer t a rows) ≡ with_mind t (λ m. record m { answer = a }) (map mind_of rows)
          → map mind_of (if b then record row { answer = a } ∷ rows else row ∷ after_answer t a rows)
          ≡ (if b then record (mind_of row) { answer = a } ∷ map mind_of rows else mind_of row ∷ with_mind t (λ m. record m { answer = a }) (map mind_of rows))
      by true h = refl
      by false h = ap (λ ms. mind_of row ∷ ms) h

  polled : (t : ℕ) (body : B) (c : Call) (rows : List (Row B))
      → map mind_of (after_poll t body c rows) ≡ with_mind t (λ m. record m { body = body }) (map mind_of rows)
  polled t body c [] = refl
  polled t body c (row ∷ rows) = by (row.tid == t) (polled t body c rows)
    where
      by : (b : Bool) → map mind_of (after_poll t body c rows) ≡ with_mind t (λ m. record m { body = body }) (map mind_of rows)
          → map mind_of (if b then record row { body = body; called = true; call = c } ∷ rows else row ∷ after_poll t body c rows)
          ≡ (if b then record (mind_of row) { body = body } ∷ map mind_of rows else mind_of row ∷ with_mind t (λ m. record m { body = body })
          (map mind_of rows))
      by true h = refl
      by false h = ap (λ ms. mind_of row ∷ ms) h

  died : (t : ℕ) (rows : List (Row B)) → map mind_of (without_row t rows) ≡ without_mind t (map mind_of rows)
  died t [] = refl
  died t (row ∷ rows) = by (row.tid == t) (died t rows)
    where
      by : (b : Bool) → map mind_of (without_row t rows) ≡ without_mind t (map mind_of rows)
          → map mind_of (if b then rows else row ∷ without_row t rows) ≡ (if b then map mind_of rows else mind_of row ∷ without_mind t (map mind_of rows))
      by true h = refl
      by false h = ap (λ ms. mind_of row ∷ ms) h

  found : (t : ℕ) (rows : List (Row B)) → option_map mind_of (row_of t rows) ≡ mind_at t (map mind_of rows)
  found t [] = refl
  found t (row ∷ rows) = by (row.tid == t) (found t rows)
    where
      by : (b : Bool) → option_map mind_of (row_of t rows) ≡ mind_at t (map mind_of rows)
          → option_map mind_of (if b then Some row else row_of t rows) ≡ (if b then Some (mind_of row) else mind_at t (map mind_of rows))
      by true h = refl
      by false h = h

  settles_by : (bodies : List B) (born : Option ℕ) (e : Effect) (rows : List (Row B))
      → map mind_of (after_settle_by bodies born e rows) ≡ settled_by bodies born e (map mind_of rows)
  settles_by bodies born (effect.Called t c) rows = refl
  settles_by bodies born (effect.Answered t a) rows =
      map-append mind_of (after_answer t a rows) (rows_born bodies born (thread_in a))
      ∙ ap (λ ms. ms ++ map mind_of (rows_born bodies born (thread_in a))) (answered t a rows)
  settles_by bodies born (effect.Exited t reg x a) rows = refl
  settles_by bodies born (effect.Died t) rows = died t rows
  settles_by bodies born (effect.Delivered agent e) rows = refl
  settles_by bodies born (effect.Ticked now) rows = refl
  settles_by bodies born (effect.Ended status) rows = refl
  settles_by bodies born (effect.Trapped t e) rows = refl
  settles_by bodies born (effect.Rites agent dead) rows = refl

  settles : (bodies : List B) (born : Option ℕ) (es : List Effect) (rows : List (Row B))
      → map mind_of (after_settle bodies born es rows) ≡ settled bodies born es (map mind_of rows)
  settles bodies born [] rows = refl
  settles bodies born (e ∷ es) rows = settles bodies born es (after_settle_by bodies born e rows)
      ∙ ap (λ ms. settled bodies born es ms) (settles_by bodies born e rows)

  -- ---- a step of two sessions with the same core

  -- two sessions stand alike but for what doesn't count
  pub record Alike (a b : Live B) : Type 0 where
    pub pods : a.pod ≡ b.pod
    pub minds : map mind_of a.rows ≡ map mind_of b.rows
    pub names : names_for_poll null_id a.names ≡ names_for_poll null_id b.names

  -- two moves do the same, and lead to sessions that stand alike
  pub record MovesAlike (a b : Move B) : Type 0 where
    pub lives : Alike a.live b.live
    pub effects : a.effects ≡ b.effects

  pub alike_of : (a b : Live B) (taken others : List ℕ) → core_of a taken ≡ core_of b others → Alike a b
  alike_of a b taken others same = record { pods = ap (λ c. c.pod) same; minds = ap (λ c. c.minds) same; names = ap (λ c. c.names) same }

  pub core_alike : (a b : Live B) (taken others : List ℕ) → Alike a b → taken ≡ others → core_of a taken ≡ core_of b others
  core_alike a b taken others alike same = λ i. record { pod = alike.pods i; minds = alike.minds i; names = alike.names i; taken = same i }

  calls : (bodies : List B) (a b : Live B) (t : ℕ) (x y : Polled B) → Alike a b → x ≡ y → MovesAlike (call_move bodies a t x) (call_move bodies b t y)
  unfolding call_move
  calls bodies a b t x y alike same =
      record {
        lives = record {
          pods = λ i. (event_step (alike.pods i) (same i).0).after;
          minds = settles bodies (proc_of x.0) (event_step a.pod x.0).effects (after_poll t x.1 x.0 a.rows)
              ∙ ap (λ ms. settled bodies (proc_of x.0) (event_step a.pod x.0).effects ms) (polled t x.1 x.0 a.rows)
              ∙ (λ i. settled bodies (proc_of (same i).0) (event_step (alike.pods i) (same i).0).effects (with_mind t (λ m. record m {
                body =
                    (same i).1;
              }) (alike.minds i)))
              ∙ sym (settles bodies (proc_of y.0) (event_step b.pod y.0).effects (after_poll t y.1 y.0 b.rows)
              ∙ ap (λ ms. settled bodies (proc_of y.0) (event_step b.pod y.0).effects ms) (polled t y.1 y.0 b.rows));
          names = λ i. names_for_poll null_id (same i).2;
        };
        effects = λ i. (event_step (alike.pods i) (same i).0).effects;
      }

  rows_move : (next : Next B) (bodies : List B) (a b : Live B) (t : ℕ) (x y : Option (Row B)) → Alike a b → option_map mind_of x ≡ option_map mind_of y
      → MovesAlike (move_row next bodies a t x) (move_row next bodies b t y)
  rows_move next bodies a b t None None alike same = record { lives = alike; effects = refl }
  rows_move next bodies a b t None (Some y) alike same = absurd cc
  rows_move next bodies a b t (Some x) None alike same = absurd cc
  rows_move next bodies a b t (Some x) (Some y) alike same =
      let mind : mind_of x ≡ mind_of y = cc in
      calls bodies a b t (next x.body (names_for_poll t a.names) x.answer) (next y.body (names_for_poll t b.names) y.answer) alike
      (λ i. next (mind i).body (polls_names t a.names b.names alike.names i) (mind i).answer)

  by_move : (next : Next B) (bodies : List B) (a b : Live B) (x y : Option ℕ) → Alike a b → x ≡ y
      → MovesAlike (move_by next bodies a x) (move_by next bodies b y)
  by_move next bodies a b None None alike same = record { lives = alike; effects = refl }
  by_move next bodies a b None (Some u) alike same = absurd cc
  by_move next bodies a b (Some t) None alike same = absurd cc
  by_move next bodies a b (Some t) (Some u) alike same =
      let is : t ≡ u = cc in
      subst (λ v. MovesAlike (move_row next bodies a t (row_of t a.rows)) (move_row next bodies b v (row_of v b.rows))) is
      (rows_move next bodies a b t (row_of t a.rows) (row_of t b.rows) alike
      (found t a.rows ∙ ap (λ ms. mind_at t ms) alike.minds ∙ sym (found t b.rows)))

  pub move_alike : (next : Next B) (bodies : List B) (a b : Live B) → Alike a b → MovesAlike (move next bodies a) (move next bodies b)
  unfolding move
  move_alike next bodies a b alike = by_move next bodies a b (choice a.pod.state) (choice b.pod.state) alike (λ i. choice (alike.pods i).state)

  pub take_alike : (bodies : List B) (took : Took) (a b : Live B) → Alike a b → MovesAlike (take_move bodies took a) (take_move bodies took b)
  unfolding take_move
  take_alike bodies took a b alike =
      record {
        lives = record {
          pods = λ i. (take_event (alike.pods i) took.event took.line.text).after;
          minds = settles bodies None (take_event a.pod took.event took.line.text).effects a.rows
              ∙ (λ i. settled bodies None (take_event (alike.pods i) took.event took.line.text).effects (alike.minds i))
              ∙ sym (settles bodies None (take_event b.pod took.event took.line.text).effects b.rows);
          names = alike.names;
        };
        effects = λ i. (take_event (alike.pods i) took.event took.line.text).effects;
      }

  -- what a core's own session has
  minds_back : (ms : List (Mind B)) → map mind_of (map row_of_mind ms) ≡ ms
  minds_back [] = refl
  minds_back (m ∷ ms) = ap (λ more. m ∷ more) (minds_back ms)

  -- a session and that of its core stand alike
  pub alike_core : (live : Live B) (taken : List ℕ) → Alike live (live_of (core_of live taken))
  alike_core live taken = record { pods = refl; minds = sym (minds_back (map mind_of live.rows)); names = refl }

pub calls_alike : (B : Type 0) → CallsAlike B
calls_alike B = record {
  to = λ next bodies a b taken others same.
      let alike = alike_of a b taken others same in
      core_alike (move next bodies a).live (move next bodies b).live taken others (move_alike next bodies a b alike).lives (ap (λ c. c.taken) same);
  effects = λ next bodies a b taken others same. (move_alike next bodies a b (alike_of a b taken others same)).effects;
}

pub takes_alike : (B : Type 0) → TakesAlike B
takes_alike B = record {
  to = λ bodies took a b taken others more same.
      let alike = alike_of a b taken others same in
      core_alike (take_move bodies took a).live (take_move bodies took b).live more more (take_alike bodies took a b alike).lives refl;
  effects = λ bodies took a b taken others same. (take_alike bodies took a b (alike_of a b taken others same)).effects;
}
