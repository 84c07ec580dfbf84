-- Sessions whose bodies stand for others: the same calls, the same pod, and the same steps.
use Rattle.lwp_types.specs.Choice.{choice}
use Rattle.lwp_types.specs.Names.{Names, names_for_poll}
use Rattle.lwp_types.specs.Poll.{Next, Polled}
use Rattle.lwp_types.specs.declared.call.Answer.{Answer}
use Rattle.lwp_types.specs.declared.call.Call.{Call}
use Rattle.lwp_types.specs.declared.call.Effect.{Effect}
use Rattle.lwp_types.specs.declared.call.Effect.TheVariants as effect
use Rattle.pod_events.specs.Events.{EventState, take_event}
use Rattle.pod_events.specs.Step.{event_step}
use Rattle.pod_runner.specs.Due.{AllDue, CallsDue, IsDefined, TakeDue, is_call_due, is_take_due}
use Rattle.pod_runner.specs.Play.{play, session_of_calls, session_of_takes, with_take}
use Rattle.pod_runner.specs.Session.{Live, Move, Session, Setting, after_answer, after_poll, after_settle, after_settle_by}
use Rattle.pod_runner.specs.Session.{call_move, call_step, move, move_by, move_row, opening_session, proc_of, row_of, rows_born}
use Rattle.pod_runner.specs.Session.{rows_of_new, take_move, take_step, thread_in, with_row, without_row}
use Rattle.pod_runner.specs.declared.session.Row.{Row}
use Rattle.pod_runner.specs.declared.session.Took.{Took}
use Rattle.std.proofs.Common.{Bool, IsTrue, List, MatchBool, None, Option, Some, [], ap, false, if◌then◌else◌, map, option_map}
use Rattle.std.proofs.Common.{refl, reverse, slice_get, subst, suc, sym, true, zero, ℕ, ◌++◌, ◌==◌, ◌∙◌, ◌∷◌, ◌≡◌}
use Rattle.std.proofs.lemmas.List.{map-append}
use Rattle.std.specs.List.{AllByRecursion}

-- each body `b` stands for `f b`, as long as `Good b`
module _ {B C : Type 0} (f : B → C) (Good : B → Type 0) where
  abbrev pub as_row : Row B → Row C
  as_row row = record { tid = row.tid; proc = row.proc; body = f row.body; answer = row.answer; called = row.called; call = row.call }

  abbrev pub GoodRows : List (Row B) → Type 0
  GoodRows rows = AllByRecursion (λ (row : Row B). Good row.body) rows

  abbrev pub as_live : Live B → Live C
  as_live live = record { pod = live.pod; rows = map as_row live.rows; names = live.names }

  abbrev pub as_session : Session B → Session C
  as_session s = record { live = as_live s.live; steps = s.steps }

  -- ---- rows

  if_some : (b : Bool) (row : Row B) (o : Option (Row B))
      → (if b then Some (as_row row) else option_map as_row o) ≡ option_map as_row (if b then Some row else o)
  if_some true row o = refl
  if_some false row o = refl

  row_as : (t : ℕ) (rows : List (Row B)) → row_of t (map as_row rows) ≡ option_map as_row (row_of t rows)
  row_as t [] = refl
  row_as t (row ∷ rows) = ap (λ o. if row.tid == t then Some (as_row row) else o) (row_as t rows) ∙ if_some (row.tid == t) row (row_of t rows)

  if_rows : (b : Bool) (xs ys : List (Row B)) → (if b then map as_row xs else map as_row ys) ≡ map as_row (if b then xs else ys)
  if_rows true xs ys = refl
  if_rows false xs ys = refl

  with_row_as : (t : ℕ) (change : Row B → Row B) (other : Row C → Row C) → ((row : Row B) → other (as_row row) ≡ as_row (change row)) → (rows : List (Row B))
      → with_row t other (map as_row rows) ≡ map as_row (with_row t change rows)
  with_row_as t change other same [] = refl
  with_row_as t change other same (row ∷ rows) =
      (λ i. if row.tid == t then same row i ∷ map as_row rows else as_row row ∷ with_row_as t change other same rows i)
      ∙ if_rows (row.tid == t) (change row ∷ rows) (row ∷ with_row t change rows)

  without_as : (t : ℕ) (rows : List (Row B)) → without_row t (map as_row rows) ≡ map as_row (without_row t rows)
  without_as t [] = refl
  without_as t (row ∷ rows) =
      ap (λ xs. if row.tid == t then map as_row rows else as_row row ∷ xs) (without_as t rows) ∙ if_rows (row.tid == t) rows (row ∷ without_row t rows)

  new_as : (t number : ℕ) (o : Option B) → rows_of_new t number (option_map f o) ≡ map as_row (rows_of_new t number o)
  new_as t number None = refl
  new_as t number (Some body) = refl

  get_as : (bodies : List B) (n : ℕ) → slice_get (map f bodies) n ≡ option_map f (slice_get bodies n)
  get_as [] n = refl
  get_as (b ∷ bodies) zero = refl
  get_as (b ∷ bodies) (suc n) = get_as bodies n

  born_as : (bodies : List B) (born t : Option ℕ) → rows_born (map f bodies) born t ≡ map as_row (rows_born bodies born t)
  born_as bodies (Some number) (Some t) = ap (rows_of_new t number) (get_as bodies number) ∙ new_as t number (slice_get bodies number)
  born_as bodies None t = refl
  born_as bodies (Some number) None = refl

  settle_by_as : (bodies : List B) (born : Option ℕ) (e : Effect) (rows : List (Row B))
      → after_settle_by (map f bodies) born e (map as_row rows) ≡ map as_row (after_settle_by bodies born e rows)
  settle_by_as bodies born (effect.Answered t a) rows =
      (λ i. with_row_as t (λ row. record row { answer = a }) (λ row. record row { answer = a }) (λ row. refl) rows i ++ born_as bodies born (thread_in a) i)
      ∙ sym (map-append as_row (after_answer t a rows) (rows_born bodies born (thread_in a)))
  settle_by_as bodies born (effect.Died t) rows = without_as t rows
  settle_by_as bodies born (effect.Called t c) rows = refl
  settle_by_as bodies born (effect.Exited t reg c a) rows = refl
  settle_by_as bodies born (effect.Delivered agent event) rows = refl
  settle_by_as bodies born (effect.Ticked now) rows = refl
  settle_by_as bodies born (effect.Ended status) rows = refl
  settle_by_as bodies born (effect.Trapped t event) rows = refl
  settle_by_as bodies born (effect.Rites agent dead) rows = refl

  settle_as : (bodies : List B) (born : Option ℕ) (es : List Effect) (rows : List (Row B))
      → after_settle (map f bodies) born es (map as_row rows) ≡ map as_row (after_settle bodies born es rows)
  settle_as bodies born [] rows = refl
  settle_as bodies born (e ∷ es) rows = ap (after_settle (map f bodies) born es) (settle_by_as bodies born e rows)
      ∙ settle_as bodies born es (after_settle_by bodies born e rows)

  -- ---- rows stay good

  good_if : (b : Bool) (xs ys : List (Row B)) → GoodRows xs → GoodRows ys → GoodRows (if b then xs else ys)
  good_if true xs ys p q = p
  good_if false xs ys p q = q

  good_with : (t : ℕ) (change : Row B → Row B) → ((row : Row B) → Good row.body → Good (change row).body) → (rows : List (Row B))
      → GoodRows rows → GoodRows (with_row t change rows)
  good_with t change keeps [] h = tt
  good_with t change keeps (row ∷ rows) h =
      good_if (row.tid == t) (change row ∷ rows) (row ∷ with_row t change rows) (keeps row h.0, h.1) (h.0, good_with t change keeps rows h.1)

  good_without : (t : ℕ) (rows : List (Row B)) → GoodRows rows → GoodRows (without_row t rows)
  good_without t [] h = tt
  good_without t (row ∷ rows) h = good_if (row.tid == t) rows (row ∷ without_row t rows) h.1 (h.0, good_without t rows h.1)

  good_append : (xs ys : List (Row B)) → GoodRows xs → GoodRows ys → GoodRows (xs ++ ys)
  good_append [] ys p q = q
  good_append (x ∷ xs) ys p q = (p.0, good_append xs ys p.1 q)

  abbrev GoodBodies : List B → Type 0
  GoodBodies bodies = AllByRecursion Good bodies

  good_new : (t number : ℕ) (bodies : List B) (n : ℕ) → GoodBodies bodies → GoodRows (rows_of_new t number (slice_get bodies n))
  good_new t number [] n h = tt
  good_new t number (b ∷ bodies) zero h = (h.0, tt)
  good_new t number (b ∷ bodies) (suc n) h = good_new t number bodies n h.1

  good_born : (bodies : List B) (born t : Option ℕ) → GoodBodies bodies → GoodRows (rows_born bodies born t)
  good_born bodies (Some number) (Some t) h = good_new t number bodies number h
  good_born bodies None t h = tt
  good_born bodies (Some number) None h = tt

  good_settle_by : (bodies : List B) (born : Option ℕ) (e : Effect) (rows : List (Row B)) → GoodBodies bodies → GoodRows rows
      → GoodRows (after_settle_by bodies born e rows)
  good_settle_by bodies born (effect.Answered t a) rows g h =
      good_append (after_answer t a rows) (rows_born bodies born (thread_in a)) (good_with t (λ row. record row { answer = a }) (λ row k. k) rows h)
      (good_born bodies born (thread_in a) g)
  good_settle_by bodies born (effect.Died t) rows g h = good_without t rows h
  good_settle_by bodies born (effect.Called t c) rows g h = h
  good_settle_by bodies born (effect.Exited t reg c a) rows g h = h
  good_settle_by bodies born (effect.Delivered agent event) rows g h = h
  good_settle_by bodies born (effect.Ticked now) rows g h = h
  good_settle_by bodies born (effect.Ended status) rows g h = h
  good_settle_by bodies born (effect.Trapped t event) rows g h = h
  good_settle_by bodies born (effect.Rites agent dead) rows g h = h

  good_settle : (bodies : List B) (born : Option ℕ) (es : List Effect) (rows : List (Row B)) → GoodBodies bodies → GoodRows rows
      → GoodRows (after_settle bodies born es rows)
  good_settle bodies born [] rows g h = h
  good_settle bodies born (e ∷ es) rows g h = good_settle bodies born es (after_settle_by bodies born e rows) g (good_settle_by bodies born e rows g h)

  row_by : (b : Bool) (t : ℕ) (r : Row B) (rows : List (Row B)) (row : Row B) → (if b then Some r else row_of t rows) ≡ Some row
      → Good r.body → (row_of t rows ≡ Some row → Good row.body) → Good row.body
  row_by true t r rows row is good later = let same : r ≡ row = cc is in subst (λ (x : Row B). Good x.body) same good
  row_by false t r rows row is good later = later is

  good_row : (t : ℕ) (rows : List (Row B)) (row : Row B) → row_of t rows ≡ Some row → GoodRows rows → Good row.body
  good_row t [] row is h = absurd (cc is)
  good_row t (r ∷ rows) row is h = row_by (r.tid == t) t r rows row is h.0 (λ e. good_row t rows row e h.1)

  -- ---- bodies that mean the same

  -- polled with the same, it calls the same, and stands for what the other then is
  abbrev pub as_reply : Polled B → Polled C
  as_reply reply = (reply.0, f reply.1, reply.2)

  abbrev pub MeansTheSame : Next B → Next C → Type 0
  MeansTheSame next other = (body : B) (names : Names) (a : Answer) → Good body
      → (other (f body) names a ≡ as_reply (next body names a)) × Good (next body names a).1

  module _ (next : Next B) (other : Next C) (same : MeansTheSame next other) (bodies : List B) (good : GoodBodies bodies) where
    abbrev as_move : Move B → Move C
    as_move m = record { live = as_live m.live; effects = m.effects }

    call_as : (live : Live B) (t : ℕ) (reply : Polled B) → call_move (map f bodies) (as_live live) t (as_reply reply) ≡ as_move (call_move bodies live t reply)
    unfolding call_move
    call_as live t reply = let out = event_step live.pod reply.0 in
        (λ i. record {
          live = record {
            pod = out.after;
            rows = (ap (after_settle (map f bodies) (proc_of reply.0) out.effects)
                (with_row_as t (λ row. record row { body = reply.1; called = true; call = reply.0 })
                (λ row. record row { body = f reply.1; called = true; call = reply.0 }) (λ row. refl) live.rows)
                ∙ settle_as bodies (proc_of reply.0) out.effects (after_poll t reply.1 reply.0 live.rows)) i;
            names = reply.2;
          };
          effects = out.effects;
        })

    row_move_as : (live : Live B) (t : ℕ) (o : Option (Row B)) → ((row : Row B) → o ≡ Some row → Good row.body)
        → move_row other (map f bodies) (as_live live) t (option_map as_row o) ≡ as_move (move_row next bodies live t o)
    row_move_as live t None g = refl
    row_move_as live t (Some row) g =
        ap (call_move (map f bodies) (as_live live) t) (same row.body (names_for_poll t live.names) row.answer (g row refl)).0
        ∙ call_as live t (next row.body (names_for_poll t live.names) row.answer)

    move_by_as : (live : Live B) (o : Option ℕ) → GoodRows live.rows → move_by other (map f bodies) (as_live live) o ≡ as_move (move_by next bodies live o)
    move_by_as live None g = refl
    move_by_as live (Some t) g =
        ap (move_row other (map f bodies) (as_live live) t) (row_as t live.rows)
        ∙ row_move_as live t (row_of t live.rows) (λ row is. good_row t live.rows row is g)

    move_as : (live : Live B) → GoodRows live.rows → move other (map f bodies) (as_live live) ≡ as_move (move next bodies live)
    unfolding move
    move_as live g = move_by_as live (choice live.pod.state) g

    good_call : (live : Live B) (t : ℕ) (reply : Polled B) → Good reply.1 → GoodRows live.rows → GoodRows (call_move bodies live t reply).live.rows
    unfolding call_move
    good_call live t reply b g = good_settle bodies (proc_of reply.0) (event_step live.pod reply.0).effects (after_poll t reply.1 reply.0 live.rows) good
        (good_with t (λ row. record row { body = reply.1; called = true; call = reply.0 }) (λ row k. b) live.rows g)

    good_row_move : (live : Live B) (t : ℕ) (o : Option (Row B)) → ((row : Row B) → o ≡ Some row → Good row.body) → GoodRows live.rows
        → GoodRows (move_row next bodies live t o).live.rows
    good_row_move live t None is g = g
    good_row_move live t (Some row) is g =
        good_call live t (next row.body (names_for_poll t live.names) row.answer) (same row.body (names_for_poll t live.names) row.answer (is row refl)).1 g

    good_move_by : (live : Live B) (o : Option ℕ) → GoodRows live.rows → GoodRows (move_by next bodies live o).live.rows
    good_move_by live None g = g
    good_move_by live (Some t) g = good_row_move live t (row_of t live.rows) (λ row is. good_row t live.rows row is g) g

    good_move : (live : Live B) → GoodRows live.rows → GoodRows (move next bodies live).live.rows
    unfolding move
    good_move live g = good_move_by live (choice live.pod.state) g

    taking_as : (took : Took) (live : Live B) → take_move (map f bodies) took (as_live live) ≡ as_move (take_move bodies took live)
    unfolding take_move
    taking_as took live = let out = take_event live.pod took.event took.line.text in
        (λ i. record { live = record { pod = out.after; rows = settle_as bodies None out.effects live.rows i; names = live.names }; effects = out.effects })

    good_taking : (took : Took) (live : Live B) → GoodRows live.rows → GoodRows (take_move bodies took live).live.rows
    unfolding take_move
    good_taking took live g = good_settle bodies None (take_event live.pod took.event took.line.text).effects live.rows good g

    -- ---- sessions

    -- the sessions of two settings, one of which has the bodies for which those of the other stand
    record Same (a : Session B) (b : Session C) : Type 0 where
      is : b ≡ as_session a
      good_rows : GoodRows a.live.rows

    module _ (mine : Setting B) (theirs : Setting C) (next_is : mine.next ≡ next) (other_is : theirs.next ≡ other)
        (bodies_are : mine.bodies ≡ bodies) (theirs_are : theirs.bodies ≡ map f bodies)
        (params_are : theirs.params ≡ mine.params) (names_are : theirs.names ≡ mine.names) where
      move_back : (a : Session B) → move mine.next mine.bodies a.live ≡ move next bodies a.live
      move_back a = λ i. move (next_is i) (bodies_are i) a.live

      take_back : (took : Took) (a : Session B) → take_move mine.bodies took a.live ≡ take_move bodies took a.live
      take_back took a = λ i. take_move (bodies_are i) took a.live

      call_same : (a : Session B) (b : Session C) → Same a b → Same (call_step mine a) (call_step theirs b)
      call_same a b h =
          let back : move mine.next mine.bodies a.live ≡ move next bodies a.live = λ i. move (next_is i) (bodies_are i) a.live in
          let moved : move theirs.next theirs.bodies b.live ≡ as_move (move mine.next mine.bodies a.live)
          = (λ i. move (other_is i) (theirs_are i) (h.is i).live) ∙ move_as a.live h.good_rows ∙ ap as_move (sym back) in
          record {
            is = λ i. record { live = (moved i).live; steps = (h.is i).steps ++ record { take = None; effects = (moved i).effects } ∷ [] };
            good_rows = subst (λ (m : Move B). GoodRows m.live.rows) (sym back) (good_move a.live h.good_rows);
          }

      take_same : (took : Took) (a : Session B) (b : Session C) → Same a b → Same (take_step mine took a) (take_step theirs took b)
      take_same took a b h =
          let back : take_move mine.bodies took a.live ≡ take_move bodies took a.live = λ i. take_move (bodies_are i) took a.live in
          let moved : take_move theirs.bodies took b.live ≡ as_move (take_move mine.bodies took a.live)
          = (λ i. take_move (theirs_are i) took (h.is i).live) ∙ taking_as took a.live ∙ ap as_move (sym back) in
          record {
            is = λ i. record { live = (moved i).live; steps = (h.is i).steps ++ record { take = Some took; effects = (moved i).effects } ∷ [] };
            good_rows = subst (λ (m : Move B). GoodRows m.live.rows) (sym back) (good_taking took a.live h.good_rows);
          }

      opening_same : Same (opening_session mine) (opening_session theirs)
      opening_same = record {
        is = λ i. record {
          live = record {
            pod = (opening_session (record mine { params = params_are i })).live.pod;
            rows = (ap (λ bs. rows_of_new 0 0 (slice_get bs 0)) theirs_are ∙ ap (rows_of_new 0 0) (get_as bodies 0)
                ∙ new_as 0 0 (slice_get bodies 0) ∙ ap (λ bs. map as_row (rows_of_new 0 0 (slice_get bs 0))) (sym bodies_are))
                i;
            names = names_are i;
          };
          steps = [];
        };
        good_rows = subst (λ bs. GoodRows (rows_of_new 0 0 (slice_get bs 0))) (sym bodies_are) (good_new 0 0 bodies 0 good);
      }

      calls_same : (n : ℕ) → Same (session_of_calls mine n) (session_of_calls theirs n)
      calls_same zero = opening_same
      calls_same (suc n) = call_same (session_of_calls mine n) (session_of_calls theirs n) (calls_same n)

      same_if : (b : Bool) (x y : Session B) (u v : Session C) → Same x u → Same y v → Same (if b then x else y) (if b then u else v)
      same_if true x y u v p q = p
      same_if false x y u v p q = q

      with_take_same : (took : Took) (before : ℕ → Session B) (other_before : ℕ → Session C) → ((n : ℕ) → Same (before n) (other_before n))
          → (n : ℕ) → Same (with_take mine took before n) (with_take theirs took other_before n)
      with_take_same took before other_before h zero = take_same took (before 0) (other_before 0) (h 0)
      with_take_same took before other_before h (suc n) =
          same_if (took.turn == suc n) (take_step mine took (before (suc n))) (call_step mine (with_take mine took before n))
          (take_step theirs took (other_before (suc n))) (call_step theirs (with_take theirs took other_before n))
          (take_same took (before (suc n)) (other_before (suc n)) (h (suc n)))
          (call_same (with_take mine took before n) (with_take theirs took other_before n) (with_take_same took before other_before h n))

      takes_same : (takes : List Took) (n : ℕ) → Same (session_of_takes mine takes n) (session_of_takes theirs takes n)
      takes_same [] n = calls_same n
      takes_same (took ∷ takes) n = with_take_same took (session_of_takes mine takes) (session_of_takes theirs takes) (takes_same takes) n

      play_same : (takes : List Took) (n : ℕ) → Same (play mine takes n) (play theirs takes n)
      unfolding play
      play_same takes n = takes_same (reverse takes) n

      pub plays_are_same : (takes : List Took) (n : ℕ) → play theirs takes n ≡ as_session (play mine takes n)
      plays_are_same takes n = (play_same takes n).is

      -- each call and each take is due there that is due here
      due_call : (a : Session B) (b : Session C) → Same a b → IsTrue (is_call_due a) → IsTrue (is_call_due b)
      due_call a b h due = ap is_call_due h.is ∙ due

      due_take : (took : Took) (a : Session B) (b : Session C) → Same a b → IsTrue (is_take_due took a) → IsTrue (is_take_due took b)
      due_take took a b h due = ap (is_take_due took) h.is ∙ due

      calls_due : (n : ℕ) → CallsDue mine n → CallsDue theirs n
      calls_due zero h = tt
      calls_due (suc n) h = (calls_due n h.0, due_call (session_of_calls mine n) (session_of_calls theirs n) (calls_same n) h.1)

      match_on : (b : Bool) (X Y U V : Type 0) → (X → U) → (Y → V) → MatchBool b X Y → MatchBool b U V
      match_on true X Y U V p q h = p h
      match_on false X Y U V p q h = q h

      take_due : (took : Took) (takes : List Took) → ((n : ℕ) → AllDue mine takes n → AllDue theirs takes n) → (n : ℕ)
          → TakeDue mine took (session_of_takes mine takes) (AllDue mine takes) n → TakeDue theirs took (session_of_takes theirs takes) (AllDue theirs takes) n
      take_due took takes before zero h =
          (h.0, before 0 h.1, due_take took (session_of_takes mine takes 0) (session_of_takes theirs takes 0) (takes_same takes 0) h.2)
      take_due took takes before (suc n) h = match_on (took.turn == suc n) _ _ _ _
          (λ k.
          (before (suc n) k.0, due_take took (session_of_takes mine takes (suc n)) (session_of_takes theirs takes (suc n)) (takes_same takes (suc n)) k.1))
          (λ k. (
            take_due took takes before n k.0,
            due_call (with_take mine took (session_of_takes mine takes) n) (with_take theirs took (session_of_takes theirs takes) n)
                (with_take_same took (session_of_takes mine takes) (session_of_takes theirs takes) (takes_same takes) n) k.1,
          )) h

      all_due : (takes : List Took) (n : ℕ) → AllDue mine takes n → AllDue theirs takes n
      all_due [] n h = calls_due n h
      all_due (took ∷ takes) n h = take_due took takes (all_due takes) n h

      pub defined_too : (takes : List Took) (n : ℕ) → IsDefined mine takes n → IsDefined theirs takes n
      unfolding IsDefined
      defined_too takes n h = all_due (reverse takes) n h
