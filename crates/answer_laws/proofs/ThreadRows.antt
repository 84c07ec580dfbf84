-- What a step makes of the row of a thread that is there after it.
use Rattle.std.specs.Prelude.{option_map}
use Rattle.lwp_types.specs.declared.call.Call.{Call}
use Rattle.answer_laws.specs.Served.{IsPolledWith, polled_with}
use Rattle.answer_laws.specs.Sights.{answers_to}
use Rattle.answer_laws.specs.Stands.{last_heard}
use Rattle.lwp_types.specs.CountLaws.{count-cons, one}
use Rattle.lwp_types.specs.declared.call.Answer.{Answer}
use Rattle.lwp_types.specs.declared.call.Effect.{Effect}
use Rattle.pod_laws.specs.Forgotten.{is_died}
use Rattle.pod_runner.specs.Session.{after_answer, after_poll, after_settle, row_of, rows_born, thread_in, with_row, without_row}
use Rattle.pod_runner.specs.declared.session.Row.{Row}
use Rattle.std.proofs.Common.{Bool, List, None, Option, Some, [], ap, arith, cond, count_by, eqb, false, refl, subst, sym, true, ℕ, ◌++◌, ◌∙◌, ◌∷◌, ◌≡◌}
use Rattle.std.proofs.lemmas.Bool.{eqb-true}
use Rattle.lwp_types.specs.declared.call.Effect.TheVariants as effect

module _ {B : Type 0} (u : ℕ) where
  -- a row at the head of others
  head_other : (r : Row B) (rs : List (Row B)) → eqb r.tid u ≡ false → row_of u (r ∷ rs) ≡ row_of u rs
  head_other r rs e = ap (λ b. cond b (Some r) (row_of u rs)) e

  head_own : (r : Row B) (rs : List (Row B)) → eqb r.tid u ≡ true → row_of u (r ∷ rs) ≡ Some r
  head_own r rs e = ap (λ b. cond b (Some r) (row_of u rs)) e

  module _ (t : ℕ) (other : eqb t u ≡ false) where
    away : (r : Row B) → eqb r.tid t ≡ true → eqb r.tid u ≡ false
    away r e = ap (λ n. eqb n u) (eqb-true r.tid t e) ∙ other

    -- another's row is changed
    row_kept : (change : Row B → Row B) → ((r : Row B) → (change r).tid ≡ r.tid) → (rows : List (Row B)) → row_of u (with_row t change rows) ≡ row_of u rows
    row_kept change keeps [] = refl
    row_kept change keeps (r ∷ rs) = by_test (eqb r.tid t) refl (row_kept change keeps rs)
      where
        by_test : (b : Bool) → eqb r.tid t ≡ b → row_of u (with_row t change rs) ≡ row_of u rs
            → row_of u (cond b (change r ∷ rs) (r ∷ with_row t change rs)) ≡ row_of u (r ∷ rs)
        by_test true e rest = head_other (change r) rs (ap (λ n. eqb n u) (keeps r) ∙ away r e) ∙ sym (head_other r rs (away r e))
        by_test false e rest = ap (λ o. cond (eqb r.tid u) (Some r) o) rest

    -- or goes
    row_stays : (rows : List (Row B)) → row_of u (without_row t rows) ≡ row_of u rows
    row_stays [] = refl
    row_stays (r ∷ rs) = by_test (eqb r.tid t) refl (row_stays rs)
      where
        by_test : (b : Bool) → eqb r.tid t ≡ b → row_of u (without_row t rs) ≡ row_of u rs → row_of u (cond b rs (r ∷ without_row t rs)) ≡ row_of u (r ∷ rs)
        by_test true e rest = sym (head_other r rs (away r e))
        by_test false e rest = ap (λ o. cond (eqb r.tid u) (Some r) o) rest

  found_head : (r row : Row B) (rs : List (Row B)) (b : Bool) → b ≡ true → cond b (Some r) (row_of u rs) ≡ Some row → r ≡ row
  found_head r row rs true e f = cc f
  found_head r row rs false e f = absurd (cc)

  found_later : (r row : Row B) (rs : List (Row B)) (b : Bool) → b ≡ false → cond b (Some r) (row_of u rs) ≡ Some row → row_of u rs ≡ Some row
  found_later r row rs true e f = absurd (cc)
  found_later r row rs false e f = f

  -- its own is changed
  row_changed : (change : Row B → Row B) → ((r : Row B) → (change r).tid ≡ r.tid) → (rows : List (Row B)) (row : Row B)
      → row_of u rows ≡ Some row → row_of u (with_row u change rows) ≡ Some (change row)
  row_changed change keeps [] row found = absurd (cc)
  row_changed change keeps (r ∷ rs) row found = by_test (eqb r.tid u) refl (λ later. row_changed change keeps rs row later)
    where
      by_test : (b : Bool) → eqb r.tid u ≡ b → (row_of u rs ≡ Some row → row_of u (with_row u change rs) ≡ Some (change row))
          → row_of u (cond b (change r ∷ rs) (r ∷ with_row u change rs)) ≡ Some (change row)
      by_test true e rest = head_own (change r) rs (ap (λ n. eqb n u) (keeps r) ∙ e) ∙ ap (λ x. Some (change x)) (found_head r row rs (eqb r.tid u) e found)
      by_test false e rest = head_other r (with_row u change rs) e ∙ rest (found_later r row rs (eqb r.tid u) e found)

  -- other rows come after it
  row_before : (xs ys : List (Row B)) (row : Row B) → row_of u xs ≡ Some row → row_of u (xs ++ ys) ≡ Some row
  row_before [] ys row found = absurd (cc)
  row_before (r ∷ rs) ys row found = by_test (eqb r.tid u) refl (λ later. row_before rs ys row later)
    where
      by_test : (b : Bool) → eqb r.tid u ≡ b → (row_of u rs ≡ Some row → row_of u (rs ++ ys) ≡ Some row) → row_of u (r ∷ (rs ++ ys)) ≡ Some row
      by_test true e rest = head_own r (rs ++ ys) e ∙ ap Some (found_head r row rs (eqb r.tid u) e found)
      by_test false e rest = head_other r (rs ++ ys) e ∙ rest (found_later r row rs (eqb r.tid u) e found)

  row_answered : (t : ℕ) (a : Answer) (rows : List (Row B)) (row : Row B) → row_of u rows ≡ Some row → (b : Bool) → eqb t u ≡ b
      → row_of u (after_answer t a rows) ≡ Some (cond b (record row { answer = a }) row)
  row_answered t a rows row found true e = subst (λ n. row_of u (after_answer n a rows) ≡ Some (record row { answer = a }))
      (sym (eqb-true t u e)) (row_changed (λ row. record row { answer = a }) (λ r. refl) rows row found)
  row_answered t a rows row found false e = row_kept t e (λ row. record row { answer = a }) (λ r. refl) rows ∙ found

  -- the effects of a step in which it doesn't die
  row_settled : (bodies : List B) (born : Option ℕ) (es : List Effect) (rows : List (Row B)) (row : Row B) → row_of u rows ≡ Some row
      → count_by (is_died u) es ≡ 0 → row_of u (after_settle bodies born es rows) ≡ Some (record row { answer = last_heard row.answer (answers_to u es) })
  row_settled bodies born [] rows row found none = found
  row_settled bodies born (effect.Answered t a ∷ es) rows row found none = by_test (eqb t u) refl
      (λ r f. row_settled bodies born es (after_answer t a rows ++ rows_born bodies born (thread_in a)) r f
      (omega (arith, none, count-cons (is_died u) (effect.Answered t a) es)))
    where
      push : Option Answer → List Answer → List Answer
      push None rest = rest
      push (Some a) rest = a ∷ rest

      by_test : (b : Bool) → eqb t u ≡ b
          → ((r : Row B) → row_of u (after_answer t a rows ++ rows_born bodies born (thread_in a)) ≡ Some r
          → row_of u (after_settle bodies born es (after_answer t a rows ++ rows_born bodies born (thread_in a)))
          ≡ Some (record r { answer = last_heard r.answer (answers_to u es) }))
          → row_of u (after_settle bodies born es (after_answer t a rows ++ rows_born bodies born (thread_in a)))
          ≡ Some (record row { answer = last_heard row.answer (push (cond b (Some a) None) (answers_to u es)) })
      by_test true e rest = rest (record row { answer = a })
          (row_before (after_answer t a rows) (rows_born bodies born (thread_in a)) (record row { answer = a }) (row_answered t a rows row found true e))
      by_test false e rest = rest row (row_before (after_answer t a rows) (rows_born bodies born (thread_in a)) row (row_answered t a rows row found false e))
  row_settled bodies born (effect.Died t ∷ es) rows row found none = row_settled bodies born es (without_row t rows) row
      (row_stays t (by_test (eqb t u) refl) rows ∙ found) (omega (arith, none, count-cons (is_died u) (effect.Died t) es))
    where
      by_test : (b : Bool) → eqb t u ≡ b → b ≡ false
      by_test true e = absurd (omega (arith, none, count-cons (is_died u) (effect.Died t) es, ap one e))
      by_test false e = refl
  row_settled bodies born (effect.Called t c ∷ es) rows row found none =
      row_settled bodies born es rows row found (omega (arith, none, count-cons (is_died u) (effect.Called t c) es))
  row_settled bodies born (effect.Exited t reg c x ∷ es) rows row found none =
      row_settled bodies born es rows row found (omega (arith, none, count-cons (is_died u) (effect.Exited t reg c x) es))
  row_settled bodies born (effect.Delivered a e ∷ es) rows row found none =
      row_settled bodies born es rows row found (omega (arith, none, count-cons (is_died u) (effect.Delivered a e) es))
  row_settled bodies born (effect.Ticked now ∷ es) rows row found none =
      row_settled bodies born es rows row found (omega (arith, none, count-cons (is_died u) (effect.Ticked now) es))
  row_settled bodies born (effect.Ended status ∷ es) rows row found none =
      row_settled bodies born es rows row found (omega (arith, none, count-cons (is_died u) (effect.Ended status) es))
  row_settled bodies born (effect.Trapped t e ∷ es) rows row found none =
      row_settled bodies born es rows row found (omega (arith, none, count-cons (is_died u) (effect.Trapped t e) es))
  row_settled bodies born (effect.Rites a d ∷ es) rows row found none =
      row_settled bodies born es rows row found (omega (arith, none, count-cons (is_died u) (effect.Rites a d) es))

  -- a body that was polled
  row_polled_own : (body : B) (c : Call) (rows : List (Row B)) (row : Row B) → row_of u rows ≡ Some row
      → row_of u (after_poll u body c rows) ≡ Some (record row { body = body; called = true; call = c })
  row_polled_own body c rows row found = row_changed (λ row. record row { body = body; called = true; call = c }) (λ r. refl) rows row found

  row_polled_other : (t : ℕ) → eqb t u ≡ false → (body : B) (c : Call) (rows : List (Row B)) → row_of u (after_poll t body c rows) ≡ row_of u rows
  row_polled_other t other body c rows = row_kept t other (λ row. record row { body = body; called = true; call = c }) (λ r. refl) rows

  -- ---- what it is polled with

  -- its row
  pub record RowWith (b : B) (z : Answer) (o : Option (Row B)) : Type 0 where
    pub row : Row B
    pub found : o ≡ Some row
    pub pair : ◌≡◌ {A = B × Answer} (row.body, row.answer) (b, z)

  pub row_with : (b : B) (z : Answer) (o : Option (Row B)) → option_map polled_with o ≡ Some (b, z) → RowWith b z o
  row_with b z None e = absurd (cc)
  row_with b z (Some row) e = record { row = row; found = refl; pair = cc e }

  -- the effects of a step in which it doesn't die
  pub settled_with : (bodies : List B) (born : Option ℕ) (es : List Effect) (rows : List (Row B)) (b : B) (z : Answer)
      → IsPolledWith u rows b z → count_by (is_died u) es ≡ 0 → IsPolledWith u (after_settle bodies born es rows) b (last_heard z (answers_to u es))
  settled_with bodies born es rows b z h none =
      let w = row_with b z (row_of u rows) h in
      ap (option_map polled_with) (row_settled bodies born es rows w.row w.found none)
      ∙ ap (λ (p : B × Answer). Some (p.0, last_heard p.1 (answers_to u es))) w.pair

  -- it was polled, or another
  pub polled_own : (body : B) (c : Call) (rows : List (Row B)) (b : B) (z : Answer) → IsPolledWith u rows b z → IsPolledWith u (after_poll u body c rows) body z
  polled_own body c rows b z h =
      let w = row_with b z (row_of u rows) h in
      ap (option_map polled_with) (row_polled_own body c rows w.row w.found) ∙ ap (λ (p : B × Answer). Some (body, p.1)) w.pair

  pub polled_other : (t : ℕ) → eqb t u ≡ false → (body : B) (c : Call) (rows : List (Row B))
      → option_map polled_with (row_of u (after_poll t body c rows)) ≡ option_map polled_with (row_of u rows)
  polled_other t other body c rows = ap (option_map polled_with) (row_polled_other t other body c rows)
