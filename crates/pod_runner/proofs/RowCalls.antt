-- The call in the row at a place, and what becomes of it.
use Rattle.std.proofs.Common.{◌≡◌, ◌<◌, ◌≤◌, ◌∙◌, ℕ, zero, suc, List, [], ◌∷◌, ◌++◌, Bool, true, false}
use Rattle.std.proofs.Common.{cond, length, get_or, set, ap, refl, sym, subst, arith, Some}
use Rattle.std.specs.List.{remove}
use Rattle.std.specs.Prelude.{if◌then◌else◌, nat_lt, slice_get, slice_set, ◌==◌}
use Rattle.lwp_types.specs.declared.call.Answer.{Answer}
use Rattle.lwp_types.specs.declared.call.Call.{Call}
use Rattle.pod_runner.proofs.Rising.{rising_set}
use Rattle.lwp_types.specs.Names.{Names}
use Rattle.lwp_types.specs.Poll.{Next}
use Rattle.pod_runner.specs.Polls.{AreRising, IsLeft, Polls, Rows, call_at, place_of, polled_row}
use Rattle.lwp_types.specs.declared.call.Call.TheVariants as call
use Rattle.std.proofs.lemmas.List.{get_or_default}
use Rattle.std.proofs.lemmas.Bool.{ltb-true, ltb-false}
use Rattle.pod_runner.specs.Session.{after_answer}
use Rattle.pod_runner.specs.declared.session.Row.{Row}

pub remove_set : {X : Type 0} (xs : List X) (i : ℕ) (y : X) → remove (set xs i y) i ≡ remove xs i
remove_set [] zero y = refl
remove_set [] (suc i) y = refl
remove_set (x ∷ xs) zero y = refl
remove_set (x ∷ xs) (suc i) y = ap (λ zs. x ∷ zs) (remove_set xs i y)

length-set : {X : Type 0} (xs : List X) (i : ℕ) (y : X) → length (set xs i y) ≡ length xs
length-set [] zero y = refl
length-set [] (suc i) y = refl
length-set (x ∷ xs) zero y = refl
length-set (x ∷ xs) (suc i) y = ap suc (length-set xs i y)

-- a list with an element less
fewer : {X : Type 0} (xs : List X) (i : ℕ) → length (remove xs i) ≤ length xs
fewer [] zero = omega arith
fewer [] (suc i) = omega arith
fewer (x ∷ xs) zero = omega arith
fewer (x ∷ xs) (suc i) = omega (arith, fewer xs i)

module _ {B : Type 0} where
  -- a row gives way to one of the same thread
  pub place_set : (t : ℕ) (rows : List (Row B)) (i : ℕ) (x : Row B) → i < length rows → x.tid ≡ (get_or rows i x).tid
      → place_of t (set rows i x) ≡ place_of t rows
  place_set t [] i x within same = absurd (omega (arith, within))
  place_set t (r ∷ rs) zero x within same = ap (λ n. cond (n == t) 0 (suc (place_of t rs))) same
  place_set t (r ∷ rs) (suc i) x within same = ap (λ n. cond (r.tid == t) 0 (suc n)) (place_set t rs i x (omega (arith, within)) same)

  module _ (other : Call) where
    -- there is no such row
    pub call_past : (rows : List (Row B)) (i : ℕ) → length rows ≤ i → call_at other rows i ≡ other
    call_past [] i past = refl
    call_past (r ∷ rs) zero past = absurd (omega (arith, past))
    call_past (r ∷ rs) (suc i) past = call_past rs i (omega (arith, past))

    -- there is one
    pub call_read : (rows : List (Row B)) (i : ℕ) (seen : Row B) → i < length rows → seen ≡ get_or rows i seen → call_at other rows i ≡ seen.call
    call_read [] i seen within there = absurd (omega (arith, within))
    call_read (r ∷ rs) zero seen within there = ap (λ (x : Row B). x.call) (sym there)
    call_read (r ∷ rs) (suc i) seen within there = call_read rs i seen (omega (arith, within)) there

    -- it was written
    pub call_written : (rows : List (Row B)) (i : ℕ) (x : Row B) → i < length rows → call_at other (set rows i x) i ≡ x.call
    call_written [] i x within = absurd (omega (arith, within))
    call_written (r ∷ rs) zero x within = refl
    call_written (r ∷ rs) (suc i) x within = call_written rs i x (omega (arith, within))

    -- a later row goes
    pub call_below : (rows : List (Row B)) (i j : ℕ) → j < i → call_at other (remove rows i) j ≡ call_at other rows j
    call_below [] zero j low = refl
    call_below [] (suc i) j low = refl
    call_below (r ∷ rs) zero j low = absurd (omega (arith, low))
    call_below (r ∷ rs) (suc i) zero low = refl
    call_below (r ∷ rs) (suc i) (suc j) low = call_below rs i j (omega (arith, low))

    -- an earlier one goes
    pub call_above : (rows : List (Row B)) (i j : ℕ) → i ≤ j → call_at other (remove rows i) j ≡ call_at other rows (suc j)
    call_above [] zero j low = refl
    call_above [] (suc i) j low = refl
    call_above (r ∷ rs) zero j low = refl
    call_above (r ∷ rs) (suc i) zero low = absurd (omega (arith, low))
    call_above (r ∷ rs) (suc i) (suc j) low = call_above rs i j (omega (arith, low))

    -- one comes
    pub call_pushed : (rows : List (Row B)) (x : Row B) (i : ℕ) → i < length rows → call_at other (rows ++ x ∷ []) i ≡ call_at other rows i
    call_pushed [] x i within = absurd (omega (arith, within))
    call_pushed (r ∷ rs) x zero within = refl
    call_pushed (r ∷ rs) x (suc i) within = call_pushed rs x i (omega (arith, within))

    -- a thread is answered
    pub call_answered : (t : ℕ) (a : Answer) (rows : List (Row B)) (i : ℕ) → call_at other (after_answer t a rows) i ≡ call_at other rows i
    call_answered t a [] i = refl
    call_answered t a (r ∷ rs) i = by_head (r.tid == t) i (λ j. call_answered t a rs j)
      where
        by_head : (b : Bool) (i : ℕ) → ((j : ℕ) → call_at other (after_answer t a rs) j ≡ call_at other rs j)
            → call_at other (cond b (record r { answer = a } ∷ rs) (r ∷ after_answer t a rs)) i ≡ call_at other (r ∷ rs) i
        by_head true zero rest = refl
        by_head true (suc i) rest = refl
        by_head false zero rest = refl
        by_head false (suc i) rest = rest i

  -- ---- the call of a row is taken out

  pub record CallTaken (rows left : List (Row B)) (i : ℕ) (given : Call) : Type 0 where
    pub is_left : IsLeft rows left i
    pub gives : (other : Call) → given ≡ call_at other rows i

  row_there : (rows : List (Row B)) (i : ℕ) → i < length rows → (row : Row B) × (slice_get rows i ≡ Some row) × (row ≡ get_or rows i row)
  row_there [] i within = absurd (omega (arith, within))
  row_there (r ∷ rs) zero within = (r, refl, refl)
  row_there (r ∷ rs) (suc i) within = row_there rs i (omega (arith, within))

  pub call_taken : (rows left : List (Row B)) (i : ℕ) (given : Call) → i < length rows
      → ((row : Row B) → slice_get rows i ≡ Some row → (given ≡ row.call) × (left ≡ set rows i (record row { call = call.Return })))
      → CallTaken rows left i given
  call_taken rows left i given within h =
      let there = row_there rows i within in
      let row = there.0 in
      let is = h row there.1 in
      let bare : Row B = record row { call = call.Return } in
      let same : bare.tid ≡ (get_or rows i bare).tid = ap (λ (r : Row B). r.tid) (there.2 ∙ get_or_default rows i row bare within) in
      record {
        is_left = record {
          rest = ap (λ rs. remove rs i) is.1 ∙ remove_set rows i bare;
          places = λ t. ap (place_of t) is.1 ∙ place_set t rows i bare within same;
          rising = λ up. subst AreRising (sym is.1) (rising_set rows i bare up within same);
          as_many = ap length is.1 ∙ length-set rows i bare;
        };
        gives = λ other. is.0 ∙ sym (call_read other rows i row within there.2);
      }

  -- rows that nothing was taken out of
  pub left_same : (rows : List (Row B)) (i : ℕ) → IsLeft rows rows i
  left_same rows i = record { rest = refl; places = λ t. refl; rising = λ up. up; as_many = refl }

  -- the row that goes was the one that was polled last: its call is kept
  pub call_kept : (kept other : Call) (rows left : List (Row B)) (i last count : ℕ) → CallTaken rows left i kept → i ≡ last → length rows ≤ count
      → call_at kept (remove rows i) count ≡ call_at other rows last
  call_kept kept other rows left i last count taken at over =
      call_past kept (remove rows i) count (omega (arith, fewer rows i, over)) ∙ taken.gives other ∙ ap (call_at other rows) at

  -- the call at a place within the rows, whatever the default for a missing one is
  pub call_within : (other another : Call) (rows : List (Row B)) (i : ℕ) → i < length rows → call_at other rows i ≡ call_at another rows i
  call_within other another [] i within = absurd (omega (arith, within))
  call_within other another (r ∷ rs) zero within = refl
  call_within other another (r ∷ rs) (suc i) within = call_within other another rs i (omega (arith, within))

  -- ---- whole values

  pub kept_rows : (rows left : List (Row B)) (c d : Call) → rows ≡ left → c ≡ d
      → ◌≡◌ {A = Rows B} (record { rows = rows; call = c }) (record { rows = left; call = d })
  kept_rows rows left c d r e = λ k. record { rows = r k; call = e k }

  -- a row was polled where it lies
  pub polled : (next : Next B) (known : Names) (gone : Call) (i : ℕ) (rows left : List (Row B)) (after : Names) → i < length rows
      → ((row : Row B) → slice_get rows i ≡ Some row
      → (left ≡ slice_set rows i (polled_row (next row.body known row.answer) row)) × (after ≡ (next row.body known row.answer).2))
      → (row : Row B) → slice_get rows i ≡ Some row → Polls next row known (call_at gone left i) i rows left after
  polled next known gone i rows left after within h row there =
      let is = h row there in
      record {
        gives = ap (λ rs. call_at gone rs i) is.0 ∙ call_written gone rows i (polled_row (next row.body known row.answer) row) within;
        leaves = is.0;
        names = is.1;
      }

  -- a row comes, and the place of one that has gone stays past all others
  pub call_more : (other : Call) (rows left : List (Row B)) (x : Row B) (last before after kept : ℕ) → left ≡ rows ++ x ∷ []
      → before ≡ length rows → after ≡ length left
      → kept ≡ (if nat_lt last before then last else after) → call_at other left kept ≡ call_at other rows last
  call_more other rows left x last before after kept more was now is = by_place (nat_lt last before) refl is
    where
      by_place : (b : Bool) → nat_lt last before ≡ b → kept ≡ cond b last after → call_at other left kept ≡ call_at other rows last
      by_place true low is = ap (call_at other left) is ∙ ap (λ rs. call_at other rs last) more
          ∙ call_pushed other rows x last (omega (arith, ltb-true last before low, was))
      by_place false over is = call_past other left kept (omega (arith, is, now))
          ∙ sym (call_past other rows last (omega (arith, ltb-false last before over, was)))
