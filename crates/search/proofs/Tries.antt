-- What is known after one more step, by what it leads to; after the steps of a core; and at the end.
use Rattle.search.proofs.KnownLemmas.{as_many, is_sound, not_seen, was_seen}
use Rattle.search.proofs.Order.{is_nearest}
use Rattle.search.proofs.Steps.{all_tried, mark_keeps, mark_more, mark_next, step_has, step_keeps, step_known, step_seen, step_up_to}
use Rattle.search.proofs.Walks.{walk_push}
use Rattle.search.specs.Found.{HasLasts, HasNoMark, IsFirstMark, IsNearestMark, cores_of, is_stopped, path_of}
use Rattle.search.specs.Known.{Exploring, Grows, IsMark, IsSettled, IsUpTo, Keeps, Knows, LeadsTo, first_mark}
use Rattle.search.specs.Moves.{IsReachable, KeysDiffer, Moves}
use Rattle.search.specs.Seen.{Adds, number_of}
use Rattle.search.specs.declared.found.Place.{Place}
use Rattle.search.specs.declared.found.Row.{Row}
use Rattle.std.proofs.Common.{Bool, List, None, Option, Some, [], ap, arith, false, inl, inr, length, refl, subst, sym, true, true≢false, zero}
use Rattle.std.proofs.Common.{ℕ, ◌++◌, ◌+◌, ◌-◌, ◌<◌, ◌==◌, ◌∙◌, ◌∷◌, ◌≡◌, ◌≤◌}
use Rattle.std.proofs.lemmas.Bool.{eq-eqb, eqb-true}
use Rattle.std.proofs.lemmas.Bool.Decides.{nat_tests}
use Rattle.std.proofs.lemmas.List.{length-append}
use Rattle.std.proofs.lemmas.Option.{slice_get_within}
use Rattle.std.specs.Prelude.{IfSome, MatchOption, is_some, nat_lt, not, slice_get, ◌&&◌}

module _ {C : Type 0} (moves : Moves C) (rows : List Row) (seen : List (List ℕ × ℕ)) (whole : Bool) (mark mark' : Option Place) (limit at step : ℕ)
    (from to : C) (knows : Knows moves rows seen whole mark limit at step) (here : slice_get (cores_of moves rows) at ≡ Some from)
    (leads : slice_get (moves.after from) step ≡ Some to) (mark_is : mark' ≡ first_mark mark (moves.marks from step) at step) where
  reached : IsReachable moves to
  reached = (
    path_of rows at ++ step ∷ [],
    walk_push moves.after moves.first from to (path_of rows at) step (is_sound moves rows seen knows.known at from here) leads,
  )

  inside : at < length rows
  inside = omega (arith, as_many moves rows, slice_get_within (cores_of moves rows) at from here)

  marked : IsMark moves rows mark' at (step + 1)
  marked = subst (λ m. IsMark moves rows m at (step + 1)) (sym mark_is)
      (mark_more moves rows at step from here (slice_get_within (moves.after from) step to leads) mark knows.marked)

  -- it leads to a core that was found already
  module _ (differ : KeysDiffer moves) (number : ℕ) (found : number_of seen (moves.key to) ≡ Some number) where
    pub seen_leads : LeadsTo moves rows limit from step (Some number)
    seen_leads = (to, leads, was_seen moves rows seen knows.known to differ reached number found)

    pub seen_knows : Knows moves rows seen whole mark' limit at (step + 1)
    seen_knows = record {
      known = knows.known;
      up_to = λ w. step_seen moves rows seen at step from to (knows.up_to w) here leads number
          (was_seen moves rows seen knows.known to differ reached number found);
      cut = knows.cut;
      few = knows.few;
      marked = marked;
    }

  module _ (further : number_of seen (moves.key to) ≡ None) where
    -- there is no room for the core that it leads to
    module _ (full : limit ≤ length rows) where
      pub full_leads : LeadsTo moves rows limit from step None
      full_leads = (
        full,
        (λ other leads' has. (let same : Some to ≡ Some other = sym leads ∙ leads' in
            not_seen moves rows seen knows.known to further (has.0, has.1 ∙ sym same))),
      )

      pub full_knows : Knows moves rows seen false mark' limit at (step + 1)
      full_knows = record {
        known = knows.known;
        up_to = λ e. absurd (true≢false (sym e));
        cut = λ _. record {
          out = record {
            from = from;
            step = step;
            to = to;
            inside = (at, here);
            leads = leads;
            outside = not_seen moves rows seen knows.known to further;
          };
          full = full;
        };
        few = knows.few;
        marked = marked;
      }

    -- it is added
    module _ (room : length rows < limit) (row : Row) (parent_is : row.parent ≡ at) (step_is : row.step ≡ step)
        (kind : row.kind ≡ moves.kind to) (rows' : List Row) (seen' : List (List ℕ × ℕ)) (more : rows' ≡ rows ++ row ∷ [])
        (adds : Adds seen seen' (moves.key to) (length rows)) where
      all : whole ≡ true
      all = by whole refl
        where
          by : (b : Bool) → whole ≡ b → whole ≡ true
          by true e = e
          by false e = absurd (let cut = knows.cut e in omega (arith, cut.full, room))

      up_to : IsUpTo moves rows seen at step
      up_to = knows.up_to all

      pub added_keeps : Keeps moves rows rows'
      added_keeps = step_keeps moves rows seen at step from to up_to here leads further row parent_is step_is kind rows' seen' more adds

      pub added_grows : Grows moves limit rows rows'
      added_grows = record { keeps = added_keeps; stop = λ full. absurd (omega (arith, full, room)) }

      pub added_has : slice_get (cores_of moves rows') (length rows) ≡ Some to
      added_has = step_has moves rows seen at step from to up_to here leads further row parent_is step_is kind rows' seen' more adds

      pub added_leads : (number : ℕ) → number ≡ length rows → LeadsTo moves rows' limit from step (Some number)
      added_leads number is = (to, leads, ap (slice_get (cores_of moves rows')) is ∙ added_has)

      pub added_knows : (whole' : Bool) → whole' ≡ whole → Knows moves rows' seen' whole' mark' limit at (step + 1)
      added_knows whole' is = record {
        known = step_known moves rows seen at step from to up_to here leads further row parent_is step_is kind rows' seen' more adds;
        up_to = λ _. step_up_to moves rows seen at step from to up_to here leads further row parent_is step_is kind rows' seen' more adds;
        cut = λ e. absurd (true≢false (sym all ∙ sym is ∙ e));
        few = omega (arith, room, ap length more, length-append rows (row ∷ []));
        marked = mark_keeps moves rows rows' added_keeps mark' at (step + 1) inside marked;
      }

-- ---- the steps of one core
module _ {C : Type 0} (moves : Moves C) (rows : List Row) (limit at count : ℕ) (here : C) (counted : count ≡ length (moves.after here)) where
  pub next_knows : (seen : List (List ℕ × ℕ)) (whole : Bool) (mark : Option Place) → slice_get (cores_of moves rows) at ≡ Some here
      → Knows moves rows seen whole mark limit at count → Knows moves rows seen whole mark limit (at + 1) zero
  next_knows seen whole mark there knows = record {
    known = knows.known;
    up_to = λ w. all_tried moves rows seen at count count here (knows.up_to w) there counted (omega arith);
    cut = knows.cut;
    few = knows.few;
    marked = mark_next moves rows mark at count here there counted knows.marked;
  }

  pub none_settles : count ≡ zero → IsSettled moves rows limit here None
  none_settles none = record {
    is = λ to leads has. absurd (omega (arith, none, counted, slice_get_within (moves.after here) (length (moves.after here) - 1) to leads));
    full = λ _. inl (omega (arith, none, counted));
  }

  pub last_settles : (last : Option ℕ) → LeadsTo moves rows limit here (count - 1) last → IsSettled moves rows limit here last
  last_settles None leads = record {
    is = λ to leads' has. leads.1 to (ap (λ n. slice_get (moves.after here) (n - 1)) counted ∙ leads') has;
    full = λ _. inr leads.0;
  }
  last_settles (Some number) leads = record {
    is = (leads.0, sym (ap (λ n. slice_get (moves.after here) (n - 1)) counted) ∙ leads.1, leads.2);
    full = λ e. absurd cc;
  }

-- ---- the end
pub goes_within : (a n : ℕ) (s : Bool) → (nat_lt a n && not s) ≡ true → a < n
goes_within a n s e = by (nat_lt a n) refl e
  where
    by : (b : Bool) → nat_lt a n ≡ b → (b && not s) ≡ true → a < n
    by true h e = grind (arith, nat_tests)
    by false h e = absurd cc

pub ends_after : (a n : ℕ) (s : Bool) → (nat_lt a n && not s) ≡ false → s ≡ false → n ≤ a
ends_after a n s e none = by (nat_lt a n) refl e
  where
    by : (b : Bool) → nat_lt a n ≡ b → (b && not s) ≡ false → n ≤ a
    by true h e = absurd (true≢false (ap not (sym none) ∙ e))
    by false h e = grind (arith, nat_tests)

-- nor is it stopped where nothing that is looked for was found
pub not_stopped : (until : Bool) (mark : Option Place) → mark ≡ None → is_stopped until mark ≡ false
not_stopped true mark e = ap is_some e
not_stopped false mark e = refl

pub all_gone : (a : Bool) (n m : ℕ) → (a && n == m) ≡ true → (a ≡ true) × (n ≡ m)
all_gone true n m e = (refl, eqb-true n m e)
all_gone false n m e = absurd cc

pub not_all : (a : Bool) (n m : ℕ) → (a && n == m) ≡ false → n ≡ m → a ≡ false
not_all true n m e same = absurd (true≢false (sym (eq-eqb n m same) ∙ e))
not_all false n m e same = refl

module _ {C : Type 0} (moves : Moves C) (rows : List Row) (seen : List (List ℕ × ℕ)) (whole : Bool) (mark : Option Place) (lasts : List (Option ℕ))
    (limit at tried : ℕ) (exploring : Exploring moves rows seen whole mark lasts limit at tried) where
  -- nothing that is looked for was found before the last core
  pub no_mark : length rows ≤ at → IsMark moves rows None at zero → HasNoMark moves (cores_of moves rows)
  no_mark all none core step has within =
      let less : has.0 < at = omega (arith, all, as_many moves rows, slice_get_within (cores_of moves rows) has.0 core has.1) in
      none has.0 step core (omega (arith, less), (λ back. absurd (omega (arith, less, back)))) has.1 within

  pub has_lasts : HasLasts moves (cores_of moves rows) lasts
  has_lasts i core last core_at last_at = (exploring.settled i core last core_at last_at).is

  pub marks : (mark ≡ None → length rows ≤ at)
      → MatchOption mark (HasNoMark moves (cores_of moves rows)) (IsFirstMark moves (cores_of moves rows))
  marks all = by mark refl exploring.knows.marked
    where
      by : (m : Option Place) → mark ≡ m → IsMark moves rows m at zero
          → MatchOption m (HasNoMark moves (cores_of moves rows)) (IsFirstMark moves (cores_of moves rows))
      by None e none = no_mark (all e) none
      by (Some place) e is = is

  pub nearest_marks : IfSome mark (IsNearestMark moves rows)
  nearest_marks = by mark exploring.knows.marked
    where
      by : (m : Option Place) → IsMark moves rows m at zero → IfSome m (IsNearestMark moves rows)
      by None none = tt
      by (Some place) is = is_nearest moves rows seen exploring.knows.known place is
