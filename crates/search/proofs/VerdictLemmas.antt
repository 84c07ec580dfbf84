-- What the first row that has a kind says of all that a machine reaches.
use Rattle.search.proofs.KnownLemmas.{as_many}
use Rattle.search.proofs.Places.{get_within}
use Rattle.search.specs.Found.{HasKinds, IsComplete, IsDistinct, IsFirst, IsSound, LeadsOut, cores_of, path_of}
use Rattle.search.specs.Moves.{IsPath, Moves}
use Rattle.search.specs.Paths.{IsBefore}
use Rattle.search.specs.Verdicts.{HasNoKind, Holds, IsFailure, IsFirstOfKind, IsTooMuch}
use Rattle.search.specs.declared.found.Row.{Row}
use Rattle.std.proofs.Common.{List, None, Option, Some, arith, length, subst, sym, ℕ, ◌<◌, ◌∙◌, ◌≡◌, ◌≤◌}
use Rattle.std.proofs.lemmas.Option.{slice_get_within}
use Rattle.std.specs.Prelude.{IsSome, slice_get}

some_none : {X : Type 0} (o : Option X) → IsSome o → o ≡ None → ⊥
some_none None h e = absurd cc
some_none (Some x) h e = absurd cc

module _ {C : Type 0} (moves : Moves C) (rows : List Row) (kinds : HasKinds moves rows) where
  no_kind : (count at : ℕ) (core : C) → HasNoKind rows count → at < count → slice_get (cores_of moves rows) at ≡ Some core → moves.kind core ≡ None
  no_kind count at core none before there =
      let row = get_within rows at (omega (arith, as_many moves rows, slice_get_within (cores_of moves rows) at core there)) in
      sym (kinds at row.0 core row.1 there) ∙ none at row.0 before row.1

  pub no_failure : IsComplete moves (cores_of moves rows) → HasNoKind rows (length rows) → Holds moves
  no_failure complete none core reached =
      let found = complete core reached in
      no_kind (length rows) found.0 core none (omega (arith, as_many moves rows, slice_get_within (cores_of moves rows) found.0 core found.1)) found.1

  pub failure : IsSound moves rows → IsFirst moves rows → (number : ℕ) → IsFirstOfKind rows number → (path : List ℕ) → path ≡ path_of rows number
      → IsFailure moves path
  failure sound first number found path path_is =
      let inside : number < length rows = slice_get_within rows number found.row found.there in
      let core = get_within (cores_of moves rows) number (omega (arith, inside, as_many moves rows)) in
      record {
        core = core.0;
        leads = subst (λ p. IsPath moves p core.0) (sym path_is) (sound number core.0 core.1);
        fails = subst (λ k. IsSome k) (kinds number found.row core.0 found.there core.1) found.kind;
        nearest = λ other that led kind before. (let earlier = first number other that inside led (subst (λ p. IsBefore other p) path_is before) in
            some_none (moves.kind that) kind (no_kind number earlier.0 that found.before earlier.1 earlier.2));
      }

  pub too_much : (limit : ℕ) → IsSound moves rows → IsDistinct (cores_of moves rows) → LeadsOut moves (cores_of moves rows) → limit ≤ length rows
      → HasNoKind rows (length rows) → IsTooMuch moves limit
  too_much limit sound distinct further many none = record {
    cores = cores_of moves rows;
    distinct = distinct;
    many = omega (arith, many, as_many moves rows);
    reached = λ core has. (path_of rows has.0, sound has.0 core has.1);
    pass = λ core has. no_kind (length rows) has.0 core none (omega (
      arith,
      as_many moves rows,
      slice_get_within
          (cores_of moves rows) has.0 core has.1,
    )) has.1;
    further = further;
  }
