-- What a search for a line tells of a script's sessions.
use Rattle.lwp_explore.proofs.SearchedLaws.{is_searched, searched}
use Rattle.lwp_explore.specs.Cores.{Step, World, after, first_core, steps_at}
use Rattle.lwp_explore.specs.Cycles.{IsInCycle}
use Rattle.lwp_explore.specs.Explored.{IsExplored, IsSoughtOut}
use Rattle.lwp_explore.specs.LineSaid.{IsLost, IsNearest, IsNever}
use Rattle.lwp_explore.specs.Lines.{has_line}
use Rattle.lwp_explore.specs.Quiet.{quiet_nexts}
use Rattle.lwp_explore.specs.Searching.{script_moves, writes}
use Rattle.lwp_explore.specs.Sessions.{world_of}
use Rattle.lwp_explore.specs.Ways.{step_lines, tail_of}
use Rattle.script_body.specs.declared.thread_body.ThreadBody.{ThreadBody}
use Rattle.script_text.specs.Script.{proc_names}
use Rattle.script_text.specs.declared.script.Script.{Script}
use Rattle.search.proofs.KnownLemmas.{as_many}
use Rattle.search.proofs.Walks.{walk_push}
use Rattle.search.specs.Found.{HasNoMark, IsFirstMark, IsNearestMark, cores_of, path_of}
use Rattle.search.specs.Moves.{Moves, walk}
use Rattle.search.specs.declared.found.Found.{Found}
use Rattle.search.specs.declared.found.Place.{Place}
use Rattle.search.specs.declared.found.Row.{Row}
use Rattle.session_cores.specs.Core.{Core}
use Rattle.std.proofs.Common.{Bool, List, None, Option, Some, [], ap, arith, false, inl, inr, length, refl, slice_get, subst, suc, sym, true, zero, ℕ}
use Rattle.std.proofs.Common.{◌++◌, ◌<◌, ◌∙◌, ◌∷◌, ◌≡◌, ◌≤◌}
use Rattle.std.proofs.lemmas.Bool.{cases_lt, false≢true}
use Rattle.std.proofs.lemmas.List.{length-map}
use Rattle.std.proofs.lemmas.Option.{slice_get_past, slice_get_within}
use Rattle.std.specs.Option.{option_map_or}
use Rattle.std.specs.Prelude.{IfSome, IsSome, MatchOption, slice_index_or}

abbrev no_rounds : List Bool
no_rounds = []

-- the first step that is looked for can be gone to
module _ (script : Script) (sought : Option (List ℕ)) (limit : ℕ) (found : Found) (so : IsSoughtOut (script_moves script sought) limit found) (place : Place)
    (is : found.marked ≡ Some place) where
  first_mark : IsFirstMark (script_moves script sought) (cores_of (script_moves script sought) found.rows.items) place
  first_mark = subst (λ o. MatchOption o (HasNoMark (script_moves script sought) (cores_of (script_moves script sought) found.rows.items))
      (IsFirstMark (script_moves script sought) (cores_of (script_moves script sought) found.rows.items))) is so.marked

  pub place_low : place.core < length found.rows.items
  place_low = omega (
    arith,
    slice_get_within (cores_of (script_moves script sought) found.rows.items) place.core first_mark.from first_mark.there,
    as_many (script_moves script sought) found.rows.items,
  )

  past : (xs : List (Core ThreadBody)) (i : ℕ) → slice_get xs i ≡ None → length xs ≤ i
  past [] i e = omega arith
  past (x ∷ xs) zero e = absurd cc
  past (x ∷ xs) (suc i) e = omega (arith, past xs i e)

  pub leads_on : IsSome (walk (after (world_of script)) (first_core (world_of script)) (path_of found.rows.items place.core ++ place.step ∷ []))
  leads_on = by (slice_get (after (world_of script) first_mark.from) place.step) refl
    where
      by : (o : Option (Core ThreadBody)) → slice_get (after (world_of script) first_mark.from) place.step ≡ o
          → IsSome (walk (after (world_of script)) (first_core (world_of script)) (path_of found.rows.items place.core ++ place.step ∷ []))
      by None e = absurd (omega (arith, first_mark.within, past (after (world_of script) first_mark.from) place.step e))
      by (Some to) e = subst (λ o. IsSome o)
          (sym (walk_push (after (world_of script)) (first_core (world_of script)) first_mark.from to (path_of found.rows.items place.core) place.step
          (so.sound place.core first_mark.from first_mark.there) e)) refl

module _ (script : Script) (line : List ℕ) (limit : ℕ) (found : Found) (so : IsSoughtOut (script_moves script (Some line)) limit found) where
  abbrev world : World ThreadBody
  world = world_of script

  abbrev procs : List (List ℕ)
  procs = proc_names script

  abbrev moves : Moves (Core ThreadBody)
  moves = script_moves script (Some line)

  abbrev rows : List Row
  rows = found.rows.items

  abbrev cores : List (Core ThreadBody)
  cores = cores_of moves rows

  abbrev has_told : Step ThreadBody → Bool
  has_told step = has_line (step_lines procs step ++ tail_of world step.to) line

  within_if : (core : Core ThreadBody) (n : ℕ) → writes world procs line core n ≡ true → n < length (after world core)
  within_if core n h = by (slice_get (steps_at world core) n) refl h
    where
      by : (o : Option (Step ThreadBody)) → slice_get (steps_at world core) n ≡ o → option_map_or has_told o false ≡ true → n < length (after world core)
      by None e h = absurd (false≢true h)
      by (Some step) e h = omega (arith, slice_get_within (steps_at world core) n step e, length-map (steps_at world core) (λ (s : Step ThreadBody). s.to))

  no_step : (core : Core ThreadBody) (n : ℕ) → length (after world core) ≤ n → writes world procs line core n ≡ false
  no_step core n over = ap (λ o. option_map_or has_told o false)
      (slice_get_past (steps_at world core) n (omega (arith, over, length-map (steps_at world core) (λ (s : Step ThreadBody). s.to))))

  module _ (place : Place) (is : found.marked ≡ Some place) where
    mark : IsFirstMark moves cores place
    mark = subst (λ o. MatchOption o (HasNoMark moves cores) (IsFirstMark moves cores)) is so.marked

    near : IsNearestMark moves rows place
    near = subst (λ o. IfSome o (IsNearestMark moves rows)) is so.nearest

    pub nearest_is : IsNearest world procs line (path_of rows place.core) place.step
    nearest_is = record {
      core = mark.from;
      leads = so.sound place.core mark.from mark.there;
      told = mark.marked;
      nearest = λ other that n hw w before. near other that n hw (within_if that n w) w before;
    }

  module _ (none : found.marked ≡ None) where
    abbrev all : IsExplored moves limit found
    all = so.all none

    no_mark : HasNoMark moves cores
    no_mark = subst (λ o. MatchOption o (HasNoMark moves cores) (IsFirstMark moves cores)) none so.marked

    no_line : (core : Core ThreadBody) (n : ℕ) (at : ℕ) → slice_get cores at ≡ Some core → writes world procs line core n ≡ false
    no_line core n at there = elim (cases_lt n (length (after world core))) [
      | inl low ↦ no_mark core n (at, there) low
      | inr over ↦ no_step core n over
    ]

    pub never_is : found.whole ≡ true → IsNever world procs line
    never_is whole path core n leads = let has = all.complete whole core (path, leads) in no_line core n has.0 has.1

    pub lost_is : found.whole ≡ false → length script.clients ≤ 16 → 1 ≤ limit → limit ≤ 1000000 → IsLost world procs line limit
    lost_is cut clients some few = record {
      found = searched script (Some line) limit found all clients some few no_rounds no_round not_whole;
      right = is_searched script (Some line) limit found all clients some few no_rounds no_round not_whole;
      cut = cut;
      none = λ core n has. no_line core n has.0 has.1;
    }
      where
        no_round : (c : ℕ) → slice_index_or no_rounds c false ≡ true → IsInCycle (quiet_nexts found.rows.items found.lasts.items) c
        no_round c h = absurd (false≢true h)

        not_whole : found.whole ≡ true → (c : ℕ) → IsInCycle (quiet_nexts found.rows.items found.lasts.items) c → slice_index_or no_rounds c false ≡ true
        not_whole whole = absurd (false≢true (sym cut ∙ whole))
