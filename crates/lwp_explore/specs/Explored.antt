-- What a search of a script's sessions comes to.
use Rattle.lwp_explore.specs.Standing.{Standing}
use Rattle.script_body.specs.declared.thread_body.ThreadBody.{ThreadBody}
use Rattle.search.specs.Found.{HasKinds, HasLasts, HasNoMark, HasParentsBelow, IsComplete, IsDistinct, IsFirst, IsFirstMark, IsNearestMark, IsShortest}
use Rattle.search.specs.Found.{IsSound, LeadsOut, cores_of, steps_from}
use Rattle.search.specs.Moves.{Moves}
use Rattle.search.specs.declared.found.Found.{Found}
use Rattle.session_cores.specs.Core.{Core}
use Rattle.std.specs.Prelude.{IfSome, MatchOption, None, [], false, length, max, min, true, ℕ, ◌-◌, ◌^◌, ◌≡◌, ◌≤◌}

-- a session before its first step
pub record IsAtFirst (s : Standing) : Type 0 where
  pub sound : s.failed ≡ false
  pub calls : s.run.calls ≡ 0
  pub takes : s.run.takes ≡ []

-- a search to its end, with so many cores at most
pub record IsExplored (moves : Moves (Core ThreadBody)) (limit : ℕ) (found : Found) : Type 0 where
  pub sound : IsSound moves found.rows.items
  pub first : IsFirst moves found.rows.items
  pub shortest : IsShortest moves found.rows.items
  pub below : HasParentsBelow found.rows.items
  pub distinct : IsDistinct (cores_of moves found.rows.items)
  pub kinds : HasKinds moves found.rows.items
  pub complete : found.whole ≡ true → IsComplete moves (cores_of moves found.rows.items)
  pub cut : found.whole ≡ false → LeadsOut moves (cores_of moves found.rows.items)
  pub full : found.whole ≡ false → limit ≤ length found.rows.items
  pub few : length found.rows.items ≤ max 1 limit
  pub gone : length found.lasts.items ≡ length found.rows.items
  pub tried : found.tried ≡ min (steps_from moves (cores_of moves found.rows.items) (length found.rows.items)) (2 ^ 64 - 1)
  pub lasts : HasLasts moves (cores_of moves found.rows.items) found.lasts.items

-- a search for the first step that is looked for: it is that, or no step is, and then the search came to its end
pub record IsSoughtOut (moves : Moves (Core ThreadBody)) (limit : ℕ) (found : Found) : Type 0 where
  pub sound : IsSound moves found.rows.items
  pub below : HasParentsBelow found.rows.items
  pub marked : MatchOption found.marked (HasNoMark moves (cores_of moves found.rows.items)) (IsFirstMark moves (cores_of moves found.rows.items))
  pub nearest : IfSome found.marked (IsNearestMark moves found.rows.items)
  pub all : found.marked ≡ None → IsExplored moves limit found
