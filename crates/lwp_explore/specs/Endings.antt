-- Sessions that go on as long as they can, and whose lines keep coming.
use Rattle.lwp_explore.specs.Cores.{World, after, first_core, steps_at, takes_at}
use Rattle.lwp_explore.specs.Ends.{IsSearched, Searched}
use Rattle.lwp_explore.specs.KindText.{is_other}
use Rattle.lwp_explore.specs.Kinds.{IsOfKind, halt_of}
use Rattle.lwp_explore.specs.declared.kinds.End.TheVariants as end
use Rattle.lwp_explore.specs.declared.kinds.Kind.{Kind}
use Rattle.session_cores.specs.Core.{Core}
use Rattle.std.specs.Prelude.{Bool, List, MatchBool, Option, Some, false, is_some, length, slice_get, suc, true, ℕ, ◌<◌, ◌==◌, ◌≡◌, ◌≤◌, ◌⊎◌}

-- the step of this number leads on, or there is none and it stays
abbrev pub IsOn : {B : Type 0} → World B → Core B → ℕ → Core B → Type 0
IsOn world from number to = MatchBool (length (steps_at world from) == 0) (to ≡ from) (slice_get (after world from) number ≡ Some to)

-- a session that goes on as long as a step can be made: its core after each number of steps, and the number of the step that is made there
pub record LongSession {B : Type 0} (world : World B) : Type 0 where
  pub core : ℕ → Core B
  pub step : ℕ → ℕ
  pub begins : core 0 ≡ first_core world
  pub goes : (n : ℕ) → IsOn world (core n) (step n) (core (suc n))

-- a session with this core is over
abbrev pub is_over : {B : Type 0} → World B → Core B → Bool
is_over world core = is_some (halt_of world core)

-- after n steps or later a line is taken, unless the session is over before
pub record TakesLater {B : Type 0} (world : World B) (session : LongSession world) (n : ℕ) : Type 0 where
  pub at : ℕ
  pub later : n ≤ at
  pub takes : (is_over world (session.core at) ≡ true) ⊎ (session.step at < length (takes_at world (session.core at)))

-- wherever a line can be taken, one is taken, sooner or later
abbrev pub LinesKeepComing : {B : Type 0} (world : World B) → LongSession world → Type 0
LinesKeepComing world session = (n : ℕ) → 0 < length (takes_at world (session.core n)) → TakesLater world session n

-- none of these kinds is stuck or endless
abbrev pub AreEnded : List (Option Kind) → Type 0
AreEnded kinds = (at : ℕ) (kind : Kind) → slice_get kinds at ≡ Some (Some kind) → is_other kind.end ≡ false

-- after some steps the pod has ended, with a status that is listed
pub record EndsListed {B : Type 0} (world : World B) (kinds : List (Option Kind)) (session : LongSession world) : Type 0 where
  pub steps : ℕ
  pub at : ℕ
  pub kind : Kind
  pub status : ℕ
  pub listed : slice_get kinds at ≡ Some (Some kind)
  pub ended : kind.end ≡ end.Ended status
  pub ends : IsOfKind world (session.core steps) kind

-- where a search found all cores, and none that is stuck or endless, each session whose lines keep coming ends so
abbrev pub SessionsEnd : Type 0 → Type 0
SessionsEnd B = (world : World B) (limit : ℕ) (found : Searched B) → IsSearched world limit found → found.whole ≡ true → AreEnded found.kinds
    → (session : LongSession world) → LinesKeepComing world session → EndsListed world found.kinds session
