-- The trace of the way to the first core of a kind.
use Rattle.lwp_explore.specs.Cores.{World}
use Rattle.lwp_explore.specs.Ends.{IsSearched, Searched, has_kind, kinds_in}
use Rattle.lwp_explore.specs.Kinds.{only_calls}
use Rattle.lwp_explore.specs.Ways.{tail_of, way, way_text}
use Rattle.lwp_explore.specs.declared.ending.Ending.{Ending}
use Rattle.lwp_explore.specs.declared.ending.Ending.TheVariants as ending
use Rattle.lwp_explore.specs.declared.kinds.End.{End}
use Rattle.lwp_explore.specs.declared.kinds.End.TheVariants as end
use Rattle.lwp_explore.specs.declared.kinds.Kind.{Kind}
use Rattle.session_cores.specs.Core.{Core}
use Rattle.std.specs.List.{position}
use Rattle.std.specs.Prelude.{List, Some, [], length, replicate, slice_get, suc, zero, ℕ, ◌++◌, ◌<◌, ◌≡◌}

module _ {B : Type 0} (world : World B) where
  -- so many calls and one more lead back to a core, and no fewer do
  pub record IsRound (core : Core B) (n : ℕ) : Type 0 where
    pub back : only_calls world (suc n) core ≡ Some core
    pub first : (m : ℕ) → m < n → only_calls world (suc m) core ≡ Some core → ⊥

  -- so many steps are made after a path to a core with this end: those of one round, if it is endless
  abbrev pub AreAfter : Core B → End → ℕ → Type 0
  AreAfter core (end.Ended status) more = more ≡ 0
  AreAfter core end.Stuck more = more ≡ 0
  AreAfter core end.Endless more = (n : ℕ) × (more ≡ suc n) × IsRound core n

  module _ (procs : List (List ℕ)) where
    -- the trace of a kind: the lines along the path to its first core, and what comes after them
    pub record IsTraceOf (found : Searched B) (kind : Kind) (text : List ℕ) : Type 0 where
      pub at : ℕ
      pub first : position (has_kind kind) found.kinds ≡ Some at
      pub path : List ℕ
      pub along : slice_get found.paths at ≡ Some path
      pub core : Core B
      pub there : slice_get found.cores at ≡ Some core
      pub more : ℕ
      pub on : AreAfter core kind.end more
      -- from a core where a call is the only step, that is step 0
      pub said : text ≡ way_text procs (way world (path ++ replicate more 0)) ++ tail_of world core

    -- the text is the trace of the kind of this number, from 1
    abbrev pub TraceAt : Searched B → ℕ → List ℕ → Type 0
    TraceAt found zero text = ⊥
    TraceAt found (suc k) text = (kind : Kind) × (slice_get (kinds_in found.kinds) k ≡ Some kind) × IsTraceOf found kind text

    -- it is so, or there are not so many kinds, and no text
    abbrev pub TraceOf : Searched B → ℕ → List ℕ → Ending → Type 0
    TraceOf found k text ending.Well = TraceAt found k text
    TraceOf found k text ending.Missing = (length (kinds_in found.kinds) < k) × (text ≡ [])
    TraceOf found k text ending.Told = ⊥
    TraceOf found k text ending.Cut = ⊥
    TraceOf found k text (ending.Other e) = ⊥

    -- so it is of a right search
    pub record TraceSays (limit k : ℕ) (text : List ℕ) (ending : Ending) : Type 0 where
      pub found : Searched B
      pub right : IsSearched world limit found
      pub trace : TraceOf found k text ending
