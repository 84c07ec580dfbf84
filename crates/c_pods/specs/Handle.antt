-- What a handle owns: nothing where it is empty, else a block of memory with a pod in it.
use mathlib.Core.Bool.{Bool}
use mir.Syntax.{Ty}
use base.Fml.{Fml, ftrue, feq, fsep}
use denote.RattleType.{RattleType}
use denote.RawPtr.{Ptr}
use Rattle.std.specs.Box.Ownership.{box_owns}
use Rattle.std.specs.Prelude.{Option, Some, None, is_some}

-- the block at p with the value, if there is one
abbrev pub kept : (Ty → Ptr → Fml) → (R : RattleType) → Ptr → Option R.Denot → Fml
kept holds R p (Some x) = box_owns holds R p x
kept holds R p None = ftrue

-- a handle: a mark says whether there is a block
abbrev pub handle_owns : (Ty → Ptr → Fml) → (R : RattleType) → Bool → Ptr → Option R.Denot → Fml
handle_owns holds R made p value = fsep (feq Bool made (is_some value)) (kept holds R p value)
