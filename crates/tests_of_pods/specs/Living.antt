-- Those that live in the example of a death, before and after three of them wait by name.
use Rattle.death_cleanup.specs.Example.{ids, stack, thread}
use Rattle.death_cleanup.specs.declared.rows.Kind.{Kind}
use Rattle.death_cleanup.specs.declared.rows.Kind.TheVariants as kind
use Rattle.lwp_types.specs.declared.rows.Block.{Block}
use Rattle.lwp_types.specs.declared.rows.Block.TheVariants as block
use Rattle.lwp_types.specs.declared.rows.Mark.TheVariants as mark
use Rattle.stale_ids.specs.Register.{Register}
use Rattle.std.specs.Prelude.{List, [], ℕ, ◌∷◌}

-- the threads 3 to 5 wait so
abbrev pub living_as : Block → Block → Block → List (ℕ × Kind)
living_as third fourth fifth =
    (0, thread (block.Waiting 0) stack)
    ∷ (1, thread block.Sending (mark.Frame ∷ []))
    ∷ (2, thread block.Sending (mark.Frame ∷ []))
    ∷ (3, thread third (mark.Frame ∷ []))
    ∷ (4, thread fourth (mark.Frame ∷ []))
    ∷ (5, thread fifth (mark.Frame ∷ []))
    ∷ (6, thread (block.Entering 0) (mark.Frame ∷ []))
    ∷ (7, thread (block.Entering 1) (mark.Frame ∷ []))
    ∷ (8, kind.Agent)
    ∷ []

abbrev pub register_as : Block → Block → Block → Register Kind
register_as third fourth fifth = record ids { live = living_as third fourth fifth }
