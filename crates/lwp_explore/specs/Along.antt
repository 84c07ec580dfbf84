-- A session that goes along a path.
use Rattle.lwp_explore.specs.Cores.{after, steps_at}
use Rattle.lwp_explore.specs.Sessions.{world_of}
use Rattle.lwp_explore.specs.Standing.{IsFurther, Standing, core_now, trace_now}
use Rattle.lwp_explore.specs.Ways.{calls_in, steps_along, takes_in, way_text}
use Rattle.search.specs.Moves.{walk}
use Rattle.script_text.specs.Script.{proc_names}
use Rattle.std.specs.Prelude.{IfSome, List, Some, [], false, length, slice_get, ℕ, ◌++◌, ◌+◌, ◌∷◌, ◌≡◌}

-- the step of this number counts as the call or the take that it is
abbrev pub IsCounted : Standing → ℕ → Standing → Type 0
IsCounted old number new = IfSome (slice_get (steps_at (world_of old.script) (core_now old)) number) (λ step.
    (new.run.calls ≡ old.run.calls + calls_in (step ∷ [])) × (length new.run.takes ≡ length old.run.takes + takes_in (step ∷ [])))

-- a session has come along a path: to the core where it leads, by so many calls and takes, with the lines of its steps
pub record IsAlong (old : Standing) (path : List ℕ) (new : Standing) : Type 0 where
  pub further : IsFurther old new
  pub sound : new.failed ≡ false
  pub there : walk (after (world_of old.script)) (core_now old) path ≡ Some (core_now new)
  pub calls : new.run.calls ≡ old.run.calls + calls_in (steps_along (world_of old.script) (core_now old) path)
  pub takes : length new.run.takes ≡ length old.run.takes + takes_in (steps_along (world_of old.script) (core_now old) path)
  pub lines : trace_now new ≡ trace_now old ++ way_text (proc_names old.script) (steps_along (world_of old.script) (core_now old) path)
