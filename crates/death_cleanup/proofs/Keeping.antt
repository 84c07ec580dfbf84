-- How the invariant between the parts is kept.
use Rattle.death_cleanup.proofs.Notes.{noted-block}
use Rattle.death_cleanup.proofs.Looks.{IsRanked-waked, IsRoomy-waked, IsTied-waked, waked-is}
use Rattle.death_cleanup.specs.Comes.{CameTo}
use Rattle.death_cleanup.specs.Moves.{after_wake}
use Rattle.death_cleanup.specs.Named.{IsNoteOf, NameNote}
use Rattle.death_cleanup.specs.Ties.{InStep}
use Rattle.death_cleanup.specs.View.{state_of}
use Rattle.death_cleanup.specs.declared.parts.Parts.{Parts}
use Rattle.agents.specs.Roster.{Roster}
use Rattle.lwp_types.specs.State.{is_blocked_in}
use Rattle.lwp_types.specs.Unblock.{unblock}
use Rattle.lwp_types.specs.declared.call.Answer.{Answer}
use Rattle.lwp_types.specs.declared.call.Effect.{Effect}
use Rattle.lwp_types.specs.declared.call.Effect.TheVariants as effect
use Rattle.lwp_types.specs.declared.rows.Block.TheVariants as block
use Rattle.rendezvous.specs.MessageTable.{MessageTable}
use Rattle.std.proofs.Common.{List, [], arith, length, refl, true, ℕ, ◌++◌, ◌∷◌, ◌≡◌, ◌≤◌}

module _ (parts : Parts) (step : InStep parts) where
  pub InStep-waked : (t : ℕ) → InStep (after_wake parts t)
  InStep-waked t = record {
    tied = IsTied-waked parts step.tied t;
    ranked = IsRanked-waked parts t step.ranked;
    roomy = IsRoomy-waked parts t step.roomy;
    monitors = step.monitors;
    conditions = step.conditions;
    noted = noted-block parts.named t block.Not refl parts.ids.live step.noted;
  }

  -- another note, which has all that wait by name
  pub InStep-noted : (named : NameNote) → IsNoteOf named parts.ids.live → InStep (record parts { named = named })
  InStep-noted named noted = record {
    tied = record { known = step.tied.known; waits = step.tied.waits };
    ranked = record { requests = step.ranked.requests; waits = step.ranked.waits };
    roomy = record { letters = step.roomy.letters; threads = step.roomy.threads; requests = step.roomy.requests; waits = step.roomy.waits };
    monitors = step.monitors;
    conditions = step.conditions;
    noted = noted;
  }

  -- other letters, with as many places
  pub InStep-mail : (mail : MessageTable) → mail.places ≡ parts.mail.places → InStep (record parts { mail = mail })
  InStep-mail mail same = record {
    tied = record { known = step.tied.known; waits = step.tied.waits };
    ranked = record { requests = step.ranked.requests; waits = step.ranked.waits };
    roomy = record {
      letters = omega (arith, same, step.roomy.letters);
      threads = step.roomy.threads;
      requests = step.roomy.requests;
      waits = step.roomy.waits;
    };
    monitors = step.monitors;
    conditions = step.conditions;
    noted = step.noted;
  }

  -- other agents, no more than before
  pub InStep-agents : (agents : Roster) → length agents.agents ≤ length parts.agents.agents → InStep (record parts { agents = agents })
  InStep-agents agents few = record {
    tied = record { known = step.tied.known; waits = step.tied.waits };
    ranked = record { requests = step.ranked.requests; waits = step.ranked.waits };
    roomy = record { letters = omega (arith, few, step.roomy.letters); threads = step.roomy.threads; requests = step.roomy.requests; waits = step.roomy.waits };
    monitors = step.monitors;
    conditions = step.conditions;
    noted = step.noted;
  }

  -- a thread goes on
  pub came_waked : (t : ℕ) (a : Answer) (effects : List Effect) → is_blocked_in (state_of parts) t ≡ true
      → CameTo parts (after_wake parts t) effects (effects ++ effect.Answered t a ∷ []) (unblock a t (state_of parts))
  came_waked t a effects waits = record { state = waked-is parts t waits; effects = refl; step = InStep-waked t; dying = refl }
