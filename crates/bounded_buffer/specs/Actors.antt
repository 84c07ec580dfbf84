-- What each thread of the example does, whichever it is, and what it begins as.
use Rattle.bounded_buffer.specs.Buffer.{buffer_next, opening}
use Rattle.bounded_buffer.specs.Clients.{consumes, produces}
use Rattle.bounded_buffer.specs.declared.actor.Actor.{Actor}
use Rattle.bounded_buffer.specs.declared.actor.Actor.TheVariants as actors
use Rattle.lwp_types.specs.Names.{KeepsLengths, Names}
use Rattle.lwp_types.specs.Poll.{Next, Polled}
use Rattle.lwp_types.specs.declared.call.Answer.{Answer}
use Rattle.lwp_types.specs.declared.call.Call.{Call}
use Rattle.std.specs.Prelude.{List, [], codes, refl, ℕ, ◌∷◌}

-- a call and what the thread is then; it leaves the names alone
abbrev pub with_names : {A : Type 0} → (A → Actor) → Names → Call × A → Polled Actor
with_names of names turn = (turn.0, of turn.1, names)

-- the next call of a thread
unfoldable pub actor_next : Next Actor
actor_next (actors.Buffering buffer) names got = with_names actors.Buffering names (buffer_next buffer got)
actor_next (actors.Producing producer) names got = with_names actors.Producing names (produces producer)
actor_next (actors.Consuming consumer) names got = with_names actors.Consuming names (consumes consumer got)

pub actor_next-keeps_lengths : (actor : Actor) (names : Names) (got : Answer)
    → KeepsLengths names (actor_next actor names got).2
unfolding actor_next
actor_next-keeps_lengths (actors.Buffering buffer) names got = record {
  threads = refl;
  monitors = refl;
  conditions = refl;
}
actor_next-keeps_lengths (actors.Producing producer) names got = record {
  threads = refl;
  monitors = refl;
  conditions = refl;
}
actor_next-keeps_lengths (actors.Consuming consumer) names got = record {
  threads = refl;
  monitors = refl;
  conditions = refl;
}

-- two producers of two items each, one consumer of four, and room for one item
abbrev pub cast : List Actor
cast =
    actors.Buffering (opening 3 1 4)
    ∷ actors.Producing (record { item = codes "apple"; left = 2 })
    ∷ actors.Producing (record { item = codes "pear"; left = 2 })
    ∷ actors.Consuming (record { left = 4 })
    ∷ []

abbrev pub cast_names : List (List ℕ)
cast_names = codes "buffer" ∷ codes "apples" ∷ codes "pears" ∷ codes "eater" ∷ []
