-- What each thread of the queue does, whichever it is, and what it begins as.
use Rattle.lwp_types.specs.Names.{KeepsLengths, Names}
use Rattle.lwp_types.specs.Poll.{Next, Polled}
use Rattle.lwp_types.specs.declared.call.Answer.{Answer}
use Rattle.lwp_types.specs.declared.call.Call.{Call}
use Rattle.queue_model.specs.Chance.{chance_of}
use Rattle.queue_model.specs.Desks.{desk_next, opening}
use Rattle.queue_model.specs.Threads.{host_next, server_next}
use Rattle.queue_model.specs.declared.actor.Actor.{Actor}
use Rattle.queue_model.specs.declared.actor.Actor.TheVariants as actors
use Rattle.queue_model.specs.declared.hall.Hall.{Hall}
use Rattle.std.specs.List.{range_with_len}
use Rattle.std.specs.Prelude.{List, [], codes, false, length, map, refl, suc, ℕ, ◌+◌, ◌/◌, ◌∷◌, ◌≡◌}

-- a call and what the thread is then; it leaves the names alone
abbrev pub with_names : {A : Type 0} → (A → Actor) → Names → Call × A → Polled Actor
with_names of names turn = (turn.0, of turn.1, names)

-- the next call of a thread
unfoldable pub actor_next : Next Actor
actor_next (actors.Hosting host) names got = with_names actors.Hosting names (host_next host)
actor_next (actors.Keeping desk) names got = with_names actors.Keeping names (desk_next desk got)
actor_next (actors.Serving server) names got = with_names actors.Serving names (server_next server got)

pub actor_next-keeps_lengths : (actor : Actor) (names : Names) (got : Answer)
    → KeepsLengths names (actor_next actor names got).2
unfolding actor_next
actor_next-keeps_lengths (actors.Hosting host) names got = record {
  threads = refl;
  monitors = refl;
  conditions = refl;
}
actor_next-keeps_lengths (actors.Keeping desk) names got = record {
  threads = refl;
  monitors = refl;
  conditions = refl;
}
actor_next-keeps_lengths (actors.Serving server) names got = record {
  threads = refl;
  monitors = refl;
  conditions = refl;
}

-- the threads of a hall: the host, the desk, and the servers, each with a stream of its own
abbrev pub host_of : Hall → Actor
host_of hall = actors.Hosting (record { created = 0; crew = hall.servers + 1; done = false })

abbrev pub desk_of : Hall → Actor
desk_of hall = actors.Keeping (opening hall.customers (chance_of hall.seed 0 hall.gap) hall.room (hall.service / 4))

abbrev pub server_of : Hall → ℕ → Actor
server_of hall stream =
    actors.Serving (record { services = chance_of hall.seed stream hall.service; end = 0; serves = false })

abbrev pub cast : Hall → List Actor
cast hall = host_of hall ∷ desk_of hall ∷ map (λ i. server_of hall (i + 2)) (range_with_len 0 hall.servers)

abbrev pub cast_names : Hall → List (List ℕ)
cast_names hall = codes "host" ∷ codes "desk" ∷ map (λ i. codes "server") (range_with_len 0 hall.servers)

-- each has a name
as_long : {A B : Type 0} (f : ℕ → A) (g : ℕ → B) (xs : List ℕ) → length (map f xs) ≡ length (map g xs)
as_long f g [] = refl
as_long f g (x ∷ xs) = (λ i. suc (as_long f g xs i))

pub names-as_many : (hall : Hall) → length (cast_names hall) ≡ length (cast hall)
names-as_many hall = (λ i. suc (suc (as_long (λ k. codes "server") (λ k. server_of hall (k + 2)) (range_with_len 0 hall.servers) i)))
