-- Who waits for whom, and the deadlocks: who waits in a cycle.
use Rattle.lwp_types.specs.Messages.{is_letter_of}
use Rattle.lwp_types.specs.MonitorRelease.{lock_of}
use Rattle.lwp_types.specs.State.{State, ThreadRow, is_thread, thread_of}
use Rattle.lwp_types.specs.declared.rows.Block.{Block}
use Rattle.lwp_types.specs.declared.rows.Letter.{Letter}
use Rattle.lwp_types.specs.declared.rows.Lock.{Lock}
use Rattle.std.specs.List.{find, flat_map}
use Rattle.std.specs.Prelude.{Bool, List, None, Option, Some, [], if◌then◌else◌, length, nat_lt, option_and_then}
use Rattle.std.specs.Prelude.{option_map, option_to_list, suc, zero, ℕ, ◌==◌, ◌∷◌}
use Rattle.lwp_types.specs.declared.rows.Block.TheVariants as block

-- to whom a thread's letter goes, received or not
abbrev pub receiver_of : List Letter → ℕ → Option ℕ
receiver_of letters t = option_map (λ letter. letter.to) (find (is_letter_of t) letters)

-- the owner of a monitor, if anybody holds it
abbrev pub owner_of : List Lock → ℕ → Option ℕ
owner_of locks m = option_map (λ lock. lock.owner) (lock_of locks m)

-- the thread that a receive names, if it names a thread; an agent is none, and not its owner either
abbrev pub named_thread : State → Option ℕ → Option ℕ
named_thread s None = None
named_thread s (Some x) = if is_thread s x then Some x else None

-- the one thread that t waits for, if it is blocked so
abbrev pub awaited_by : State → ℕ → Block → Option ℕ
awaited_by s t block.Not = None
awaited_by s t (block.Joining u) = Some u
awaited_by s t block.Sending = receiver_of s.letters t
awaited_by s t (block.Receiving from) = named_thread s from
awaited_by s t (block.Entering m) = owner_of s.locks m
awaited_by s t (block.Waiting c) = None
awaited_by s t block.Sleeping = None

-- the one thread that a thread waits for, if there is one
abbrev pub awaited : State → ThreadRow → Option ℕ
awaited s row = awaited_by s row.number row.block

-- the one thread that the thread of this number waits for, if there is one
abbrev pub next_of : State → ℕ → Option ℕ
next_of s t = option_and_then (awaited s) (thread_of s t)

-- here is the last of a round that began with t, or it goes on from the next
abbrev pub round_by : (ℕ → Option (List ℕ)) → ℕ → ℕ → Option ℕ → Option (List ℕ)
round_by rest t here None = None
round_by rest t here (Some u) = if u == t then Some (here ∷ []) else option_map (λ us. here ∷ us) (rest u)

-- from here on each and whom it waits for, until that is t: if it is so within n steps, and nobody on the way is less than t
abbrev pub round : (ℕ → Option ℕ) → ℕ → ℕ → ℕ → Option (List ℕ)
round next t zero here = None
round next t (suc n) here = if nat_lt here t then None else round_by (round next t n) t here (next here)

-- the cycle that has this thread as its least, from it on
abbrev pub cycle_from : State → ℕ → Option (List ℕ)
cycle_from s t = round (next_of s) t (length s.threads) t

-- all cycles, each from its least thread on, by the births of these
abbrev pub cycles : State → List (List ℕ)
cycles s = flat_map (λ row. option_to_list (cycle_from s row.number)) s.threads
