use Rattle.monitors.proofs.LinkLaws.{owner_pushed}
use Rattle.monitors.proofs.locks.file_owner.Goals as goal
use Rattle.monitors.proofs.locks.file_owner.Goals.{else-is_some, then-is_some}
use Rattle.monitors.specs.declared.slots.Link.{Link}
use Rattle.std.proofs.Common.{arith, is_some, refl, true, ℕ, ◌+◌, ◌∙◌, ◌≡◌, ◌≢◌, ◌≤◌}
use Rattle.lists.specs.ThreadIndex.{count_of, place_of}

pub returns-clause-owners : goal.returns-clause-owners
returns-clause-owners c =
    let was = c.args.last.now in
    let owner = c.args.lock.now.owner in
    let between : ((t : ℕ) → t ≢ owner → place_of c.if-is_some.last t ≡ place_of was t) × (count_of c.if-is_some.last ≤ count_of was)
    × (is_some c.place_of-below.result ≡ true → count_of c.if-is_some.last + 1 ≤ count_of was) =
    elim c.if-is_some.branch [
      | then-is_some w
          ↦ rw w.last-is (λ t away. w.take.ensures.puts.others t away, omega (arith, w.take.ensures.count), λ known. omega (arith, w.take.ensures.count))
      | else-is_some w ↦ rw w.last-is (λ t away. refl, omega arith, λ known. absurd (cc))
    ] in
    let link : Link = record { owner = owner; below = c.place_of-below.result } in
    rw c.push_reserved.ensures.items (owner_pushed c.args._slots.now c.args.links.now.items was c.put.new.self c.requires.owners
    c.args.lock.now c.args.slot c.requires.behind link refl c.place_of-below.ensures
    c.put.ensures.puts.here
    (λ t away. c.put.ensures.puts.others t away ∙ between.0 t away)
    (omega (arith, c.put.ensures.count, between.1))
    (λ known. omega (arith, c.put.ensures.count, between.2 known)))
