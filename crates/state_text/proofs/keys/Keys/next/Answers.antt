use Rattle.state_text.proofs.KeyLaws.{next_here, none_left}
use Rattle.state_text.specs.Keys.{AreCodes, code}
use Rattle.std.proofs.Common.{false, length, ltb, rules, sym, true, ℕ, ◌≡◌}
use Rattle.std.proofs.lemmas.Bool.{ltb-false, ltb-true}
use Rattle.std.proofs.lemmas.List.Sorted.{IsPartitionPoint-from_clause, IsPartitionedBy-ltb}
use Rattle.std.specs.List.Sorted.{IsPartitionPoint}
use Rattle.state_text.proofs.keys.Keys.next.Goals as goal

pub returns-in-Some : goal.returns-in-Some
returns-in-Some c =
    let codes = c.self.inside.codes.items in
    let at = c.partition_point-at.result in
    let least = c.code-least.result in
    let are : AreCodes c.self.inside.keys.items codes = c.self.invariant in
    let point = IsPartitionPoint-from_clause (λ (x : ℕ). ltb x least) codes at
    (rw c.deref.ensures.value at c.partition_point-at.ensures.partitioned) (IsPartitionedBy-ltb (λ (x : ℕ). x) codes least are.rise)
    (λ a r f called. (search rules, search rules)) in
    let here = rw c.deref-2.ensures.value at c.in-Some.ensures.lookup in
    rw (c.place_under.ensures, ← c.self.view_is)
    (next_here c.self.inside.keys.items codes are c.args.key c.args.from at (rw c.code-least.ensures at point) c.in-Some.code.now
    (ltb-true at (length codes) (sym here.0)) (sym here.1))

pub returns-in-None : goal.returns-in-None
returns-in-None c =
    let codes = c.self.inside.codes.items in
    let at = c.partition_point-at.result in
    let least = c.code-least.result in
    let are : AreCodes c.self.inside.keys.items codes = c.self.invariant in
    let point = IsPartitionPoint-from_clause (λ (x : ℕ). ltb x least) codes at
    (rw c.deref.ensures.value at c.partition_point-at.ensures.partitioned) (IsPartitionedBy-ltb (λ (x : ℕ). x) codes least are.rise)
    (λ a r f called. (search rules, search rules)) in
    let none = rw c.deref-2.ensures.value at c.in-None.ensures.lookup in
    rw (← c.self.view_is) (none_left c.self.inside.keys.items codes are c.args.key c.args.from at (rw c.code-least.ensures at point)
    (ltb-false at (length codes) (sym none.0)))
