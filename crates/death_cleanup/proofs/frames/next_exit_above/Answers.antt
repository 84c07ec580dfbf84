use Rattle.death_cleanup.proofs.Leaving.{deep-none, left-here, marks-here}
use Rattle.death_cleanup.proofs.frames.next_exit_above.Goals as goal
use Rattle.lwp_types.specs.Exceptions.{frames}
use Rattle.stale_ids.specs.Register.{value_of}
use Rattle.std.proofs.Common.{None, Some, ap, arith, sym, ◌∙◌, ◌≡◌}

pub returns-in_default-clause-left : goal.returns-in_default-clause-left
returns-in_default-clause-left c =
    let none : value_of c.args.tid c.args.parts.now.ids.live
    ≡ None = ap (λ n. value_of n c.args.parts.now.ids.live) (sym c.tid.view_is) ∙ sym c.in_default.ensures.value in
    absurd (deep-none c.args.parts.now c.args.tid c.args.depth c.get_mut.ensures.rising none c.requires.least c.requires.most)

pub returns-in_default-clause-next : goal.returns-in_default-clause-next
returns-in_default-clause-next c =
    let none : value_of c.args.tid c.args.parts.now.ids.live
    ≡ None = ap (λ n. value_of n c.args.parts.now.ids.live) (sym c.tid.view_is) ∙ sym c.in_default.ensures.value in
    absurd (deep-none c.args.parts.now c.args.tid c.args.depth c.get_mut.ensures.rising none c.requires.least c.requires.most)

pub unwind_to-requires-clause-most : goal.unwind_to-requires-clause-most
unwind_to-requires-clause-most c =
    let here : value_of c.args.tid c.args.parts.now.ids.live
    ≡ Some c.in-Some.kind.now = ap (λ n. value_of n c.args.parts.now.ids.live) (sym c.tid.view_is) ∙ sym c.in-Some.ensures.value in
    omega (arith, c.requires.most, ap frames (marks-here c.args.parts.now c.args.tid c.in-Some.kind.now c.get_mut.ensures.rising here))

pub returns-clause-left : goal.returns-clause-left
returns-clause-left c =
    let here : value_of c.args.tid c.args.parts.now.ids.live
    ≡ Some c.in-Some.kind.now = ap (λ n. value_of n c.args.parts.now.ids.live) (sym c.tid.view_is) ∙ sym c.in-Some.ensures.value in
    rw (c.tid.view_is, c.unwind_to.ensures.left) (left-here c.args.parts.now c.args.tid c.args.depth c.in-Some.kind.now c.get_mut.ensures.rising here)

pub returns-clause-next : goal.returns-clause-next
returns-clause-next c =
    let here : value_of c.args.tid c.args.parts.now.ids.live
    ≡ Some c.in-Some.kind.now = ap (λ n. value_of n c.args.parts.now.ids.live) (sym c.tid.view_is) ∙ sym c.in-Some.ensures.value in
    rw (marks-here c.args.parts.now c.args.tid c.in-Some.kind.now c.get_mut.ensures.rising here) c.unwind_to.ensures.next
