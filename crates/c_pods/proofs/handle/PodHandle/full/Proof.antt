-- A box is taken apart, and its address goes into a handle.
use Rattle.std.proofs.Common.{◌≡◌, List, [], ◌∷◌, ◌++◌, refl, ap}
use mathlib.Core.Bool.{Bool, true}
use mir.Val.{Val, vbool}
use base.Logic.{SProp, emp}
use base.Fml.{ftrue}
use prog.Wp.{WpFn}
use types.Kit.{‵, raw, ◌⊛◌, some, later, prop, ◌$◌, ◌∵◌, !, qed, by, move, keep, drop, split, fsplit, fjoin, pick, await, regoal, use0, use1, feq_i}
use types.Run.{stop, fld, of_opd, true_lit, no_more, and_then, returns, enter}
use types.ByLocal.{alloc_all, pass_all, free_all, look_at, get, get_in, sets, lands_as}
use types.Part.{agg, sub, whole}
use contract.Monad.{fact, fact_i}
use contract.Running.{tables}
use denote.Exit.{no}
use denote.RattleType.{owns}
use denote.RawPtr.{Ptr, ptr_val}
use denote.Signature.{types_at, plain}
use denote.Steps.{nothing, only}
use denote.Triple.Call.{calls_at}
use denote.Triple.Walked.{Stays, stay_dropped, walk_of}
use Rattle.core.proofs.alloc.Calls.{Goes-blank, handle_tells}
use Rattle.core.proofs.atomic.Steps.{Ptr-Good, fm}
use Rattle.std.specs.Box.Ownership.{box_owns}
use Rattle.std.specs.Prelude.{Option, Some}
use Rattle.std.specs.contracts.impls.GlobalAllocator.TheImpl.{ghosts}
use Rattle.std.proofs.raw_atomic.Walks.{proved_at, leaves}
use Rattle.c_pods.specs.contracts.held_pod.HeldPod.{the_row as R}
use Rattle.c_pods.specs.declared.held_pod.HeldPod.{HeldPod}
use Rattle.c_pods.proofs.Boxes.{Boxed, Pair, Taken, boxed_word, takes, taking, to_take, was_taken}
use Rattle.c_pods.proofs.Handles.{held_in, pair_out, three, three_good, two_good}
use Rattle.c_pods.specs.contracts.handle.PodHandle.full.{ended, clauses}
use Rattle.c_pods.specs.contracts.handle.PodHandle.full.Key.{name as #self}
use Rattle.c_pods.proofs.handle.PodHandle.full.Statement.{statement}
use Rattle.c_pods.proofs.handle.PodHandle.full.Code as code

abbrev stayed : Stays ended.signature.params ended.kept
stayed = (stay_dropped (plain (λ _. Boxed)) no, tt)

pub full_spec : {M : Type 1} → statement M
full_spec 𝓤 𝓛 𝓜 𝓡 wired =
    let 𝓣 = tables 𝓤 𝓛.H 𝓜 𝓡 𝓡.env in let c = clauses 𝓛 𝓜.mem 𝓡.returns in let fn = code.function in
    proved_at 𝓛 ended stayed c 𝓜 𝓡 (Goes-blank 𝓛 0 (plain (λ _. Boxed)) no (λ κs x f. tt), tt) #self fn (code.unfolded 𝓤 𝓛.H 𝓜 𝓡 wired) (λ z are.
    let d = z.0.3.0 in let a = d.alloc in let Post : Val → SProp 𝓤 = (walk_of 𝓛 ended stayed c).post z in
    let one : Option HeldPod = Some d.value in
    let met = takes 𝓤 𝓛 𝓜 𝓡 (code.calls-std_heap::GlobalAllocator::allocate 𝓡.env wired) (code.calls-std_heap::GlobalAllocator::deallocate 𝓡.env wired)
    (code.calls-std_heap::GlobalAllocator::grow 𝓡.env wired) (code.calls-std_heap::GlobalAllocator::shrink 𝓡.env wired)
    (code.calls-c_pods::Destruct++none::drop 𝓡.env wired) (code.calls-std_alloc::boxed::Box::into_raw_with_allocator 𝓡.env wired)
    (code.calls-c_pods::c_pods++held_pod++HeldPod+Destruct::drop 𝓡.env wired) in
    qed 𝓛 ((‵ ftrue ⊛ ‵ (owns (types_at ended.signature.params z.0.0) z.0.3 z.0.4)) ∷ raw ((c z.0.0 z.0.3).requires z.1) ∷ []) ∵ split ! $ drop ! $ fsplit ! $
    handle_tells boxed_word ! d z.0.4.0 (λ w ws good.
    regoal ! (λ (us : List Val). prop (WpFn 𝓤 𝓛.H 𝓣.C 𝓣.Λ fn (us ++ []) Post)) ws refl $
    enter ! 𝓣.C 𝓣.Λ fn (w ∷ []) Post $ alloc_all ! (λ l. pass_all ! refl (good, tt) $
    sets ! (of_opd ! (get ! refl)) refl good $ use1 𝓛 (raw ((Taken 𝓤 𝓛 𝓜 𝓡).pre (to_take 𝓤 𝓛 𝓜 𝓡 d w))) (taking 𝓤 𝓛 𝓜 𝓡 d w) $
    calls_at ! (fm 𝓛 𝓜 𝓡) (Taken 𝓤 𝓛 𝓜 𝓡) met (to_take 𝓤 𝓛 𝓜 𝓡 d w) (and_then ! (get ! refl) (no_more !)) (λ u.
    use1 𝓛 (later (some (λ (p : Ptr). ‵ (Pair.own_val (p, a) (u ∷ [])) ⊛ ‵ (box_owns (ghosts.dealloc_token a) R p d.value)))) (was_taken 𝓤 𝓛 𝓜 𝓡 d w u) $
    await ! tt $ pick ! (λ p. split ! $ pair_out ! p a u (λ h is fits.
    lands_as ! (ap only is) refl (two_good p h fits) $
    sets ! (of_opd ! (get_in ! (fld ! refl (stop !)) (sub ! 0 refl (whole !)))) refl (Ptr-Good p) $
    sets ! (of_opd ! (get_in ! (fld ! refl (stop !)) (sub ! 1 refl (whole !)))) refl fits $
    sets ! (of_opd ! (get ! refl)) refl (Ptr-Good p) $
    sets ! (agg ! (and_then ! (get ! refl) (and_then ! (true_lit !) (and_then ! (get ! refl) (no_more !))))) refl (three_good p true h fits) $
    move ! (1 ∷ 0 ∷ []) $ feq_i ! Bool true true refl $ fjoin ! $ held_in ! p true h a one $
    returns ! (look_at ! 0 refl) $ free_all ! refl $ keep ! (0 ∷ []) $
    use0 𝓛 (raw (fact 𝓤 (one ≡ one))) (fact_i 𝓤 (one ≡ one) (emp 𝓤) refl) $ nothing ! $ nothing ! $ fjoin ! $ nothing ! $ move ! (0 ∷ 1 ∷ 3 ∷ 2 ∷ []) $
    by ! (leaves 𝓛 ended stayed c z (three (ptr_val p) (vbool true) h) (record { at = p; made = true; alloc = a; pod = one }) (tt, tt) (tt, tt))))))))
