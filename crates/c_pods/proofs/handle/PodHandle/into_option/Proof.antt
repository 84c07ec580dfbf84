-- A handle is taken apart: where its mark is set, a box is made of its address.
use Rattle.std.proofs.Common.{◌≡◌, List, [], ◌∷◌, ◌++◌, refl, sym, ap, ◌∙◌, lit<}
use mir.Val.{Val, vbool, vcons, vnil, has_ty}
use base.Logic.{SProp, emp}
use base.Fml.{ftrue}
use prog.Wp.{WpFn}
use types.Kit.{‵, raw, ◌⊛◌, some, later, prop, at_ret, ◌$◌, ◌∵◌, !, qed, by, move, keep, drop}
use types.Kit.{split, fsplit, fjoin, pick, await, regoal, rewrite, use0, use1, use2, feq_l}
use types.Run.{stop, fld, lit, un, of_opd, no_more, and_then, first, blocks, branches, skips, exec, returns, returns_within, enter}
use types.ByLocal.{alloc_all, pass_all, free_all, look_at, get, get_in, sets, lands_last, env}
use types.Match.{live}
use types.Part.{agg, sub, whole}
use contract.Monad.{fact, fact_i}
use contract.Running.{tables}
use denote.Exit.{yes}
use denote.Laws.{Is, shows}
use denote.Param.{layout}
use denote.RattleType.{RattleType, owns}
use denote.RawPtr.{ptr_val}
use denote.Signature.{type_at, types_at, plain}
use denote.Steps.{heard, nothing, peeks}
use denote.Triple.Call.{calls_at_last}
use denote.Triple.Walked.{Stays, stay_dropped, walk_of, Goes-dropped}
use Rattle.core.proofs.atomic.Steps.{Ptr-Good, fm}
use Rattle.core.proofs.cell.Inside.{Good}
use Rattle.core.proofs.option.Made.{Some-of, none_of}
use Rattle.std.specs.Prelude.{None, Option, Some, option_map}
use Rattle.std.specs.contracts.impls.GlobalAllocator.TheImpl.{ghosts}
use Rattle.std.proofs.raw_atomic.Walks.{proved_at, leaves}
use Rattle.c_pods.specs.Handle.{kept}
use Rattle.c_pods.specs.contracts.held_pod.HeldPod.{the_row as R}
use Rattle.c_pods.proofs.Boxes.{Boxed, Made, boxed_laws, makes, making, to_make, was_made}
use Rattle.c_pods.proofs.Handles.{held_out, last_holds, marked, unmarked, three, three_good}
use Rattle.c_pods.specs.contracts.handle.PodHandle as handle
use Rattle.c_pods.specs.contracts.handle.PodHandle.into_option.{ended, clauses}
use Rattle.c_pods.specs.contracts.handle.PodHandle.into_option.Key.{name as #self}
use Rattle.c_pods.proofs.handle.PodHandle.into_option.Statement.{statement}
use Rattle.c_pods.proofs.handle.PodHandle.into_option.Code as code

abbrev stayed : Stays ended.signature.params ended.kept
stayed = (stay_dropped (plain (λ _. handle.the_row)) yes, tt)

pub into_option_spec : {M : Type 1} → statement M
into_option_spec 𝓤 𝓛 𝓜 𝓡 wired =
    let 𝓣 = tables 𝓤 𝓛.H 𝓜 𝓡 𝓡.env in let c = clauses 𝓛 𝓜.mem 𝓡.returns in let fn = code.function in
    proved_at 𝓛 ended stayed c 𝓜 𝓡 (Goes-dropped 𝓛 0 (plain (λ _. handle.the_row)) yes (λ κs x f. refl), tt) #self fn (code.unfolded 𝓤 𝓛.H 𝓜 𝓡 wired) (λ z are.
    let d = z.0.3.0 in let a = d.alloc in let p = d.at in let Post : Val → SProp 𝓤 = (walk_of 𝓛 ended stayed c).post z in
    let Out : RattleType = type_at ended.signature.result z.0.0 in
    let met = makes 𝓤 𝓛 𝓜 𝓡 (code.calls-std_heap::GlobalAllocator::allocate 𝓡.env wired) (code.calls-std_heap::GlobalAllocator::deallocate 𝓡.env wired)
    (code.calls-std_heap::GlobalAllocator::grow 𝓡.env wired) (code.calls-std_heap::GlobalAllocator::shrink 𝓡.env wired)
    (code.calls-c_pods::Destruct++none::drop 𝓡.env wired) (code.calls-std_alloc::boxed::Box::from_raw 𝓡.env wired) in
    qed 𝓛 ((‵ ftrue ⊛ ‵ (owns (types_at ended.signature.params z.0.0) z.0.3 z.0.4)) ∷ raw ((c z.0.0 z.0.3).requires z.1) ∷ []) ∵ split ! $ drop ! $ fsplit ! $
    held_out ! d z.0.4.0 (λ h ws fits. fsplit ! $ feq_l ! (λ mark.
    regoal ! (λ (us : List Val). prop (WpFn 𝓤 𝓛.H 𝓣.C 𝓣.Λ fn (us ++ []) Post)) ws refl $
    enter ! 𝓣.C 𝓣.Λ fn (three (ptr_val p) (vbool d.made) h ∷ []) Post $ alloc_all ! (λ l.
    pass_all ! refl (three_good p d.made h fits, tt) $ let At = env fn.locals l in
    sets ! (of_opd ! (get_in ! (fld ! refl (stop !)) (sub ! 0 refl (whole !)))) refl (Ptr-Good p) $
    sets ! (of_opd ! (get_in ! (fld ! refl (stop !)) (sub ! 1 refl (whole !)))) refl (tt, tt) $
    sets ! (of_opd ! (get_in ! (fld ! refl (stop !)) (sub ! 2 refl (whole !)))) refl fits $
    sets ! (of_opd ! (get ! refl)) refl (tt, tt) $ sets ! (un ! (get ! refl) tt) refl (tt, tt) $ first ! $ branches ! (get ! refl)
    (λ empty. sets ! (agg ! (and_then ! (lit ! tt) (no_more !))) refl (tt, (record { fits = lit< tt }, tt)) $
    returns_within ! Post refl (look_at ! 0 refl) $ free_all ! refl $ keep ! [] $
    let is : d.pod ≡ None = unmarked d.pod d.made mark empty in let none : Out.Denot = None in
    let P : Type 0 = option_map (λ (x : Boxed.Denot). x.value) none ≡ d.pod in
    use0 𝓛 (raw (fact 𝓤 P)) (fact_i 𝓤 P (emp 𝓤) (sym is)) $
    use0 𝓛 (‵ (Out.own_val none (live 0 vnil ∷ []))) (none_of 𝓛 Boxed) $ nothing ! $ nothing ! $ fjoin ! $ nothing ! $
    by ! (leaves 𝓛 ended stayed c z (live 0 vnil) none (tt, tt) (tt, tt)))
    (λ full. skips ! $ exec ! 𝓣.C 𝓣.Λ At code.Mir.t-7 (at_ret At Post) $ first ! $ blocks ! $
    sets ! (of_opd ! (get ! refl)) refl fits $ sets ! (of_opd ! (get ! refl)) refl (Ptr-Good p) $ sets ! (of_opd ! (get ! refl)) refl (Ptr-Good p) $
    let there = marked d.pod d.made mark full in let x = there.0 in let y = to_make 𝓤 𝓛 𝓜 𝓡 a h p x in
    rewrite ! 0 (λ (v : Option R.Denot). ‵ (kept (ghosts.dealloc_token a) R p v)) there.1 refl $
    use2 𝓛 (raw ((Made 𝓤 𝓛 𝓜 𝓡).pre y)) (making 𝓤 𝓛 𝓜 𝓡 a h p x) $
    calls_at_last ! (fm 𝓛 𝓜 𝓡) (Made 𝓤 𝓛 𝓜 𝓡) met y (and_then ! (get ! refl) (and_then ! (get ! refl) (no_more !))) (λ u.
    use1 𝓛 (later (some (λ (b : Boxed.Denot). ‵ (Boxed.own_val b (u ∷ [])) ⊛ raw (fact 𝓤 (b.value ≡ x))))) (was_made 𝓤 𝓛 𝓜 𝓡 a h u p x) $
    await ! tt $ pick ! (λ b. split ! $ peeks ! Boxed (Is Boxed) (shows 𝓛 Boxed) b (u ∷ []) (λ is.
    let good : Good (layout Boxed) u = ((boxed_laws.lawful 𝓛).typed b (u ∷ []) is).0 in
    lands_last ! refl good $ exec ! 𝓣.C 𝓣.Λ At code.Mir.t-8 (at_ret At Post) $
    sets ! (of_opd ! (get ! refl)) refl good $ let one : Out.Denot = Some b in let word : Val = live 1 (vcons u vnil) in
    let P : Type 0 = option_map (λ (e : Boxed.Denot). e.value) one ≡ d.pod in
    sets ! (agg ! (and_then ! (lit ! tt) (and_then ! (get ! refl) (no_more !)))) refl (
      last_holds (has_ty (layout Boxed) u) good.0,
      (record { fits = lit< tt }, (good.1, tt)),
    )
    $
    use1 𝓛 (‵ (Out.own_val one (word ∷ []))) (Some-of 𝓛 Boxed b u) $ move ! (1 ∷ []) $ heard ! (b.value ≡ x) (λ same.
    returns ! (look_at ! 0 refl) $ free_all ! refl $ keep ! (0 ∷ []) $
    use0 𝓛 (raw (fact 𝓤 P)) (fact_i 𝓤 P (emp 𝓤) (ap (λ (e : R.Denot). Some e) same ∙ sym there.1)) $ nothing ! $ nothing ! $ fjoin ! $ nothing ! $
    move ! (0 ∷ 1 ∷ 3 ∷ 2 ∷ []) $ by ! (leaves 𝓛 ended stayed c z word one (tt, tt) (tt, tt)))))))))))
