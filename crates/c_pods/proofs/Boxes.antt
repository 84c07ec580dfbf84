-- The calls of the kit that take a pod's box apart and make it again: what each asks of a caller without lifetimes, and what it gives.
-- Assumes `Logic`.
use Rattle.std.proofs.Common.{◌≡◌, List, [], ◌∷◌, refl}
use seplogic.Ra.Ura.{Ura}
use mir.Syntax.{Dict, a_type, impl, method, no_args, tnil, tcons, dnil, dcons}
use mir.Raw.{raw as bare}
use mir.Val.{Val}
use base.Fraction.{full_share}
use base.Logic.{ent, sep, ex, emp, via, id⊢, emp∗, comm∗}
use base.Fml.{Fml, ftrue, fsep, flft}
use contract.BorrowLft.{◌⊑◌}
use contract.Monad.{fact, fact_i}
use contract.Running.{Running, tables_of}
use prog.Model.{Model}
use prog.Wired.{Wired}
use types.Logic.{Logic, sem}
use types.Kit.{‵, raw, ◌⊛◌, some, later, ◌$◌, ◌∵◌, !, qed, done, keep, move, drop, show, use0}
use types.Kit.{use1, split, join, split3, fjoin, feq_i, pick, await, rewrite, updating, now}
use denote.Exit.{no}
use denote.RattleType.{RattleType}
use denote.RawPtr.{Ptr, RawPtr, ptr_val}
use denote.Param.{arg, bounded, layout}
use denote.Param.Laws.{Laws, arg_laws}
use denote.Param.Glue as glue
use denote.Param.NoDrop as no_drop
use denote.Steps.{heard, nothing}
use denote.Struct.Tuple.{Tuple}
use denote.Triple.Clauses.{Lasts, lasts}
use denote.Triple.Entry.{alive}
use denote.Triple.Carry.{beside, spared}
use denote.Triple.Spec.{Spec, Meets, exits, triple_of}
use denote.Triple.Statement.{Contract, Triple}
use denote.Triple.Table.{run_framed, widened}
use Rattle.core.proofs.alloc.Calls.{Al}
use Rattle.std.specs.Box.Ownership.{box_owns}
use Rattle.std.specs.contracts.alloc.Global as heap
use Rattle.std.specs.contracts.boxed.Box as box
use Rattle.std.specs.contracts.impls.GlobalAllocator.TheImpl.{ghosts, dict}
use Rattle.std.proofs.alloc.Global.TheLaws as heap_laws
use Rattle.std.proofs.impls.GlobalAllocator.TheImpl.Met as heap_met
use Rattle.std.proofs.impls.GlobalAllocator.allocate.Symbol as allocate
use Rattle.std.proofs.impls.GlobalAllocator.deallocate.Symbol as deallocate
use Rattle.std.proofs.impls.GlobalAllocator.grow.Symbol as grow
use Rattle.std.proofs.impls.GlobalAllocator.shrink.Symbol as shrink
use Rattle.std_alloc.proofs.boxed.Box.from_raw.Met as makes_met
use Rattle.std_alloc.proofs.boxed.Box.from_raw.Symbol as makes_symbol
use Rattle.std_alloc.proofs.boxed.Box.into_raw_with_allocator.Met as takes_met
use Rattle.std_alloc.proofs.boxed.Box.into_raw_with_allocator.Symbol as takes_symbol
use Rattle.std.proofs.boxed.Box.TheLaws as box_laws
use Rattle.std_alloc.specs.contracts.boxed.Box.from_raw as made
use Rattle.std_alloc.specs.contracts.boxed.Box.into_raw_with_allocator as taken
use Rattle.c_pods.specs.contracts.held_pod.HeldPod.{the_row as R}
use Rattle.c_pods.proofs.Destruct++none.drop.Code.{code as no_drop_code}
use Rattle.c_pods.proofs.held_pod.HeldPod.TheLaws as pod_laws
use Rattle.c_pods.proofs.c_pods++held_pod++HeldPod+Destruct.drop.Symbol as pod_drop
use Rattle.c_pods.proofs.c_pods++held_pod++HeldPod+Destruct.drop.Met as pod_drop_met
use Rattle.c_pods.specs.contracts.c_pods++held_pod++HeldPod+Destruct.drop as pod_drop_is

abbrev pub Z : RattleType
Z = heap.the_row

abbrev pub Boxed : RattleType
Boxed = box.the_row R Z ghosts

abbrev pub boxed_laws : Laws Boxed
boxed_laws = box_laws.the_row_laws R Z ghosts pod_laws.the_row_laws heap_laws.the_row_laws

abbrev pub boxed_word : Al
boxed_word = record { row = Boxed; laws = boxed_laws; g = record { dealloc_token = λ a τ p. ftrue }; d = impl [] tnil dnil; drops = impl [] tnil dnil }

-- an address and the allocator, as `into_raw_with_allocator` returns them
abbrev pub Pair : RattleType
Pair = Tuple (RawPtr ∷ Z ∷ [])

-- the two types as arguments of a call, which passes their layouts
abbrev pub Pod : RattleType
Pod = arg (bare (layout R)) no R

abbrev pub pod_passed : Laws Pod
pod_passed = arg_laws (bare (layout R)) no R pod_laws.the_row_laws refl

abbrev pub Heap : RattleType
Heap = arg (bare (layout Z)) no Z

abbrev pub heap_passed : Laws Heap
heap_passed = arg_laws (bare (layout Z)) no Z heap_laws.the_row_laws refl

abbrev pub drops_heap : Dict
drops_heap = impl ("c_pods::Destruct++none::drop" ∷ []) (tcons (layout Heap) tnil) dnil

abbrev pub drops_pod : Dict
drops_pod = impl (pod_drop.symbol ∷ []) tnil dnil

-- a pod is dropped by the function that its derive writes
module _ {M : Type 1} (𝓤 : Ura M) (𝓛 : Logic 𝓤) where
  -- what a derived `drop` promises, where the caller brings a token
  abbrev dropped : Spec 𝓤 (glue.signature Pod)
  dropped κs a = record {
    ghost = Unit {0};
    requires = λ _. sep 𝓤 (fact 𝓤 (κs.0 ⊑ R.lives)) (emp 𝓤);
    ensures = λ _ r. exits 𝓛 (pod_drop_is.signature) pod_drop_is.ended.kept tt a (λ _. emp 𝓤);
  }

  pub pod_drops : (𝓜 : Model 𝓤 𝓛.H) (𝓡 : Running 𝓤 𝓛.H 𝓜) → Wired 𝓡.env pod_drop.code → glue.Met 𝓛 𝓜 𝓡 𝓡.env Pod drops_pod
  pod_drops 𝓜 𝓡 wired =
      let S = pod_drop_is.signature in let c = pod_drop_is.spec 𝓛 𝓜.mem 𝓡.returns in let k = method drops_pod 0 no_args in
      let framed = run_framed 𝓤 𝓛.H 𝓜 𝓡 (𝓡.env k) in
      let direct : Meets 𝓛 S (𝓡.run (𝓡.env k)) c = widened 𝓤 𝓛.H (triple_of 𝓛 S c) 𝓜 𝓡 𝓡.env (𝓡.env pod_drop.name) (𝓡.env k)
      (pod_drop.as_method 𝓡.env wired k refl) (pod_drop_met.met 𝓤 𝓛 𝓜 𝓡 wired) in
      beside 𝓛 (glue.signature Pod) (𝓡.run (𝓡.env k)) framed dropped (glue.spent 𝓛 Pod) (λ κs a g. tt) (λ κs a g. emp 𝓤)
      (λ κs a g. let P = (glue.spent 𝓛 Pod κs a).requires g in via 𝓤 (sep 𝓤 (emp 𝓤) P) (emp∗ 𝓤 P) (comm∗ 𝓤 (emp 𝓤) P))
      (λ κs a g r. qed 𝓛 (raw ((dropped κs a).ensures tt r) ∷ raw (emp 𝓤) ∷ []) ∵ keep ! [] $
      show ! (λ (ws : Unit {0} × Unit {0}). sep 𝓤 (sem 𝓛 (fsep ftrue ftrue)) (emp 𝓤)) (tt, tt) $ nothing ! $ nothing ! $ nothing ! $ fjoin ! $ join ! $ done !)
      (spared 𝓛 S (𝓡.run (𝓡.env k)) framed 1 (R.lives, tt) c direct)

module _ {M : Type 1} (𝓤 : Ura M) (𝓛 : Logic 𝓤) (𝓜 : Model 𝓤 𝓛.H) (𝓡 : Running 𝓤 𝓛.H 𝓜) where
  open 𝓛 use {H}

  abbrev pub Taken : Contract 𝓤
  Taken = triple_of 𝓛 (taken.signature Pod Heap ghosts dict drops_heap drops_pod) (taken.spec Pod Heap ghosts dict drops_heap drops_pod 𝓛 𝓜.mem 𝓡.returns)

  abbrev pub Made : Contract 𝓤
  Made = triple_of 𝓛 (made.signature Pod Heap ghosts dict drops_heap) (made.spec Pod Heap ghosts dict drops_heap 𝓛 𝓜.mem 𝓡.returns)

  -- a caller picks the lifetime that never ends, whose token is free
  abbrev pub to_take : Boxed.Denot → Val → Taken.Ghost
  to_take d w = ((([], ([], tt)), (full_share, (full_share, tt)), tt, (d, tt), (w ∷ [], tt)), tt)

  abbrev pub to_make : Z.Denot → Val → Ptr → R.Denot → Made.Ghost
  to_make a h p x = ((([], ([], tt)), (full_share, (full_share, tt)), tt, (a, (p, tt)), (h ∷ [], (ptr_val p ∷ [], tt))), x)

  pub taking : (d : Boxed.Denot) (w : Val) → ent 𝓤 (sem 𝓛 (Boxed.own_val d (w ∷ []))) (Taken.pre (to_take d w))
  taking d w = qed 𝓛 (‵ (Boxed.own_val d (w ∷ [])) ∷ []) ∵
      nothing ! $ move ! (1 ∷ 0 ∷ []) $ fjoin ! $
      nothing ! $ use0 𝓛 (‵ (flft [] full_share)) (𝓛.lfts.lft-nil full_share) $ join ! $ use0 𝓛 (‵ (flft [] full_share))
      (𝓛.lfts.lft-nil full_share) $ join ! $ join ! $
      nothing ! $ use0 𝓛 (raw (fact 𝓤 ([] ⊑ Z.lives))) (fact_i 𝓤 ([] ⊑ Z.lives) (emp 𝓤) (heap_laws.the_within [])) $ join ! $
      use0 𝓛 (raw (fact 𝓤 ([] ⊑ R.lives))) (fact_i 𝓤 ([] ⊑ R.lives) (emp 𝓤) (pod_laws.the_within [])) $ join ! $
      move ! (1 ∷ 0 ∷ []) $ join ! $ done !

  pub making : (a : Z.Denot) (h : Val) (p : Ptr) (x : R.Denot)
      → ent 𝓤 (sep 𝓤 (sem 𝓛 (box_owns (ghosts.dealloc_token a) R p x)) (sem 𝓛 (Z.own_val a (h ∷ [])))) (Made.pre (to_make a h p x))
  making a h p x = qed 𝓛 (‵ (box_owns (ghosts.dealloc_token a) R p x) ∷ ‵ (Z.own_val a (h ∷ [])) ∷ []) ∵
      nothing ! $ feq_i ! (List Val) (ptr_val p ∷ []) (ptr_val p ∷ []) refl $ fjoin ! $ move ! (2 ∷ 0 ∷ []) $ fjoin ! $
      nothing ! $ use0 𝓛 (‵ (flft [] full_share)) (𝓛.lfts.lft-nil full_share) $ join ! $ use0 𝓛 (‵ (flft [] full_share))
      (𝓛.lfts.lft-nil full_share) $ join ! $ join ! $
      move ! (1 ∷ []) $ use0 𝓛 (raw (fact 𝓤 ([] ⊑ Z.lives))) (fact_i 𝓤 ([] ⊑ Z.lives) (emp 𝓤) (heap_laws.the_within [])) $ join ! $
      use0 𝓛 (raw (fact 𝓤 ([] ⊑ R.lives))) (fact_i 𝓤 ([] ⊑ R.lives) (emp 𝓤) (pod_laws.the_within [])) $ join ! $
      move ! (1 ∷ 0 ∷ []) $ join ! $ done !

  pub was_taken : (d : Boxed.Denot) (w u : Val) → ent 𝓤 (Taken.post (to_take d w) u) (H.⇛ (ex 𝓤 (λ (p : Ptr).
      sep 𝓤 (sem 𝓛 (Pair.own_val (p, d.alloc) (u ∷ []))) (sem 𝓛 (box_owns (ghosts.dealloc_token d.alloc) R p d.value)))))
  was_taken d w u = let y = to_take d w in let k = taken.ended Pod Heap ghosts dict drops_heap drops_pod in
      let owned : Ptr → R.Denot → Fml = box_owns (ghosts.dealloc_token d.alloc) R in
      qed 𝓛 (raw (Taken.post y u) ∷ []) ∵ updating ! $
      use1 𝓛 (later (some (λ (r : Ptr × Z.Denot). (raw (alive 𝓛 k.signature y.0.0 y.0.1) ⊛ ‵ (Pair.own_val r (u ∷ [])))
      ⊛ some (λ (ls : Lasts k y.0.0 y.0.3). ‵ (lasts k y.0.0 y.0.3 ls) ⊛ (raw (fact 𝓤 (r.1 ≡ d.alloc)) ⊛ ‵ (owned r.0 d.value)))))) (id⊢ 𝓤 (Taken.post y u)) $
      await ! tt $ pick ! (λ r. split ! $ split ! $ drop ! $ move ! (1 ∷ []) $ pick ! (λ _. split3 ! $ drop ! $ heard ! (r.1 ≡ d.alloc) (λ same.
      now ! $ show ! (λ (p : Ptr). sep 𝓤 (sem 𝓛 (Pair.own_val (p, d.alloc) (u ∷ []))) (sem 𝓛 (owned p d.value))) r.0 $
      move ! (1 ∷ 0 ∷ []) $ rewrite ! 0 (λ (a : Z.Denot). ‵ (Pair.own_val (r.0, a) (u ∷ []))) same refl $ done !)))

  pub was_made : (a : Z.Denot) (h u : Val) (p : Ptr) (x : R.Denot) → ent 𝓤 (Made.post (to_make a h p x) u) (H.⇛ (ex 𝓤 (λ (d : Boxed.Denot).
      sep 𝓤 (sem 𝓛 (Boxed.own_val d (u ∷ []))) (fact 𝓤 (d.value ≡ x)))))
  was_made a h u p x = let y = to_make a h p x in let k = made.ended Pod Heap ghosts dict drops_heap in
      qed 𝓛 (raw (Made.post y u) ∷ []) ∵ updating ! $
      use1 𝓛 (later (some (λ (d : Boxed.Denot). (raw (alive 𝓛 k.signature y.0.0 y.0.1) ⊛ ‵ (Boxed.own_val d (u ∷ [])))
      ⊛ some (λ (ls : Lasts k y.0.0 y.0.3). ‵ (lasts k y.0.0 y.0.3 ls) ⊛ (raw (fact 𝓤 (d.value ≡ x)) ⊛ raw (fact 𝓤 (d.alloc ≡ a))))))) (id⊢ 𝓤 (Made.post y u)) $
      await ! tt $ pick ! (λ d. split ! $ split ! $ drop ! $ move ! (1 ∷ []) $ pick ! (λ _. split3 ! $ drop ! $
      now ! $ show ! (λ (e : Boxed.Denot). sep 𝓤 (sem 𝓛 (Boxed.own_val e (u ∷ []))) (fact 𝓤 (e.value ≡ x))) d $
      keep ! (2 ∷ 0 ∷ []) $ done !))

  module _ (allocates : Wired 𝓡.env allocate.code) (frees : Wired 𝓡.env deallocate.code) (grows : Wired 𝓡.env grow.code) (shrinks : Wired 𝓡.env shrink.code)
      (nothing_dropped : Wired 𝓡.env no_drop_code) where
    -- both calls are met
    pub takes : Wired 𝓡.env takes_symbol.code → Wired 𝓡.env pod_drop.code
        → Triple 𝓤
        (𝓡.run (𝓡.env (takes_symbol.name (bounded (a_type ∷ a_type ∷ []) (Pod, (Heap, tt)) (dcons dict (dcons drops_heap (dcons drops_pod dnil))))))) Taken
    unfolding tables_of no_drop_code
    takes wired dropped = takes_met.met 𝓤 𝓛 𝓜 𝓡 wired Pod Heap pod_passed heap_passed ghosts dict drops_heap drops_pod
        (heap_met.passed 𝓡.env allocates frees grows shrinks M 𝓤 𝓛 𝓜 𝓡)
        (no_drop.glues "c_pods::Destruct++none::drop" 𝓡.env nothing_dropped Heap heap_passed M 𝓤 𝓛 𝓜 𝓡) (pod_drops 𝓤 𝓛 𝓜 𝓡 dropped)

    pub makes : Wired 𝓡.env makes_symbol.code
        → Triple 𝓤 (𝓡.run (𝓡.env (makes_symbol.name (bounded (a_type ∷ a_type ∷ []) (Pod, (Heap, tt)) (dcons dict (dcons drops_heap dnil)))))) Made
    unfolding tables_of no_drop_code
    makes wired = makes_met.met 𝓤 𝓛 𝓜 𝓡 wired Pod Heap pod_passed heap_passed ghosts dict drops_heap
        (heap_met.passed 𝓡.env allocates frees grows shrinks M 𝓤 𝓛 𝓜 𝓡)
        (no_drop.glues "c_pods::Destruct++none::drop" 𝓡.env nothing_dropped Heap heap_passed M 𝓤 𝓛 𝓜 𝓡)
