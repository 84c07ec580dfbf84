-- The machine values of a handle, taken apart and put together. Assumes `Logic`.
use Rattle.std.proofs.Common.{◌≡◌, List, [], ◌∷◌, ◌++◌, refl, subst, ◌∙◌}
use mathlib.Core.Bool.{Bool, true, false, not, ◌&&◌}
use lib.Dec.{T}
use seplogic.Ra.Ura.{Ura}
use mir.Syntax.{impl, tnil, dnil, ty_ptr}
use mir.Val.{Val, vbool, vstruct, vcons, vnil, of_list, has_ty, WT}
use types.Logic.{Logic}
use types.Kit.{Item, Goal, Seq, Step, step, ‵, ◌$◌, move, drop, fsplit, fjoin, fpick, fpack, feq_i, feq_l}
use denote.RattleType.{Valss}
use denote.Builtin.{RawPtr, bool}
use denote.Param.{layout}
use denote.RawPtr.{Ptr, ptr_val}
use denote.Steps.{nothing}
use denote.Struct.Owning.{shape}
use denote.Struct.Struct.{within}
use Rattle.core.proofs.alloc.Calls.{Al, handle_tells}
use Rattle.core.proofs.atomic.Steps.{Ptr-Good}
use Rattle.core.proofs.cell.Inside.{Good}
use Rattle.std.specs.Prelude.{None, Option, Some, is_some}
use Rattle.std.specs.contracts.alloc.Global as heap
use Rattle.std.specs.contracts.impls.GlobalAllocator.TheImpl.{ghosts}
use Rattle.std.specs.declared.alloc.Global.{Global}
use Rattle.std.proofs.alloc.Global.TheLaws as heap_laws
use Rattle.c_pods.specs.Handle.{handle_owns}
use Rattle.c_pods.specs.contracts.handle.PodHandle as handle
use Rattle.c_pods.specs.contracts.held_pod.HeldPod.{the_row as R}
use Rattle.c_pods.specs.declared.held_pod.HeldPod.{HeldPod}
use Rattle.c_pods.proofs.Boxes.{Pair, Z}

-- one machine value is all that is owned of a row with laws
abbrev pub heap_word : Al
heap_word = record { row = Z; laws = heap_laws.the_row_laws; g = ghosts; d = impl [] tnil dnil; drops = impl [] tnil dnil }

-- the words of a handle, and of an address with the allocator
abbrev pub three : Val → Val → Val → Val
three u v w = vstruct (vcons u (vcons v (vcons w vnil)))

abbrev pub two : Val → Val → Val
two u v = vstruct (vcons u (vcons v vnil))

pub both_hold : (x y : Bool) → T x → T y → T (x && y)
both_hold true y s t = t
both_hold false y s t = absurd s

pub last_holds : (x : Bool) → T x → T (x && true)
last_holds true s = tt
last_holds false s = absurd s

pub two_good : (p : Ptr) (h : Val) → Good (layout Z) h
    → T (has_ty ty_ptr (ptr_val p) && (has_ty (layout Z) h && true)) × WT (two (ptr_val p) h)
two_good p h good = (
  both_hold (has_ty ty_ptr (ptr_val p)) (has_ty (layout Z) h && true) (Ptr-Good p).0 (last_holds (has_ty (layout Z) h) good.0),
  ((Ptr-Good p).1, (good.1, tt)),
)

pub three_good : (p : Ptr) (made : Bool) (h : Val) → Good (layout Z) h
    → T (has_ty ty_ptr (ptr_val p) && (has_ty (layout Z) h && true)) × WT (three (ptr_val p) (vbool made) h)
three_good p made h good = ((two_good p h good).0, ((Ptr-Good p).1, (tt, (good.1, tt))))

-- a mark that is told to be that of a value
pub marked : (v : Option HeldPod) (made : Bool) → made ≡ is_some v → T (not (not made)) → (x : HeldPod) × (v ≡ Some x)
marked (Some x) made e t = (x, refl)
marked None made e t = absurd (subst (λ (y : Bool). T (not (not y))) e t)

pub unmarked : (v : Option HeldPod) (made : Bool) → made ≡ is_some v → T (not made) → v ≡ None
unmarked None made e t = refl
unmarked (Some x) made e t = absurd (subst (λ (y : Bool). T (not y)) e t)

module _ {M : Type 1} {𝓤 : Ura M} {𝓛 : Logic 𝓤} {K : Type 0} {Γ : List (Item 𝓤)} {G : Goal 𝓤 𝓛.H} where
  -- of a handle
  pub held_out : K → (d : handle.the_row.Denot) (vs : List Val)
      → ((h : Val) → vs ≡ three (ptr_val d.at) (vbool d.made) h ∷ [] → Good (layout Z) h
      → Seq K 𝓛 (‵ (handle_owns (ghosts.dealloc_token d.alloc) R d.made d.at d.pod) ∷ ‵ (Z.own_val d.alloc (h ∷ [])) ∷ Γ) G)
      → Seq K 𝓛 (‵ (handle.the_row.own_val d vs) ∷ Γ) G
  held_out t d vs k =
      fsplit t $ fpick t (λ words. fsplit t $ feq_l t (λ whole. fsplit t $ feq_l t (λ first. fsplit t $ feq_l t (λ second. fsplit t $
      handle_tells heap_word t d.alloc words.1.1.0 (λ h third good. move t (1 ∷ []) $ drop t $ move t (1 ∷ []) $
      k h (whole ∙ (λ i. vstruct (of_list (first i ++ (second i ++ (third i ++ [])))) ∷ [])) good)))))

  pub held_in : K → (p : Ptr) (made : Bool) (h : Val) (a : Global) (value : Option R.Denot)
      → Step K 𝓛 (‵ (handle.the_row.own_val (record { at = p; made = made; alloc = a; pod = value }) (three (ptr_val p) (vbool made) h ∷ [])) ∷ Γ) G
      (‵ (handle_owns (ghosts.dealloc_token a) R made p value) ∷ ‵ (Z.own_val a (h ∷ [])) ∷ Γ) G
  held_in t p made h a value = step (λ s. let word : List Val = three (ptr_val p) (vbool made) h ∷ [] in
      nothing t $ move t (2 ∷ 0 ∷ []) $ fjoin t $ feq_i t (List Val) (vbool made ∷ []) (vbool made ∷ []) refl $ fjoin t $
      feq_i t (List Val) (ptr_val p ∷ []) (ptr_val p ∷ []) refl $ fjoin t $ feq_i t (List Val) word word refl $ fjoin t $
      fpack t (Valss (RawPtr ∷ bool ∷ Z ∷ [])) (within (shape handle.the_type) (p, (made, ((heap.the_field).into a, tt))) word)
      (ptr_val p ∷ [], (vbool made ∷ [], (h ∷ [], tt))) $ fjoin t $ s)

  -- of an address with the allocator
  pub pair_out : K → (p : Ptr) (a : Global) (u : Val)
      → ((h : Val) → u ∷ [] ≡ two (ptr_val p) h ∷ [] → Good (layout Z) h → Seq K 𝓛 (‵ (Z.own_val a (h ∷ [])) ∷ Γ) G)
      → Seq K 𝓛 (‵ (Pair.own_val (p, a) (u ∷ [])) ∷ Γ) G
  pair_out t p a u k =
      fpick t (λ words. fsplit t $ feq_l t (λ whole. fsplit t $ feq_l t (λ first. fsplit t $
      handle_tells heap_word t a words.1.0 (λ h second good. move t (1 ∷ []) $ drop t $
      k h (whole ∙ (λ i. vstruct (of_list (first i ++ (second i ++ []))) ∷ [])) good))))
