-- What a runner's end knows of the lines that it has taken.
use Rattle.event_gate.proofs.Lines.{of_moved}
use Rattle.event_gate.specs.Inlet.{Intake, InletFindsNothing, InletTakes}
use Rattle.event_gate.specs.Port.{Accounts, IsNumbered, of}
use Rattle.event_gate.specs.declared.view.Told.{Told}
use Rattle.script_run.specs.Inlets.{TakesFirst, TakesNone}
use Rattle.lwp_types.specs.declared.call.Line.{Line}
use Rattle.std.proofs.Common.{IfNone, IfSome, List, None, Option, Some, [], ap, length, refl, subst, sym, take, ℕ, ◌+◌, ◌++◌, ◌∙◌, ◌∷◌, ◌≡◌}
use Rattle.std.proofs.Math.Seq.{take-append_seam}

first_of_none : {X : Type 0} (xs ys : List X) → xs ++ ys ≡ [] → xs ≡ []
first_of_none [] ys e = refl
first_of_none (x ∷ xs) ys e = absurd (cc e)

-- whatever is queued still
pub takes_first : (t : Intake) (queued : List Line) → Accounts t.noted t.known t.taken queued → TakesFirst t
takes_first t queued h = λ c told. ap (take (length (of c t.taken))) (h.told c told) ∙ take-append_seam (of c t.taken) (of c queued)

pub takes_none : (t : Intake) (queued : List Line) → Accounts t.noted t.known t.taken queued → TakesNone t
takes_none t queued h = λ c not. first_of_none (of c t.taken) (of c queued) (h.stray c not)

accounts_taken : (noted : List ℕ) (known : List Told) (taken rest : List Line) (x : Line) → Accounts noted known taken (x ∷ rest)
    → Accounts noted known (taken ++ x ∷ []) rest
accounts_taken noted known taken rest x h = record {
  told = λ c told. h.told c told ∙ sym (of_moved c taken rest x);
  stray = λ c not. of_moved c taken rest x ∙ h.stray c not;
  numbered = λ c. subst (IsNumbered 0) (sym (of_moved c taken rest x)) (h.numbered c);
}

pub sound_taken : (t u : Intake) (x : Line) → InletTakes t u x → TakesFirst u × TakesNone u
sound_taken t u x h =
    let now = accounts_taken t.noted t.known t.taken h.rest x h.queued in
    subst (λ (v : Intake). TakesFirst v × TakesNone v) (sym h.after) (
      takes_first (record t { taken = t.taken ++ x ∷ [] }) h.rest now,
      takes_none (record t { taken = t.taken ++ x ∷ [] }) h.rest now,
    )

pub sound_nothing : (t u : Intake) → InletFindsNothing t u → TakesFirst u × TakesNone u
sound_nothing t u h = subst (λ (v : Intake). TakesFirst v × TakesNone v) (sym h.after)
    (takes_first (record t { finds = t.finds + 1 }) [] h.queued, takes_none (record t { finds = t.finds + 1 }) [] h.queued)

pub sound_after : (t u : Intake) (answer : Option Line) → IfSome answer (InletTakes t u) → IfNone answer (InletFindsNothing t u) → TakesFirst u × TakesNone u
sound_after t u (Some x) line nothing = sound_taken t u x line
sound_after t u None line nothing = sound_nothing t u nothing
