-- The pod of the test is lawful, since calls and a delivery lead to it.
use Rattle.death_cleanup.specs.Example as example
use Rattle.death_cleanup.specs.Example.{after_calls, waiting}
use Rattle.death_cleanup.specs.Ties.{LawfulParts}
use Rattle.death_cleanup.specs.View.{state_of}
use Rattle.lwp_types.specs.Agents.{deliver}
use Rattle.lwp_types.specs.Case.{unless}
use Rattle.lwp_types.specs.Lawful.{Lawful}
use Rattle.lwp_types.specs.State.{State, ThreadRow, and_then, is_not_blocked, is_number, passes, for_each, in_order, opening}
use Rattle.lwp_types.specs.Step.{step, step_by}
use Rattle.lwp_types.specs.declared.call.Call.{Call}
use Rattle.pod_laws.proofs.EveryStep.{Lawful-deliver, Lawful-step}
use Rattle.pod_laws.proofs.Opening.{Lawful-opening}
use Rattle.std.proofs.Common.{Bool, List, None, [], ap, arith, cond, eqb, false, not, refl, true, ℕ, ◌&&◌, ◌∷◌, ◌≡◌}
use Rattle.pod_sched.specs.Schedule.{is_of}
use Rattle.pod_sched.specs.declared.rows.Known.{Known}
use Rattle.std.specs.List.{find}
use Rattle.std.specs.Prelude.{Some, is_some}

Lawful-called : (cs : List Call) (s : State) → Lawful s None → Lawful (after_calls s cs) None
Lawful-called [] s was = was
Lawful-called (c ∷ cs) s was = Lawful-called cs (step s c).after (Lawful-step s was c)

Lawful-waiting : Lawful waiting None
unfolding step step_by unless and_then in_order for_each
Lawful-waiting =
    let first = opening (record { maxpri = 9; births = 100; procs = 1 }) in
    let begins = Lawful-opening (record { maxpri = 9; births = 100; procs = 1 }) (omega arith) (omega arith) in
    Lawful-deliver (after_calls first example.calls) (Lawful-called example.calls first begins) 3 refl []

same : state_of example.parts ≡ waiting
unfolding step step_by unless and_then in_order for_each deliver
same = refl

-- rows of the scheduler and of the state, thread by thread
abbrev AreAlike : List Known → List ThreadRow → Type 0
AreAlike [] [] = Unit {0}
AreAlike [] (r ∷ rs) = ⊥
AreAlike (k ∷ ks) [] = ⊥
AreAlike (k ∷ ks) (r ∷ rs) = ((k.tid ≡ r.number) × (k.blocked ≡ not (is_not_blocked r.block))) × AreAlike ks rs

alike : (ks : List Known) (rs : List ThreadRow) → AreAlike ks rs → (t : ℕ)
    → (is_some (find (is_of t) ks) ≡ (is_some (find (is_number t) rs) && true))
    × (passes (λ (k : Known). k.blocked) (find (is_of t) ks) ≡ passes (λ (r : ThreadRow). not (is_not_blocked r.block)) (find (is_number t) rs))
alike [] [] h t = (refl, refl)
alike [] (r ∷ rs) h t = absurd h
alike (k ∷ ks) [] h t = absurd h
alike (k ∷ ks) (r ∷ rs) h t = by_test (eqb k.tid t) (eqb r.number t) (ap (λ n. eqb n t) h.0.0) (alike ks rs h.1 t)
  where
    by_test : (a b : Bool) → a ≡ b
        → (is_some (find (is_of t) ks) ≡ (is_some (find (is_number t) rs) && true))
        × (passes (λ (k : Known). k.blocked) (find (is_of t) ks) ≡ passes (λ (r : ThreadRow). not (is_not_blocked r.block)) (find (is_number t) rs))
        → (is_some (cond a (Some k) (find (is_of t) ks)) ≡ (is_some (cond b (Some r) (find (is_number t) rs)) && true))
        × (passes (λ (k : Known). k.blocked) (cond a (Some k) (find (is_of t) ks))
        ≡ passes (λ (r : ThreadRow). not (is_not_blocked r.block)) (cond b (Some r) (find (is_number t) rs)))
    by_test true true e rest = (refl, h.0.1)
    by_test true false e rest = absurd (cc)
    by_test false true e rest = absurd (cc)
    by_test false false e rest = rest

tied : (t : ℕ)
    → (is_some (find (is_of t) example.parts.sched.threads) ≡ (is_some (find (is_number t) (state_of example.parts).threads) && true))
    × (passes (λ (k : Known). k.blocked) (find (is_of t) example.parts.sched.threads)
    ≡ passes (λ (r : ThreadRow). not (is_not_blocked r.block)) (find (is_number t) (state_of example.parts).threads))
tied t = alike example.parts.sched.threads (state_of example.parts).threads
    ((refl, refl), ((refl, refl), ((refl, refl), ((refl, refl), ((refl, refl), ((refl, refl), ((refl, refl), ((refl, refl), tt)))))))) t

pub lawful_parts : LawfulParts example.parts
lawful_parts = record {
  nine = rw same Lawful-waiting.nine;
  step = record {
    tied = record { known = λ t. (tied t).0; waits = λ t. (tied t).1 };
    ranked = record { requests = (refl, (refl, tt)); waits = (refl, tt) };
    roomy = record { letters = omega arith; threads = omega arith; requests = omega arith; waits = omega arith };
    monitors = refl;
    conditions = refl;
    noted = record { noted = refl; room = omega arith };
  };
}
