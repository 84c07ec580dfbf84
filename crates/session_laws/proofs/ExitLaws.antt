-- Exit procedures run once, over a whole session.
use Rattle.lwp_types.specs.CountLaws.{one}
use Rattle.lwp_types.specs.Lawful.{Lawful}
use Rattle.lwp_types.specs.State.{State, opening}
use Rattle.lwp_types.specs.declared.call.PodParams.{PodParams}
use Rattle.pod_laws.proofs.Opening.{Lawful-opening}
use Rattle.pod_laws.specs.Once.{ExitTest, exits_passing, marks_passing}
use Rattle.pod_runner.specs.Session.{Made, Session}
use Rattle.session_laws.proofs.Pods.{none_left}
use Rattle.session_laws.proofs.Steps.{Lasts, play_lasts}
use Rattle.session_laws.specs.Exits.{EachExitHasItsFate, EachExitOnce, EachNumberIsGivenOnce, EachSetExitOnce, Fate, Fate.HasRun, Fate.IsNotGiven}
use Rattle.session_laws.specs.Exits.{Fate.IsWaiting, TheDeadHaveRunTheirExits, exits_run, exits_set, exits_set_in, has_number, is_set_by}
use Rattle.session_laws.specs.Sessions.{InEverySession}
use Rattle.std.proofs.Common.{Bool, List, None, [], ap, arith, cond, false, refl, suc, true, zero, ℕ, ◌++◌, ◌+◌, ◌<◌, ◌∷◌, ◌≡◌, ◌≤◌}
use Rattle.std.proofs.lemmas.Bool.{ltb-false, ltb-true}
use Rattle.std.proofs.lemmas.Bool.Decides.{nat_tests}
use Rattle.std.proofs.lemmas.List.Sums.{sum_by_push}
use Rattle.std.specs.Prelude.{nat_lt}

-- ---- what holds between any two steps

-- the state is lawful, and both equations hold
record Even (s : State) (steps : List Made) : Type 0 where
  lawful : Lawful s None
  even : (p : ExitTest) → marks_passing p s + exits_run p steps ≡ exits_set p steps
  once : (k : ℕ) → marks_passing (has_number k) s + exits_run (has_number k) steps ≡ one (nat_lt k s.next_registration)

-- ---- each kind of step keeps it

pub run_push : (p : ExitTest) (steps : List Made) (made : Made) → exits_run p (steps ++ made ∷ []) ≡ exits_run p steps + exits_passing p made.effects
run_push p steps made = sum_by_push (λ (made : Made). exits_passing p made.effects) steps made

set_push : (p : ExitTest) (steps : List Made) (made : Made) → exits_set p (steps ++ made ∷ []) ≡ exits_set p steps + exits_set_in p made.effects
set_push p steps made = sum_by_push (λ (made : Made). exits_set_in p made.effects) steps made

none_below : (k : ℕ) → 0 ≡ one (nat_lt k 0)
none_below k = grind (arith, nat_tests)

even_lasts : Lasts Even
even_lasts = record {
  lawful = λ s steps was. was.lawful;
  push = λ s after steps made was moved.
      let does = moved.does in
      record {
        lawful = moved.lawful;
        even = λ p. omega (arith, was.even p, does.balance p, run_push p steps made, set_push p steps made, moved.told p);
        once = λ k.
            omega (arith, was.once k, does.balance (has_number k), run_push (has_number k) steps made, does.given k, ap (λ n. one (nat_lt k n)) does.numbers);
      };
}

even_opening : (params : PodParams) → 1 ≤ params.maxpri → params.maxpri ≤ 255 → Even (opening params) []
even_opening params low high = record { lawful = Lawful-opening params low high; even = λ p. refl; once = none_below }

even_always : (B : Type 0) → InEverySession B (λ session. Even session.live.pod.state session.steps)
even_always B setting low high takes n h = play_lasts Even even_lasts setting (even_opening setting.params low high) takes n h

-- ---- the laws

pub each_set_exit_once : (B : Type 0) → InEverySession B (EachSetExitOnce {B = B})
each_set_exit_once B setting low high takes n h = (even_always B setting low high takes n h).even

pub each_exit_once : (B : Type 0) → InEverySession B (EachExitOnce {B = B})
each_exit_once B setting low high takes n h = (even_always B setting low high takes n h).once

pub each_number_is_given_once : (B : Type 0) → InEverySession B (EachNumberIsGivenOnce {B = B})
each_number_is_given_once B setting low high takes n h k =
    omega (arith, each_set_exit_once B setting low high takes n h (has_number k), each_exit_once B setting low high takes n h k)

module _ {B : Type 0} (session : Session B) (k : ℕ) where
  -- below the next number
  fate_given : (waiting run : ℕ) → k < session.live.pod.state.next_registration
      → marks_passing (has_number k) session.live.pod.state ≡ waiting → exits_run (has_number k) session.steps ≡ run → waiting + run ≡ 1 → Fate session k
  fate_given zero run below here gone sum = HasRun below here (omega (arith, gone, sum))
  fate_given (suc n) run below here gone sum = IsWaiting below (omega (arith, here, sum)) (omega (arith, gone, sum))

  fate_of : (b : Bool) → nat_lt k session.live.pod.state.next_registration ≡ b
      → marks_passing (has_number k) session.live.pod.state + exits_run (has_number k) session.steps ≡ cond b 1 0 → Fate session k
  fate_of true e sum = fate_given (marks_passing (has_number k) session.live.pod.state) (exits_run (has_number k) session.steps)
      (ltb-true k session.live.pod.state.next_registration e) refl refl sum
  fate_of false e sum = IsNotGiven (ltb-false k session.live.pod.state.next_registration e) (omega (arith, sum)) (omega (arith, sum))

pub each_exit_has_its_fate : (B : Type 0) → InEverySession B (EachExitHasItsFate {B = B})
each_exit_has_its_fate B setting low high takes n h k = fate_of _ k _ refl (each_exit_once B setting low high takes n h k)

pub the_dead_have_run_their_exits : (B : Type 0) → InEverySession B (TheDeadHaveRunTheirExits {B = B})
the_dead_have_run_their_exits B setting low high takes n h u gone p =
    omega (arith, each_set_exit_once B setting low high takes n h (is_set_by u p), none_left u p _ gone)
