-- The dead are forgotten, over a whole session.
use Rattle.lwp_types.specs.Lawful.{Lawful}
use Rattle.lwp_types.specs.State.{State, is_agent, is_thread, opening}
use Rattle.lwp_types.specs.declared.call.PodParams.{PodParams}
use Rattle.pod_laws.proofs.Gone.{unnamed}
use Rattle.pod_laws.proofs.Opening.{Lawful-opening}
use Rattle.pod_laws.specs.Forgotten.{IsGone, is_died}
use Rattle.pod_runner.specs.Session.{Made}
use Rattle.session_laws.proofs.Pods.{Dies}
use Rattle.session_laws.proofs.Steps.{Lasts, play_lasts}
use Rattle.session_laws.specs.Deaths.{EachDiesOnce, TheDeadStayForgotten, deaths}
use Rattle.session_laws.specs.Sessions.{InEverySession}
use Rattle.std.proofs.Common.{List, None, [], arith, count_by, refl, true, zero, suc, ℕ, ◌++◌, ◌+◌, ◌∷◌, ◌≡◌, ◌≤◌}
use Rattle.std.proofs.lemmas.Bool.{or_parts}
use Rattle.std.proofs.lemmas.List.Sums.{sum_by_push}

-- the state is lawful, and each that died in these steps did so once and is gone
pub record Buried (s : State) (steps : List Made) : Type 0 where
  pub lawful : Lawful s None
  pub gone : (n : ℕ) → 1 ≤ deaths n steps → IsGone s n
  pub once : (n : ℕ) → deaths n steps ≤ 1

-- where so many deaths of n were told before, and so many in this step
module _ (s after : State) (n before now all : ℕ) (sum : all ≡ before + now) (was : 1 ≤ before → IsGone s n) (few : before ≤ 1) where
  gone_then : (IsGone s n → IsGone after n) → (1 ≤ now → IsGone after n) → 1 ≤ all → IsGone after n
  gone_then stays died some = by_before before refl
    where
      by_before : (m : ℕ) → before ≡ m → IsGone after n
      by_before zero e = died (omega (arith, sum, some, e))
      by_before (suc m) e = stays (was (omega (arith, e)))

  once_then : Dies s n now → all ≤ 1
  once_then dies = by_now now refl
    where
      nobody : IsGone s n → is_thread s n ≡ true → all ≤ 1
      nobody gone lives = absurd (cc (or_parts (is_thread s n) (is_agent s n) gone.dead).0)

      by_before : (m : ℕ) → before ≡ m → 1 ≤ now → all ≤ 1
      by_before zero e some = omega (arith, sum, e, dies.few)
      by_before (suc m) e some = nobody (was (omega (arith, e))) (dies.lived some)

      by_now : (m : ℕ) → now ≡ m → all ≤ 1
      by_now zero e = omega (arith, sum, e, few)
      by_now (suc m) e = by_before before refl (omega (arith, e))

died_push : (n : ℕ) (steps : List Made) (made : Made) → deaths n (steps ++ made ∷ []) ≡ deaths n steps + count_by (is_died n) made.effects
died_push n steps made = sum_by_push (λ (made : Made). count_by (is_died n) made.effects) steps made

pub buried_lasts : Lasts Buried
buried_lasts = record {
  lawful = λ s steps was. was.lawful;
  push = λ s after steps made was moved.
      let does = moved.does in
      record {
        lawful = moved.lawful;
        gone = λ n. gone_then s after n (deaths n steps) (count_by (is_died n) made.effects) _ (died_push n steps made) (was.gone n)
            (was.once n) (does.stays n) (does.gone n);
        once = λ n. once_then s after n (deaths n steps) (count_by (is_died n) made.effects) _ (died_push n steps made) (was.gone n) (was.once n) (does.dies n);
      };
}

pub buried_opening : (params : PodParams) → 1 ≤ params.maxpri → params.maxpri ≤ 255 → Buried (opening params) []
buried_opening params low high = record { lawful = Lawful-opening params low high; gone = λ n some. absurd (omega (arith, some)); once = λ n. omega arith }

buried_always : (B : Type 0) → InEverySession B (λ session. Buried session.live.pod.state session.steps)
buried_always B setting low high takes n h = play_lasts Buried buried_lasts setting (buried_opening setting.params low high) takes n h

pub the_dead_stay_forgotten : (B : Type 0) → InEverySession B (TheDeadStayForgotten {B = B})
the_dead_stay_forgotten B setting low high takes calls h n some =
    let now = buried_always B setting low high takes calls h in
    let gone = now.gone n some in
    record { gone = gone; unnamed = unnamed _ now.lawful.nine n gone.dead }

pub each_dies_once : (B : Type 0) → InEverySession B (EachDiesOnce {B = B})
each_dies_once B setting low high takes calls h = (buried_always B setting low high takes calls h).once
