-- Runs in virtual time, one call on; and their sessions as sessions like any other.
use Rattle.pod_events.specs.Events.{has_turn, is_takeable}
use Rattle.pod_runner.specs.Due.{IsDefined}
use Rattle.pod_runner.specs.KeepsTime.{KeepsTime}
use Rattle.pod_runner.specs.Phase.{phase_of}
use Rattle.pod_runner.specs.Play.{play}
use Rattle.pod_runner.specs.Session.{Live, Session, Setting, move, opening_session, take_move}
use Rattle.pod_runner.specs.Virtual.{TurnsCame, called, caught_up, is_tick_due, live_after, tick_took, ticked, ticked_for, ticks_after, ticks_for, ticks_left}
use Rattle.pod_runner.specs.declared.phase.Phase.TheVariants as phase
use Rattle.pod_runner.specs.declared.session.Took.{Took}
use Rattle.pod_runner.proofs.Kept.{phase-runs}
use Rattle.pod_runner.proofs.Plays.{IsDefined-call, IsDefined-take, IsDefined-zero, LastBy-of, play-call, play-take, play-zero}
use Rattle.pod_runner.proofs.Timing.{idle-due, takeable-idle}
use Rattle.pod_runner.proofs.Turns.{room-turn}
use Rattle.std.proofs.Common.{arith, Bool, List, [], add-one, ap, append-nil, append_assoc, cond, false, refl}
use Rattle.std.proofs.Common.{subst, suc, sym, true, zero, ℕ, ◌++◌, ◌+◌, ◌<◌, ◌^◌, ◌∙◌, ◌∷◌, ◌≡◌, ◌≤◌}

module _ {B : Type 0} (setting : Setting B) where
  live-zero : live_after setting 0 ≡ (opening_session setting).live
  unfolding live_after
  live-zero = refl

  live-call : (n : ℕ) → live_after setting (n + 1) ≡ caught_up setting.bodies (n + 1) (called setting (live_after setting n))
  unfolding live_after
  live-call n = rw add-one refl

  came-call : (n : ℕ) → TurnsCame setting n → has_turn (live_after setting n).pod.state ≡ true → TurnsCame setting (n + 1)
  unfolding TurnsCame
  came-call n came turn = rw add-one (came, turn)

  came-zero : TurnsCame setting 0
  unfolding TurnsCame
  came-zero = tt

  opening-still : is_tick_due (live_after setting 0) ≡ false
  opening-still = rw live-zero refl

  -- before its first call
  pub keeps-opening : (live : Live B) (turns : ℕ) → turns < 2 ^ 64 → live ≡ (opening_session setting).live → KeepsTime setting live 0 turns false
  keeps-opening live turns few is = record {
    came = came-zero;
    room = omega arith;
    few = few;
    now = λ _. is ∙ sym live-zero;
    still = opening-still;
  }

  -- a run that fails stays where it was
  pub keeps-broken : (old live : Live B) (calls turns : ℕ) (failed : Bool) → KeepsTime setting old calls turns failed → KeepsTime setting live calls turns true
  keeps-broken old live calls turns failed was = record {
    came = was.came;
    room = was.room;
    few = was.few;
    now = λ e. absurd (cc);
    still = was.still;
  }

  -- one call on, and the ticks after it
  pub keeps-turn : (old mid live : Live B) (calls turns : ℕ) (failed : Bool) → KeepsTime setting old calls turns failed → failed ≡ false
      → phase_of (live_after setting calls).pod.state turns calls ≡ phase.Turn
      → mid ≡ (move setting.next setting.bodies old).live → ((n : ℕ) → live ≡ caught_up setting.bodies n mid) → is_tick_due live ≡ false
      → KeepsTime setting live (calls + 1) turns false
  keeps-turn old mid live calls turns failed was sound due called-is caught still =
      let before : old ≡ live_after setting calls = was.now sound in
      let after : live
      ≡ live_after setting (calls + 1) = caught (calls + 1)
      ∙ ap (caught_up setting.bodies (calls + 1)) (called-is ∙ ap (called setting) before) ∙ sym (live-call calls) in
      record {
        came = came-call calls was.came (phase-runs (live_after setting calls).pod.state turns calls due);
        room = room-turn (live_after setting calls).pod.state turns calls due;
        few = was.few;
        now = λ _. after;
        still = ap (λ (l : Live B). is_tick_due l) (sym after) ∙ still;
      }

  -- ---- sessions

  record IsTimed (takes : List Took) (n : ℕ) (live : Live B) : Type 0 where
    made : IsDefined setting takes n
    same : (play setting takes n).live ≡ live

  one_tick : (takes : List Took) (n : ℕ) (live : Live B) → IsTimed takes n live → is_tick_due live ≡ true
      → IsTimed (takes ++ tick_took n live ∷ []) n (ticked setting.bodies n live)
  one_tick takes n live was due = record {
    made = IsDefined-take setting (tick_took n live) takes n refl was.made
        (ap (λ (l : Live B). is_takeable l.pod 0) was.same ∙ takeable-idle live (idle-due live due));
    same = ap (λ (s : Session B). s.live) (play-take setting (tick_took n live) takes n refl)
        ∙ ap (λ (l : Live B). (take_move setting.bodies (tick_took n live) l).live) was.same;
  }

  ticks : (k : ℕ) (takes : List Took) (n : ℕ) (live : Live B) → IsTimed takes n live
      → IsTimed (takes ++ ticks_for setting.bodies n k live) n (ticked_for setting.bodies n k live)
  unfolding ticks_for ticked_for
  ticks zero takes n live was = rw (append-nil takes) was
  ticks (suc k) takes n live was =
      by_due (λ due. ticks k (takes ++ tick_took n live ∷ []) n (ticked setting.bodies n live) (one_tick takes n live was due)) (is_tick_due live) refl
    where
      by_due : (is_tick_due live ≡ true
          → IsTimed ((takes ++ tick_took n live ∷ []) ++ ticks_for setting.bodies n k (ticked setting.bodies n live)) n
          (ticked_for setting.bodies n k (ticked setting.bodies n live)))
          → (b : Bool) → is_tick_due live ≡ b
          → IsTimed (takes ++ cond b (tick_took n live ∷ ticks_for setting.bodies n k (ticked setting.bodies n live)) []) n
          (cond b (ticked_for setting.bodies n k (ticked setting.bodies n live)) live)
      by_due rest false e = rw (append-nil takes) was
      by_due rest true e = subst (λ all. IsTimed all n (ticked_for setting.bodies n k (ticked setting.bodies n live)))
          (append_assoc takes (tick_took n live ∷ []) (ticks_for setting.bodies n k (ticked setting.bodies n live)))
          (rest e)

  one_call : (takes : List Took) (n : ℕ) (live : Live B) → IsTimed takes n live → has_turn live.pod.state ≡ true → IsTimed takes (n + 1) (called setting live)
  one_call takes n live was turn =
      let last = LastBy-of setting takes n was.made in
      record {
        made = IsDefined-call setting takes n last was.made (ap (λ (l : Live B). has_turn l.pod.state) was.same ∙ turn);
        same = ap (λ (s : Session B). s.live) (play-call setting takes n last) ∙ ap (called setting) was.same;
      }

  timed : (n : ℕ) → TurnsCame setting n → IsTimed (ticks_after setting n) n (live_after setting n)
  unfolding TurnsCame ticks_after live_after
  timed zero came = record { made = IsDefined-zero setting; same = ap (λ (s : Session B). s.live) (play-zero setting) }
  timed (suc n) came =
      let before = one_call (ticks_after setting n) n (live_after setting n) (timed n came.0) came.1 in
      let here : IsTimed (ticks_after setting n) (suc n) (called setting (live_after setting n)) =
      subst (λ m. IsTimed (ticks_after setting n) m (called setting (live_after setting n))) (add-one n) before in
      ticks (ticks_left (called setting (live_after setting n))) (ticks_after setting n) (suc n) (called setting (live_after setting n)) here

  pub timed-session : (n : ℕ) → TurnsCame setting n
      → IsDefined setting (ticks_after setting n) n × ((play setting (ticks_after setting n) n).live ≡ live_after setting n)
  timed-session n came = ((timed n came).made, (timed n came).same)
