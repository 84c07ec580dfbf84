use Rattle.death_cleanup.proofs.Looks.{waits}
use Rattle.death_cleanup.specs.declared.rows.Kind.TheVariants as kind
use Rattle.lwp_calls.proofs.Pods.{first-known, first-waits}
use Rattle.lwp_calls.proofs.Results.{on_ok}
use Rattle.lwp_calls.proofs.pod.first_thread.Goals as goal
use Rattle.pod_sched.specs.declared.rows.Known.{Known}
use Rattle.stale_ids.specs.Register.{after_insert}
use Rattle.std.proofs.Common.{arith, eqb, refl, ◌≡◌}

pub returns-clause-state : goal.returns-clause-state
returns-clause-state c =
    let born : c.insert.new.self ≡ after_insert c.reserve.new.self (kind.Thread c.in_ok-first.first) =
    on_ok c.insert.result (c.insert.new.self ≡ after_insert c.reserve.new.self (kind.Thread c.in_ok-first.first)) c.insert.ensures.ok (λ e.
    let full = (rw (c.in-Ok.ensures.ok, c.requires.empty) at c.insert.ensures.at_limit.0 e) in omega (arith, full, c.requires.births)) in
    rw (
      born,
      c.admit.ensures,
      c.in-Ok.ensures.ok,
      c.in_ok-reserve.ensures.ok,
      c.in_ok-reserve-2.ensures.ok,
      c.in_ok-reserve-3.ensures.ok,
      c.in_ok-reserve-4.ensures.ok,
      c.in_ok-first.ensures,
      c.requires.empty,
    )
    refl

pub returns-clause-step : goal.returns-clause-step
returns-clause-step c =
    let born : c.insert.new.self ≡ after_insert c.reserve.new.self (kind.Thread c.in_ok-first.first) =
    on_ok c.insert.result (c.insert.new.self ≡ after_insert c.reserve.new.self (kind.Thread c.in_ok-first.first)) c.insert.ensures.ok (λ e.
    let full = (rw (c.in-Ok.ensures.ok, c.requires.empty) at c.insert.ensures.at_limit.0 e) in omega (arith, full, c.requires.births)) in
    rw (
      born,
      c.admit.ensures,
      c.in-Ok.ensures.ok,
      c.in_ok-reserve.ensures.ok,
      c.in_ok-reserve-2.ensures.ok,
      c.in_ok-reserve-3.ensures.ok,
      c.in_ok-reserve-4.ensures.ok,
      c.in_ok-first.ensures,
      c.requires.empty,
    )
    (record {
      tied = record { known = λ u. first-known (eqb 0 u) _ _; waits = λ u. first-waits (λ (k : Known). k.blocked) waits (eqb 0 u) _ _ refl refl };
      ranked = record { requests = tt; waits = tt };
      roomy = record { letters = omega arith; threads = omega arith; requests = omega arith; waits = omega arith };
      monitors = refl;
      conditions = refl;
      noted = record { noted = refl; room = omega arith };
    })
