-- After its death no thread runs an exit procedure.
use Rattle.lwp_types.specs.State.{State, is_agent, is_thread, opening}
use Rattle.lwp_types.specs.declared.call.PodParams.{PodParams}
use Rattle.pod_laws.specs.Forgotten.{is_died}
use Rattle.pod_laws.specs.Once.{ExitTest, exits_passing}
use Rattle.pod_runner.specs.Session.{Made}
use Rattle.session_laws.proofs.DeathLaws.{Buried, buried_lasts, buried_opening}
use Rattle.session_laws.proofs.ExitLaws.{run_push}
use Rattle.session_laws.proofs.Steps.{Lasts, play_lasts}
use Rattle.session_laws.specs.Deaths.{TheDeadRunNothing, deaths}
use Rattle.session_laws.specs.Exits.{exits_run, is_set_by}
use Rattle.session_laws.specs.Sessions.{InEverySession}
use Rattle.std.proofs.Common.{Bool, List, [], ap, arith, count_by, drop, false, length, refl, take, true, ℕ, ◌++◌, ◌∷◌, ◌≡◌, ◌≤◌}
use Rattle.std.proofs.lemmas.Bool.{leb-false, leb-true, or_parts}
use Rattle.std.proofs.lemmas.List.{drop-append-le, drop_all, length_push, take-append-le}
use Rattle.std.proofs.lemmas.List.Sums.{sum_by-take-le}
use Rattle.std.specs.Prelude.{nat_le}

-- one that died in the first of these steps has run nothing in the others
record Silent (s : State) (steps : List Made) : Type 0 where
  buried : Buried s steps
  silent : (u m : ℕ) → 1 ≤ deaths u (take m steps) → (p : ExitTest) → exits_run (is_set_by u p) (drop m steps) ≡ 0

-- one step more, in which nothing runs of those that have died before
silent_push : (s : State) (steps : List Made) (made : Made) → Silent s steps
    → ((u : ℕ) → is_thread s u ≡ false → (p : ExitTest) → exits_passing (is_set_by u p) made.effects ≡ 0)
    → (u m : ℕ) → 1 ≤ deaths u (take m (steps ++ made ∷ [])) → (p : ExitTest) → exits_run (is_set_by u p) (drop m (steps ++ made ∷ [])) ≡ 0
silent_push s steps made was none u m died p = by_length (nat_le m (length steps)) refl
  where
    gone : 1 ≤ deaths u (take m steps) → is_thread s u ≡ false
    gone some = (or_parts (is_thread s u) (is_agent s u)
        (was.buried.gone u (omega (arith, some, sum_by-take-le (λ (made : Made). count_by (is_died u) made.effects) steps m))).dead).0

    later : m ≤ length steps → 1 ≤ deaths u (take m steps) → exits_run (is_set_by u p) (drop m (steps ++ made ∷ [])) ≡ 0
    later within some = omega (
      arith,
      ap (exits_run (is_set_by u p)) (drop-append-le m steps (made ∷ []) within),
      run_push (is_set_by u p) (drop m steps) made,
      was.silent u m some p,
      none u (gone some) p,
    )

    by_length : (b : Bool) → nat_le m (length steps) ≡ b → exits_run (is_set_by u p) (drop m (steps ++ made ∷ [])) ≡ 0
    by_length true e =
        let within : m ≤ length steps = leb-true m (length steps) e in
        later within (omega (arith, died, ap (deaths u) (take-append-le m steps (made ∷ []) within)))
    by_length false e = ap (exits_run (is_set_by u p)) (drop_all m (steps ++ made ∷ []) (omega (arith, leb-false m (length steps) e, length_push steps made)))

silent_lasts : Lasts Silent
silent_lasts = record {
  lawful = λ s steps was. was.buried.lawful;
  push = λ s after steps made was moved. record {
    buried = buried_lasts.push s after steps made was.buried moved;
    silent = silent_push s steps made was (λ u gone p. moved.does.mute u gone p);
  };
}

silent_opening : (params : PodParams) → 1 ≤ params.maxpri → params.maxpri ≤ 255 → Silent (opening params) []
silent_opening params low high = record {
  buried = buried_opening params low high;
  silent = λ u m died p. ap (exits_run (is_set_by u p)) (drop_all m [] (omega arith));
}

pub the_dead_run_nothing : (B : Type 0) → InEverySession B (TheDeadRunNothing {B = B})
the_dead_run_nothing B setting low high takes n h = (play_lasts Silent silent_lasts setting (silent_opening setting.params low high) takes n h).silent
