-- A whole death, step by step.
use Rattle.death_cleanup.specs.Comes.{CameTo, HasRoom}
use Rattle.death_cleanup.specs.Ties.{HasLawfulThreads, InStep, LawfulParts}
use Rattle.death_cleanup.specs.View.{state_of}
use Rattle.death_cleanup.specs.Waits.{after_dismiss}
use Rattle.death_cleanup.specs.declared.parts.Parts.{Parts}
use Rattle.death_cleanup.specs.declared.rows.Awaited.TheVariants as awaited
use Rattle.death_cleanup.proofs.Costs.{death_few}
use Rattle.lwp_types.specs.Death.{answer_joiners, bury, death, end_agents, refuse_receivers, refuse_senders, release_all, run_all_exits, withdraw}
use Rattle.lwp_types.specs.Lawful.{NineParts}
use Rattle.lwp_types.specs.State.{Outcome, State, and_then, in_order, is_thread}
use Rattle.lwp_types.specs.declared.call.Effect.{Effect}
use Rattle.pod_laws.proofs.AgentEnds.{awaits_alone}
use Rattle.pod_laws.proofs.Chosen.{Living, living}
use Rattle.pod_laws.proofs.DeathEnds.{Forgotten}
use Rattle.pod_laws.proofs.DeathLoops.{Lonely, Unowning, refused_all}
use Rattle.pod_laws.proofs.Deaths.{NineParts-death, forgotten, lonely, nine_unwound, nine_withdrawn, unowning}
use Rattle.pod_laws.proofs.Drains.{wake_all}
use Rattle.lwp_types.specs.Messages.{awaits}
use Rattle.lwp_types.specs.Unblock.{nonexist}
use Rattle.std.proofs.Common.{List, None, Some, [], ap, arith, length, length-append, sym, true, ℕ, ◌++◌, ◌+◌, ◌<◌, ◌∙◌, ◌∷◌, ◌≡◌, ◌≤◌}
use Rattle.std.proofs.lemmas.List.{append-nil, append_assoc}

-- the state and the effects of one outcome and then another
told_then : (now : State) (before between after : List Effect) (first : Outcome) (more : State → Outcome)
    → between ≡ before ++ first.effects → (now ≡ (more first.after).after) × (after ≡ between ++ (more first.after).effects)
    → (now ≡ (and_then first more).after) × (after ≡ before ++ (and_then first more).effects)
unfolding and_then
told_then now before between after first more e rest =
    (rest.0, rest.1 ∙ ap (λ es. es ++ (more first.after).effects) e ∙ append_assoc before first.effects (more first.after).effects)

module _ (parts : Parts) (t : ℕ) (lawful : LawfulParts parts) (none : parts.dying ≡ None) (lives : is_thread (state_of parts) t ≡ true) where
  abbrev s0 : State
  s0 = state_of parts

  abbrev s1 : State
  s1 = (withdraw t s0).after

  abbrev s2 : State
  s2 = (run_all_exits t s1).after

  abbrev s3 : State
  s3 = (release_all t s2).after

  abbrev s4 : State
  s4 = (end_agents t s3).after

  abbrev s5 : State
  s5 = (refuse_senders t s4).after

  abbrev s6 : State
  s6 = (refuse_receivers t s5).after

  abbrev s7 : State
  s7 = (answer_joiners t s6).after

  nine : NineParts s0 None
  nine = rw none at lawful.nine

  who : Living s0 t
  who = living s0 t lives

  -- how many effects the steps have
  pub few : (length (run_all_exits t s1).effects
      + (length (release_all t s2).effects
      + (length (end_agents t s3).effects
      + (length (refuse_senders t s4).effects + (length (refuse_receivers t s5).effects + (length (answer_joiners t s6).effects + 1))))))
      ≤ 1279
  unfolding in_order and_then
  few = omega (
    arith,
    death_few s0 nine t who.row who.known,
    length-append (run_all_exits t s1).effects ((release_all t s2).effects
        ++ ((end_agents t s3).effects
        ++ ((refuse_senders t s4).effects ++ ((refuse_receivers t s5).effects ++ ((answer_joiners t s6).effects ++ ((bury t s7).effects ++ [])))))),
    length-append (release_all t s2).effects ((end_agents t s3).effects
        ++ ((refuse_senders t s4).effects ++ ((refuse_receivers t s5).effects ++ ((answer_joiners t s6).effects ++ ((bury t s7).effects ++ []))))),
    length-append (end_agents t s3).effects
        ((refuse_senders t s4).effects ++ ((refuse_receivers t s5).effects ++ ((answer_joiners t s6).effects ++ ((bury t s7).effects ++ [])))),
    length-append (refuse_senders t s4).effects ((refuse_receivers t s5).effects ++ ((answer_joiners t s6).effects ++ ((bury t s7).effects ++ []))),
    length-append (refuse_receivers t s5).effects ((answer_joiners t s6).effects ++ ((bury t s7).effects ++ [])),
    length-append (answer_joiners t s6).effects ((bury t s7).effects ++ []),
  )

  module _ (before : List Effect) (room : length before + 1279 ≤ 2048) (p1 : Parts) (after1 : state_of p1 ≡ s1) (dying1 : p1.dying ≡ Some t)
      (step1 : InStep p1) where
    pub lawful1 : LawfulParts p1
    lawful1 = record { nine = rw (after1, dying1) (nine_withdrawn s0 nine t who.row who.known); step = step1 }

    pub room1 : HasRoom before (run_all_exits t (state_of p1)) 1
    room1 = omega (arith, few, room, ap (λ s. length (run_all_exits t s).effects) after1)

    module _ (p2 : Parts) (m2 : List Effect) (came2 : CameTo p1 p2 before m2 (run_all_exits t (state_of p1))) where
      after2 : state_of p2 ≡ s2
      after2 = came2.state ∙ ap (λ s. (run_all_exits t s).after) after1

      told2 : m2 ≡ before ++ (run_all_exits t s1).effects
      told2 = came2.effects ∙ ap (λ s. before ++ (run_all_exits t s).effects) after1

      pub dying2 : p2.dying ≡ Some t
      dying2 = came2.dying ∙ dying1

      pub lawful2 : LawfulParts p2
      lawful2 = record { nine = rw (after2, dying2) (nine_unwound s0 nine t who.row who.known); step = came2.step }

      size2 : length m2 ≡ length before + length (run_all_exits t s1).effects
      size2 = ap length told2 ∙ length-append before (run_all_exits t s1).effects

      pub room2 : HasRoom m2 (release_all t (state_of p2)) 1
      room2 = omega (arith, few, room, size2, ap (λ s. length (release_all t s).effects) after2)

      module _ (p3 : Parts) (m3 : List Effect) (came3 : CameTo p2 p3 m2 m3 (release_all t (state_of p2))) where
        after3 : state_of p3 ≡ s3
        after3 = came3.state ∙ ap (λ s. (release_all t s).after) after2

        told3 : m3 ≡ m2 ++ (release_all t s2).effects
        told3 = came3.effects ∙ ap (λ s. m2 ++ (release_all t s).effects) after2

        pub unowning3 : Unowning t (state_of p3)
        unowning3 = rw after3 (unowning s0 nine t who.row who.known)

        size3 : length m3 ≡ length m2 + length (release_all t s2).effects
        size3 = ap length told3 ∙ length-append m2 (release_all t s2).effects

        pub room3 : HasRoom m3 (end_agents t (state_of p3)) 0
        room3 = omega (arith, few, room, size2, size3, ap (λ s. length (end_agents t s).effects) after3)

        module _ (p4 : Parts) (m4 : List Effect) (came4 : CameTo p3 p4 m3 m4 (end_agents t (state_of p3))) where
          after4 : state_of p4 ≡ s4
          after4 = came4.state ∙ ap (λ s. (end_agents t s).after) after3

          told4 : m4 ≡ m3 ++ (end_agents t s3).effects
          told4 = came4.effects ∙ ap (λ s. m3 ++ (end_agents t s).effects) after3

          pub lonely4 : Lonely t (state_of p4)
          lonely4 = rw after4 (lonely s0 nine t who.row who.known)

          size4 : length m4 ≡ length m3 + length (end_agents t s3).effects
          size4 = ap length told4 ∙ length-append m3 (end_agents t s3).effects

          pub room4 : HasRoom m4 (refuse_senders t (state_of p4)) 0
          room4 = omega (arith, few, room, size2, size3, size4, ap (λ s. length (refuse_senders t s).effects) after4)

          module _ (p5 : Parts) (m5 : List Effect) (came5 : CameTo p4 p5 m4 m5 (refuse_senders t (state_of p4))) where
            after5 : state_of p5 ≡ s5
            after5 = came5.state ∙ ap (λ s. (refuse_senders t s).after) after4

            told5 : m5 ≡ m4 ++ (refuse_senders t s4).effects
            told5 = came5.effects ∙ ap (λ s. m4 ++ (refuse_senders t s).effects) after4

            nine5 : NineParts s5 (Some t)
            nine5 = (refused_all t s4 (lonely s0 nine t who.row who.known)).0.nine

            pub threads5 : HasLawfulThreads (state_of p5)
            threads5 = record { lawful = s5; dying = Some t; nine = nine5; threads = ap (λ (s : State). s.threads) (sym after5) }

            size5 : length m5 ≡ length m4 + length (refuse_senders t s4).effects
            size5 = ap length told5 ∙ length-append m4 (refuse_senders t s4).effects

            pub room5 : HasRoom m5 (after_dismiss awaited.Letter t (state_of p5)) 0
            room5 = omega (arith, few, room, size2, size3, size4, size5, ap (λ s. length (refuse_receivers t s).effects) after5)

            module _ (p6 : Parts) (m6 : List Effect) (came6 : CameTo p5 p6 m5 m6 (after_dismiss awaited.Letter t (state_of p5))) where
              after6 : state_of p6 ≡ s6
              after6 = came6.state ∙ ap (λ s. (refuse_receivers t s).after) after5

              told6 : m6 ≡ m5 ++ (refuse_receivers t s5).effects
              told6 = came6.effects ∙ ap (λ s. m5 ++ (refuse_receivers t s).effects) after5

              pub threads6 : HasLawfulThreads (state_of p6)
              threads6 = record {
                lawful = s6;
                dying = Some t;
                nine = (wake_all (awaits t) (awaits_alone t) nonexist s5 (Some t) nine5).0.nine;
                threads = ap (λ (s : State). s.threads) (sym after6);
              }

              size6 : length m6 ≡ length m5 + length (refuse_receivers t s5).effects
              size6 = ap length told6 ∙ length-append m5 (refuse_receivers t s5).effects

              pub room6 : HasRoom m6 (after_dismiss awaited.Death t (state_of p6)) 0
              room6 = omega (arith, few, room, size2, size3, size4, size5, size6, ap (λ s. length (answer_joiners t s).effects) after6)

              module _ (p7 : Parts) (m7 : List Effect) (came7 : CameTo p6 p7 m6 m7 (after_dismiss awaited.Death t (state_of p6))) where
                after7 : state_of p7 ≡ s7
                after7 = came7.state ∙ ap (λ s. (answer_joiners t s).after) after6

                told7 : m7 ≡ m6 ++ (answer_joiners t s6).effects
                told7 = came7.effects ∙ ap (λ s. m6 ++ (answer_joiners t s).effects) after6

                pub forgotten7 : Forgotten (state_of p7) t
                forgotten7 = rw after7 (forgotten s0 nine t who.row who.known)

                pub dying7 : p7.dying ≡ Some t
                dying7 = came7.dying ∙ came6.dying ∙ came5.dying ∙ came4.dying ∙ came3.dying ∙ dying2

                size7 : length m7 ≡ length m6 + length (answer_joiners t s6).effects
                size7 = ap length told7 ∙ length-append m6 (answer_joiners t s6).effects

                pub room7 : length m7 < 2048
                room7 = omega (arith, few, room, size2, size3, size4, size5, size6, size7)

                module _ (new : Parts) (m8 : List Effect) (after8 : state_of new ≡ (bury t (state_of p7)).after)
                    (told8 : m8 ≡ m7 ++ (bury t (state_of p7)).effects) (step8 : InStep new) (none8 : new.dying ≡ None) where
                  told : (state_of new ≡ (death t s0).after) × (m8 ≡ before ++ (death t s0).effects)
                  unfolding in_order
                  told =
                      let last = told_then (state_of new) m7 m8 m8 (bury t s7) (in_order []) told8
                      (after8 ∙ ap (λ s. (bury t s).after) after7, sym (append-nil m8)) in
                      let joined = told_then (state_of new) m6 m7 m8 (answer_joiners t s6) (in_order (bury t ∷ [])) told7 last in
                      let received = told_then (state_of new) m5 m6 m8 (refuse_receivers t s5) (in_order (answer_joiners t ∷ bury t ∷ [])) told6 joined in
                      let sent = told_then (state_of new) m4 m5 m8 (refuse_senders t s4)
                      (in_order (refuse_receivers t ∷ answer_joiners t ∷ bury t ∷ [])) told5 received in
                      let ended = told_then (state_of new) m3 m4 m8 (end_agents t s3)
                      (in_order (refuse_senders t ∷ refuse_receivers t ∷ answer_joiners t ∷ bury t ∷ [])) told4 sent in
                      let released = told_then (state_of new) m2 m3 m8 (release_all t s2)
                      (in_order (end_agents t ∷ refuse_senders t ∷ refuse_receivers t ∷ answer_joiners t ∷ bury t ∷ [])) told3 ended in
                      let unwound = told_then (state_of new) before m2 m8 (run_all_exits t s1)
                      (in_order (release_all t ∷ end_agents t ∷ refuse_senders t ∷ refuse_receivers t ∷ answer_joiners t ∷ bury t ∷ [])) told2 released in
                      told_then (state_of new) before before m8 (withdraw t s0)
                      (in_order (run_all_exits t ∷ release_all t ∷ end_agents t ∷ refuse_senders t ∷ refuse_receivers t ∷ answer_joiners t ∷ bury t ∷ []))
                      (sym (append-nil before)) unwound

                  pub died : CameTo parts new before m8 (death t (state_of parts))
                  died = record { state = told.0; effects = told.1; step = step8; dying = none8 ∙ sym none }

                  pub died_lawful : LawfulParts new
                  died_lawful = record { nine = rw (told.0, none8) (NineParts-death s0 nine t who.row who.known); step = step8 }

                  pub died_most : length m8 ≤ length before + 1279
                  died_most = omega (arith, death_few s0 nine t who.row who.known, ap length told.1, length-append before (death t s0).effects)
