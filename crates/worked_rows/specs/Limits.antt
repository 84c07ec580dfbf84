-- Pods at their limits: scripts that come there by themselves, and states that stand right before and at a limit.
use Rattle.lwp_types.specs.State.{State, opening, opening_thread}
use Rattle.lwp_types.specs.Step.{step}
use Rattle.lwp_types.specs.Threads.{new_thread}
use Rattle.lwp_types.specs.declared.call.Answer.{Answer}
use Rattle.lwp_types.specs.declared.call.Call.{Call}
use Rattle.lwp_types.specs.declared.call.LwpErr.{LwpErr}
use Rattle.pod_runner.specs.Due.{numbers_to}
use Rattle.trace_text.specs.declared.ends.Halt.TheVariants.{Ended, Spent}
use Rattle.std.specs.Fmt.{decimal}
use Rattle.std.specs.List.{flat_map}
use Rattle.std.specs.Prelude.{List, [], codes, map, pos, replicate, ℕ, ◌++◌, ◌+◌, ◌-◌, ◌≡◌, ◌∷◌}
use Rattle.worked_rows.specs.Words.{Row, asleep, named, pod, procedure, speaking}
use Rattle.lwp_types.specs.declared.call.Answer.TheVariants as answer
use Rattle.lwp_types.specs.declared.call.Effect.TheVariants as effect
use Rattle.lwp_types.specs.declared.call.Func.TheVariants as func
use Rattle.lwp_types.specs.declared.call.Pattern.TheVariants as pattern
use Rattle.lwp_types.specs.declared.rows.Mark.TheVariants as mark
use Rattle.script_text.specs.declared.script.ExitStmt.TheVariants as exit_stmt
use Rattle.script_text.specs.declared.script.Stmt.TheVariants as stmt

-- so many pieces of text, each by its number, counted from 0
abbrev pub pieces : ℕ → (ℕ → List ℕ) → List ℕ
pieces n piece = flat_map piece (numbers_to n)

-- A procedure that calls itself comes to 64 frames.
--   lwp 1 / pod 1
--   proc main / call main / podexit 3
abbrev pub sixty_four_frames : Row
sixty_four_frames = record {
  script = pod 1 (named (codes "main" ∷ []) [] [] []) (procedure 0 (stmt.CallProc 0 ∷ stmt.PodExit 3 ∷ []) ∷ []);
  turns = 100000;
  trace = pieces 63 (λ k. codes "t0: call main\nt0 = 0\n")
      ++ codes "t0: call main\nt0 ! LE_NOROOM\nt0: podexit 3\npod ends 3\n";
  halt = Ended 3;
  calls = 65;
  takes = [];
}

-- With just as many turns as it takes.
abbrev pub sixty_four_frames_exact_turns : Row
sixty_four_frames_exact_turns = record sixty_four_frames { turns = 65 }

-- With one turn fewer.
abbrev pub sixty_four_frames_one_turn_fewer : Row
sixty_four_frames_one_turn_fewer = record sixty_four_frames {
  turns = 64;
  trace = pieces 63 (λ k. codes "t0: call main\nt0 = 0\n") ++ codes "t0: call main\nt0 ! LE_NOROOM\nspent 64\n";
  halt = Spent;
  calls = 64;
}

-- A frame and 255 exit procedures are 256 marks.
--   lwp 1 / pod 1
--   proc main / onexit note x / again
abbrev pub two_hundred_and_fifty_six_marks : Row
two_hundred_and_fifty_six_marks = record {
  script = speaking (codes "x" ∷ []) (pod 1 (named (codes "main" ∷ []) [] [] [])
      (procedure 0 (stmt.OnExit (exit_stmt.Note 0) ∷ stmt.Again ∷ []) ∷ []));
  turns = 256;
  trace = pieces 255 (λ k. codes "t0: onexit note x\nt0 = " ++ (decimal k ++ codes "\n"))
      ++ codes "t0: onexit note x\nt0 ! LE_NOROOM\nspent 256\n";
  halt = Spent;
  calls = 256;
  takes = [];
}

-- A thread makes agents until 256 live.
--   lwp 1 / pod 1
--   proc main / agent g 1 / again
abbrev pub agents_full : Row
agents_full = record {
  script = pod 1 (named (codes "main" ∷ []) (codes "g" ∷ []) [] [])
      (procedure 0 (stmt.Agent 0 1 ∷ stmt.Again ∷ []) ∷ []);
  turns = 257;
  trace = pieces 256 (λ k. codes "t0: agent 1\nt0 = t" ++ (decimal (k + 1) ++ codes "\n"))
      ++ codes "t0: agent 1\nt0 ! LE_NOROOM\nspent 257\n";
  halt = Spent;
  calls = 257;
  takes = [];
}

-- The first thread and 1,023 that are created suspended.
--   lwp 1 / pod 1
--   proc main / create a w 1 s / again
--   proc w
abbrev pub a_thousand_and_twenty_four_threads : Row
a_thousand_and_twenty_four_threads = record {
  script = pod 1 (named (codes "main" ∷ codes "w" ∷ []) (codes "a" ∷ []) [] [])
      (procedure 0 (stmt.Create 0 1 1 asleep ∷ stmt.Again ∷ []) ∷ procedure 1 [] ∷ []);
  turns = 1024;
  trace = pieces 1023 (λ k. codes "t0: create w 1 s\nt0 = t" ++ (decimal (k + 1) ++ codes "\n"))
      ++ codes "t0: create w 1 s\nt0 ! LE_NOROOM\nspent 1024\n";
  halt = Spent;
  calls = 1024;
  takes = [];
}

-- states

-- thread 0 makes this call, and is answered so, with no other effect
abbrev pub Answers : State → Call → Answer → Type 0
Answers s c a = (step s c).effects ≡ effect.Called 0 c ∷ effect.Answered 0 a ∷ []

-- thread 0 makes this call, and it is refused: all stays as it is
abbrev pub Refuses : State → Call → LwpErr → Type 0
Refuses s c e = ((step s c).effects ≡ effect.Called 0 c ∷ effect.Answered 0 (answer.Refused e) ∷ [])
    × ((step s c).after ≡ s)

-- a pod with its first thread alone, and one procedure
abbrev pub alone : State
alone = opening (record { maxpri = 1; births = 4294967295; procs = 1 })

-- it has so many threads, all but the first suspended
abbrev pub with_threads : ℕ → State
with_threads n = record alone {
  threads = opening_thread 1 ∷ map (λ k. new_thread (k + 1) 1 asleep) (numbers_to (n - 1));
  births = n;
}

-- so many monitors are live
abbrev pub with_monitors : ℕ → State
with_monitors n = record alone { monitors = numbers_to n; monitor_births = n }

-- so many conditions are live, all of one monitor
abbrev pub with_conditions : ℕ → State
with_conditions n = record alone {
  monitors = 0 ∷ [];
  monitor_births = 1;
  conditions = map (λ c. record { number = c; mon = 0 }) (numbers_to n);
  condition_births = n;
}

-- so many were born of each kind
abbrev pub with_births : ℕ → State
with_births n = record alone { births = n; monitors = 0 ∷ []; monitor_births = n; condition_births = n }

-- the first thread has entered a monitor so often
abbrev pub entered : ℕ → State
entered n = record alone {
  monitors = 0 ∷ [];
  monitor_births = 1;
  locks = record { mon = 0; owner = 0; depth = n } ∷ [];
}

-- the first thread is in so many procedures
abbrev pub with_frames : ℕ → State
with_frames n = record alone { threads = record (opening_thread 1) { marks = replicate n mark.Frame } ∷ [] }

-- the first thread is in one procedure, and has set so many marks with it
abbrev pub with_marks : ℕ → State
with_marks n = record alone {
  threads = record (opening_thread 1) {
    marks = mark.Frame ∷ replicate (n - 1) (mark.Handler pattern.All func.Nothing 0);
  }
      ∷ [];
}

-- so many exit procedures were registered
abbrev pub with_registrations : ℕ → State
with_registrations n = record alone { next_registration = n }

-- all patterns below this one were given
abbrev pub with_patterns : ℕ → State
with_patterns n = record alone { next_pattern = n }

-- a value
abbrev pub value : ℕ → Answer
value n = answer.Value (pos n)
