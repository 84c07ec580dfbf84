use Rattle.snapshots.specs.Copies.{row_in, state_in}
use Rattle.state_text.specs.Text.{thread_lines}
use Rattle.std.proofs.Common.{drop, map, ◌++◌, ◌≡◌}
use Rattle.std.specs.List.{flat_map}
use Rattle.state_text.proofs.threads.add_all_threads.Given as goal

abbrev pub invariant-loop-row : goal.invariant-loop-row
invariant-loop-row l = let lines = thread_lines l.cast.procs.now l.cast.notes.now (state_in l.pod.state) in
    l.out.items ++ flat_map (λ x. lines (row_in x)) (drop l.row-index l.pod.state.threads)
    ≡ l.initial.out.items ++ flat_map (λ x. lines (row_in x)) l.pod.state.threads
