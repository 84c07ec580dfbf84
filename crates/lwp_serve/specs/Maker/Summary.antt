-- What is told of a session of the script that was made.
use Rattle.std.specs.Prelude.{ℕ, List, ◌++◌, codes}
use Rattle.std.specs.Fmt.{decimal}
use Rattle.lwp_serve.specs.declared.maker.summary.Summary.{Summary}

-- five lines: how long the script is; how many calls were made; how many posts were taken, and how many are left; how
-- long the trace is; and the status
unfoldable pub summary_text : Summary → List ℕ
summary_text s = codes "script " ++ (decimal s.script
    ++ (codes "\ncalls " ++ (decimal s.calls
    ++ (codes "\ntaken " ++ (decimal s.taken
    ++ (codes " left " ++ (decimal s.left
    ++ (codes "\ntrace " ++ (decimal s.trace
    ++ (codes "\nstatus " ++ (decimal s.status
    ++ codes "\n")))))))))))
