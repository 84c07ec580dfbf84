-- The names of the kinds of ends.
use Rattle.lwp_explore.specs.declared.kinds.End.{End}
use Rattle.lwp_explore.specs.declared.kinds.End.TheVariants as end
use Rattle.lwp_explore.specs.declared.kinds.Kind.{Kind}
use Rattle.std.specs.Prelude.{Bool, List, [], codes, decimal, false, if◌then◌else◌, true, ℕ, ◌++◌}

abbrev pub end_name : End → List ℕ
end_name (end.Ended status) = codes "ended " ++ decimal status
end_name end.Stuck = codes "stuck"
end_name end.Endless = codes "endless"

abbrev pub left_name : Bool → List ℕ
left_name left = if left then codes " with lines left" else []

abbrev pub kind_name : Kind → List ℕ
kind_name kind = end_name kind.end ++ left_name kind.left

-- a session that isn't over by the pod's end
abbrev pub is_other : End → Bool
is_other (end.Ended status) = false
is_other end.Stuck = true
is_other end.Endless = true

-- an end other than that of a pod with no line left
abbrev pub is_bad : Kind → Bool
is_bad kind = if kind.left then true else is_other kind.end
