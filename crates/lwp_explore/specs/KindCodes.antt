-- The numbers of the kinds of ends.
use Rattle.lwp_explore.specs.declared.kinds.End.{End}
use Rattle.lwp_explore.specs.declared.kinds.End.TheVariants as end
use Rattle.lwp_explore.specs.declared.kinds.Kind.{Kind}
use Rattle.std.specs.Prelude.{Bool, if◌then◌else◌, suc, zero, ℕ, ◌%◌, ◌*◌, ◌+◌, ◌/◌, ◌==◌}

-- a number, and one more where lines are left
abbrev pub with_left : ℕ → Bool → ℕ
with_left number left = if left then number + 1 else number

-- the number of a kind: 0 for a stuck session, 2 where a call is the only step, and then those of ended pods
abbrev pub end_code : End → ℕ
end_code (end.Ended status) = 4 + 2 * status
end_code end.Stuck = 0
end_code end.Endless = 2

abbrev pub kind_code : Kind → ℕ
kind_code kind = with_left (end_code kind.end) kind.left

-- the kind of a number
abbrev pub half_end : ℕ → End
half_end zero = end.Stuck
half_end (suc zero) = end.Endless
half_end (suc (suc status)) = end.Ended status

abbrev pub code_kind : ℕ → Kind
code_kind number = record { end = half_end (number / 2); left = number % 2 == 1 }
