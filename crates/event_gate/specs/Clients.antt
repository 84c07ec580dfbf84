-- Lines by client, and what is known of clients.
use Rattle.std.specs.Prelude.{◌≡◌, ℕ, suc, ◌<◌, Bool, cond, eqb, List, [], ◌∷◌}
use Rattle.std.specs.List.{filter, list_any}
use Rattle.lwp_types.specs.declared.call.Line.{Line}
use Rattle.event_gate.specs.declared.view.Told.{Told}

-- the lines of client c, in order
abbrev pub of : ℕ → List Line → List Line
of c lines = filter (λ l. eqb l.client c) lines

-- a poster was made for client c
abbrev pub is_noted : ℕ → List ℕ → Bool
is_noted c noted = list_any (λ d. eqb d c) noted

-- the pass of client c came back
abbrev pub is_told : ℕ → List Told → Bool
is_told c known = list_any (λ (t : Told). eqb t.client c) known

-- what the client has posted in all, where its pass came back
abbrev pub lines_in_pass : ℕ → List Told → List Line
lines_in_pass c [] = []
lines_in_pass c (t ∷ ts) = cond (eqb t.client c) t.posted (lines_in_pass c ts)

-- the lines are numbered from n on, below the greatest u32
abbrev pub IsNumbered : ℕ → List Line → Type 0
IsNumbered n [] = Unit {0}
IsNumbered n (l ∷ ls) = (l.seq ≡ n) × (n < 4294967295) × IsNumbered (suc n) ls
