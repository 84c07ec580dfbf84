-- What a gate keeps of the lines that clients post.
use Rattle.std.proofs.Common.{◌≡◌, ◌≢◌, ℕ, Bool, List, [], ◌∷◌, ◌++◌, true, false, cond, length, take, drop, get_or-set_same}
use Rattle.std.proofs.Common.{get_or-set_other, take-append-drop, eqb, sym, refl, ap, ◌∙◌, ⊎_elim, append_assoc, arith}
use Rattle.std.proofs.lemmas.List.FromFn.{get_or-map-range_with_len}
use Rattle.lwp_types.specs.declared.call.Line.{Line}
use Rattle.event_gate.specs.Port.{of}
use Rattle.event_gate.specs.Shelves.{Shelf, Shelves, after_next, after_take_from, bare, event_of, full, full_shelves, lines_for, shelf_of}
use Rattle.event_gate.specs.History.{ClientsKeepHistory, GatesKeepHistory, IsGateHistory}
use Rattle.event_gate.proofs.Lines.{cond_other, cond_same, of-append, same_or}

abbrev all_of : Shelf Line → List Line
all_of s = s.taken ++ s.left

-- a take moves a line from those left to those taken
whole_still : (s : Shelf Line) → all_of (after_next s) ≡ all_of s
whole_still s = append_assoc s.taken (take 1 s.left) (drop 1 s.left) ∙ ap (λ l. s.taken ++ l) (take-append-drop 1 s.left)

begins : (events : List ℕ) (posts : List Line) → IsGateHistory events posts (full_shelves events posts)
begins events posts e low = ap all_of (get_or-map-range_with_len (full events posts) 0 256 e e bare low (omega arith))

keeps : (events : List ℕ) (posts : List Line) (shelves : Shelves) (e : ℕ) → length shelves ≡ 256 → IsGateHistory events posts shelves
    → IsGateHistory events posts (after_take_from shelves e)
keeps events posts shelves e long h d low = ⊎_elim
    (λ (same : e ≡ d).
    ap (λ k. all_of (shelf_of (after_take_from shelves e) k)) (sym same)
    ∙ ap all_of (get_or-set_same shelves e (after_next (shelf_of shelves e)) bare (omega (arith, long, same, low)))
    ∙ whole_still (shelf_of shelves e) ∙ ap (λ k. all_of (shelf_of shelves k)) same ∙ h d low)
    (λ (other : e ≢ d). ap all_of (get_or-set_other shelves e d (after_next (shelf_of shelves e)) bare (λ s. other (sym s))) ∙ h d low)
    (same_or e d)

pub gates_keep_history : GatesKeepHistory
gates_keep_history = record { begins = begins; keeps = keeps }

-- c's lines among those for its event are all of c's
of_event : (events : List ℕ) (posts : List Line) (c : ℕ) → of c (lines_for events posts (event_of events c)) ≡ of c posts
of_event events [] c = refl
of_event events (l ∷ ls) c =
    let rest : List Line = lines_for events ls (event_of events c) in
    let again = of_event events ls c in
    ⊎_elim
    (λ (same : l.client ≡ c).
    ap (of c) (cond_same (event_of events l.client) (event_of events c) (l ∷ rest) rest (ap (event_of events) same))
    ∙ cond_same l.client c (l ∷ of c rest) (of c rest) same ∙ ap (λ y. l ∷ y) again ∙ sym (cond_same l.client c (l ∷ of c ls) (of c ls) same))
    (λ (other : l.client ≢ c). either_way (eqb (event_of events l.client) (event_of events c)) rest other again
    ∙ sym (cond_other l.client c (l ∷ of c ls) (of c ls) other))
    (same_or l.client c)
  where
    either_way : (b : Bool) (rest : List Line) → l.client ≢ c → of c rest ≡ of c ls → of c (cond b (l ∷ rest) rest) ≡ of c ls
    either_way true rest other again = cond_other l.client c (l ∷ of c rest) (of c rest) other ∙ again
    either_way false rest other again = again

pub clients_keep_history : ClientsKeepHistory
clients_keep_history events posts shelves c low h =
    let s : Shelf Line = shelf_of shelves (event_of events c) in
    sym (of-append c s.taken s.left) ∙ ap (of c) (h (event_of events c) low) ∙ of_event events posts c
