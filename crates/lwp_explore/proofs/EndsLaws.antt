-- What is said of the ends of sessions, piece by piece.
use Rattle.lwp_explore.proofs.AlongLaws.{along_calls, along_takes, along_there}
use Rattle.lwp_explore.specs.Along.{IsAlong}
use Rattle.lwp_explore.specs.Cores.{World, after, first_core}
use Rattle.lwp_explore.specs.Ends.{cycles_text, line_of}
use Rattle.lwp_explore.specs.Explored.{IsAtFirst}
use Rattle.lwp_explore.specs.FoundText.{ends_of, listed_line, path_line}
use Rattle.lwp_explore.specs.KindCodes.{code_kind}
use Rattle.lwp_explore.specs.KindText.{is_bad, kind_name}
use Rattle.lwp_explore.specs.Sessions.{world_of}
use Rattle.lwp_explore.specs.Standing.{Standing, core_now}
use Rattle.lwp_explore.specs.Ways.{length_text, way}
use Rattle.lwp_explore.specs.declared.ending.Ending.{Ending}
use Rattle.lwp_explore.specs.declared.ending.Ending.TheVariants as ending
use Rattle.lwp_explore.specs.declared.kinds.Kind.{Kind}
use Rattle.lwp_explore.specs.declared.listing.Listed.{Listed}
use Rattle.search.specs.Found.{path_of}
use Rattle.search.specs.Moves.{walk}
use Rattle.search.specs.declared.found.Row.{Row}
use Rattle.std.proofs.Common.{Bool, Err, List, Ok, Result, [], ap, append_assoc, length, map, refl, sym, ℕ, ◌++◌, ◌∙◌, ◌∷◌, ◌≡◌, ◌||◌}
use Rattle.std.specs.List.{list_any}
use Rattle.std.specs.Prelude.{OnOk, codes, decimal, if◌then◌else◌, unwrap_or}

any_map : {X Y : Type 0} (p : Y → Bool) (f : X → Y) (xs : List X) → list_any p (map f xs) ≡ list_any (λ x. p (f x)) xs
any_map p f [] = refl
any_map p f (x ∷ xs) = ap (λ b. p (f x) || b) (any_map p f xs)

abbrev ends_by_told : Bool → Bool → Ending
ends_by_told told whole = if told then ending.Told else if whole then ending.Well else ending.Cut

-- an ending by whether some end is not well
pub told_is : (kinds : List Listed) (whole told whole_is told_so : Bool) → told ≡ list_any (λ (l : Listed). is_bad (code_kind l.number)) kinds
    → told ≡ told_so → whole ≡ whole_is → (if told_so then ending.Told else if whole_is then ending.Well else ending.Cut) ≡ ends_of kinds whole
told_is kinds whole told whole_is told_so is so w =
    ap (λ b. ends_by_told b whole_is) (sym so ∙ is ∙ sym (any_map is_bad (λ (l : Listed). code_kind l.number) kinds))
    ∙ ap (ends_by_told (list_any is_bad (map (λ (l : Listed). code_kind l.number) kinds))) (sym w)

pub on_ok : {T E : Type 0} (P Q : Type 0) (r : Result T E) → OnOk r P → (P → Q) → OnOk r Q
on_ok P Q (Ok x) h f = f h
on_ok P Q (Err e) h f = tt

-- seven pieces, one put after the other
pieces : (out o1 o2 o3 o4 o5 o6 o7 a b c d e f g : List ℕ) → o1 ≡ out ++ a → o2 ≡ o1 ++ b → o3 ≡ o2 ++ c → o4 ≡ o3 ++ d → o5 ≡ o4 ++ e
    → o6 ≡ o5 ++ f → o7 ≡ o6 ++ g → o7 ≡ out ++ (a ++ (b ++ (c ++ (d ++ (e ++ (f ++ g))))))
pieces out o1 o2 o3 o4 o5 o6 o7 a b c d e f g h1 h2 h3 h4 h5 h6 h7 =
    h7 ∙ ap (λ l. l ++ g) h6 ∙ append_assoc o5 f g
    ∙ ap (λ l. l ++ (f ++ g)) h5 ∙ append_assoc o4 e (f ++ g)
    ∙ ap (λ l. l ++ (e ++ (f ++ g))) h4 ∙ append_assoc o3 d (e ++ (f ++ g))
    ∙ ap (λ l. l ++ (d ++ (e ++ (f ++ g)))) h3 ∙ append_assoc o2 c (d ++ (e ++ (f ++ g)))
    ∙ ap (λ l. l ++ (c ++ (d ++ (e ++ (f ++ g))))) h2 ∙ append_assoc o1 b (c ++ (d ++ (e ++ (f ++ g))))
    ∙ ap (λ l. l ++ (b ++ (c ++ (d ++ (e ++ (f ++ g)))))) h1 ∙ append_assoc out a (b ++ (c ++ (d ++ (e ++ (f ++ g)))))

module _ (s here : Standing) (path : List ℕ) (first : IsAtFirst s) (along : IsAlong s path here) where
  -- how long the way is
  pub length_is : codes "calls " ++ (decimal here.run.calls ++ (codes " takes " ++ decimal (length here.run.takes)))
      ≡ length_text (way (world_of s.script) path)
  length_is = (λ i. codes "calls " ++ (decimal (along_calls s here path first along i) ++ (codes " takes " ++ decimal (along_takes s here path first along i))))

  -- the core that the path leads to
  pub core_is : unwrap_or (walk (after (world_of s.script)) (first_core (world_of s.script)) path) (first_core (world_of s.script)) ≡ core_now here
  core_is = ap (λ o. unwrap_or o (first_core (world_of s.script))) (along_there s here path first along)

  -- the pieces are the line of a kind
  pub line_put : (number count : ℕ) (kind : Kind) (out o1 o2 o3 o4 o5 o6 o7 : List ℕ) → kind ≡ code_kind number → o1 ≡ out ++ kind_name kind
      → o2 ≡ o1 ++ codes ": " → o3 ≡ o2 ++ decimal count → o4 ≡ o3 ++ codes " cores, "
      → o5 ≡ o4 ++ (codes "calls " ++ (decimal here.run.calls ++ (codes " takes " ++ decimal (length here.run.takes))))
      → o6 ≡ o5 ++ cycles_text kind.end (core_now here) → o7 ≡ o6 ++ 10 ∷ [] → o7 ≡ out ++ path_line (world_of s.script) number count path
  line_put number count kind out o1 o2 o3 o4 o5 o6 o7 is h1 h2 h3 h4 h5 h6 h7 =
      pieces out o1 o2 o3 o4 o5 o6 o7 (kind_name kind) (codes ": ") (decimal count) (codes " cores, ") (length_text (way (world_of s.script) path))
      (cycles_text kind.end (core_now here)) (10 ∷ []) h1 h2 h3 h4 (h5 ∙ ap (λ l. o4 ++ l) length_is) h6 h7
      ∙ ap (λ k. out ++ line_of (world_of s.script) k count path (core_now here)) is
      ∙ ap (λ core. out ++ line_of (world_of s.script) (code_kind number) count path core) (sym core_is)

  -- how long the way is, on a line of its own
  pub way_put : (out o1 o2 : List ℕ) → out ≡ []
      → o1 ≡ out ++ (codes "calls " ++ (decimal here.run.calls ++ (codes " takes " ++ decimal (length here.run.takes)))) → o2 ≡ o1 ++ 10 ∷ []
      → o2 ≡ length_text (way (world_of s.script) path) ++ 10 ∷ []
  way_put out o1 o2 h0 h1 h2 =
      h2 ∙ ap (λ l. l ++ 10 ∷ [])
      (h1 ∙ ap (λ l. l ++ (codes "calls " ++ (decimal here.run.calls ++ (codes " takes " ++ decimal (length here.run.takes))))) h0 ∙ length_is)

-- a line of a kind that is listed is put there, by the path to its first core
pub listed_put : {B : Type 0} (world : World B) (rows : List Row) (l : Listed) (path out next : List ℕ) → path ≡ path_of rows l.first
    → next ≡ out ++ path_line world l.number l.cores path → next ≡ out ++ listed_line world rows l
listed_put world rows l path out next is put = put ∙ ap (λ p. out ++ path_line world l.number l.cores p) is
