use Rattle.lwp_explore.proofs.SeekingLaws.{leads_on, lost_is, nearest_is, never_is, place_low}
use Rattle.lwp_explore.proofs.seeking.line_text.Goals as goal
use Rattle.lwp_explore.specs.Cores.{after, first_core}
use Rattle.lwp_explore.specs.Explored.{IsSoughtOut}
use Rattle.lwp_explore.specs.Searching.{script_moves}
use Rattle.lwp_explore.specs.Sessions.{world_of}
use Rattle.lwp_explore.specs.Ways.{length_text, way}
use Rattle.search.specs.Found.{path_of}
use Rattle.search.specs.Moves.{walk}
use Rattle.std.proofs.Common.{[], ap, arith, length, subst, sym, ◌++◌, ◌∙◌, ◌∷◌}
use Rattle.std.specs.Prelude.{IsSome}

pub returns-then-found : goal.returns-then-found
returns-then-found c line is =
    let s = c.args.machine.now in
    let so = subst (λ o. IsSoughtOut (script_moves s.script o) c.args.cores c.in_ok-found.found) is c.in_ok-found.ensures in
    (never_is s.script line c.args.cores c.in_ok-found.found so c.in_default.is c.if-found.true, c.in_ok-line_of.ensures)

pub returns-in_default : goal.returns-in_default
returns-in_default c line is =
    let s = c.args.machine.now in
    let so = subst (λ o. IsSoughtOut (script_moves s.script o) c.args.cores c.in_ok-found.found) is c.in_ok-found.ensures in (
      lost_is s.script line c.args.cores c.in_ok-found.found so c.in_default.is c.if-found.false c.requires.posted.most c.requires.some c.requires.few,
      c.in_ok-line_of-2.ensures,
    )

pub path_with-requires-clause-within : goal.path_with-requires-clause-within
path_with-requires-clause-within c = omega (
  arith,
  place_low c.args.machine.now.script c.args.machine.now.sought c.args.cores c.in_ok-found.found c.in_ok-found.ensures c.in-Some.place c.in-Some.is,
  ap length c.deref.ensures.value,
)

pub way_text-requires-clause-leads : goal.way_text-requires-clause-leads
way_text-requires-clause-leads c =
    let s = c.args.machine.now in
    subst (λ path. IsSome (walk (after (world_of s.script)) (first_core (world_of s.script)) path))
    (sym (c.deref-2.ensures.value ∙ c.in_ok-path.ensures ∙ ap (λ rows. path_of rows c.in-Some.place.core ++ c.in-Some.place.step ∷ []) c.deref.ensures.value))
    (leads_on s.script s.sought c.args.cores c.in_ok-found.found c.in_ok-found.ensures c.in-Some.place c.in-Some.is)

pub returns : goal.returns
returns c line is =
    let s = c.args.machine.now in
    let place = c.in-Some.place in
    let so = subst (λ o. IsSoughtOut (script_moves s.script o) c.args.cores c.in_ok-found.found) is c.in_ok-found.ensures in (
      path_of c.in_ok-found.found.rows.items place.core,
      place.step,
      nearest_is s.script line c.args.cores c.in_ok-found.found so place c.in-Some.is,
      c.in_ok-text.ensures ∙ ap (λ path. length_text (way (world_of s.script) path) ++ 10 ∷ [])
          (c.deref-2.ensures.value ∙ c.in_ok-path.ensures ∙ ap (λ rows. path_of rows place.core ++ place.step ∷ []) c.deref.ensures.value),
    )
