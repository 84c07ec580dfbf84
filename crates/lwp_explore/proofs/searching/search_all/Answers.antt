use Rattle.lwp_explore.proofs.AlongLaws.{first_core_is}
use Rattle.lwp_explore.proofs.searching.search_all.Goals as goal
use Rattle.lwp_explore.specs.Searching.{script_moves}
use Rattle.search.specs.Found.{cores_of, steps_from}
use Rattle.std.proofs.Common.{ap, refl, ◌-◌, ◌^◌, ◌∙◌}
use Rattle.std.specs.Prelude.{min}

pub explore-requires : goal.explore-requires
explore-requires c = record { begins = first_core_is c.args.machine.now c.requires }

pub returns-in-Ok : goal.returns-in-Ok
returns-in-Ok c =
    let moves = script_moves c.args.machine.now.script c.args.machine.now.sought in
    let is = c.in-Ok.ensures in
    record {
      sound = is.sound;
      first = is.first;
      shortest = is.shortest;
      below = is.below;
      distinct = is.distinct;
      kinds = is.kinds;
      complete = is.complete;
      cut = is.cut refl;
      full = is.full refl;
      few = is.few;
      gone = is.gone refl;
      tried = is.tried ∙ ap (λ n. min (steps_from moves (cores_of moves c.in-Ok.found.rows.items) n) (2 ^ 64 - 1)) (is.gone refl);
      lasts = is.lasts;
    }
