use Rattle.std.proofs.Common.{List, arith, refl, subst, sym}
use Rattle.lwp_types.specs.declared.call.Line.{Line}
use Rattle.replay.specs.Walk.{AreLeft}
use Rattle.replay.proofs.StockLaws.{posted-fits}
use Rattle.replay.proofs.traced.replay.Goals as goal

pub follow_recorded-requires : goal.follow_recorded-requires
follow_recorded-requires g c =
    let within = c.requires.within in
    let left = subst (λ (posts : List Line). AreLeft c.in_ok-lines.lines.lines posts) (sym c.in_ok-lines.ensures.posts) c.in_ok-lines.ensures.left in
    λ k. (
      (refl, tt),
      (
        within.least_priority,
        (
          within.most_priority,
          (
            within.least_births,
            (
              within.most_births,
              (
                omega (arith, c.procs.ensures, c.requires.procs),
                (
                  c.requires.names,
                  (left, (posted-fits _ c.args.script.now c.requires.posted c.in_ok-lines.ensures.clients c.in_ok-lines.ensures.posts, sym c.procs.ensures)),
                ),
              ),
            ),
          ),
        ),
      ),
    )
