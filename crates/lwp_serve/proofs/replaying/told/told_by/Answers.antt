use Rattle.std.proofs.Common.{length, refl, subst, sym, ◌≤◌}
use Rattle.lwp_serve.proofs.ReplayingLaws.ToldLaws.{like-opening, some-bodies}
use Rattle.script_body.specs.Bodies.{bodies_of}
use Rattle.script_text.specs.declared.script.Script.{Script}
use Rattle.lwp_serve.proofs.replaying.told.told_by.Goals as goal

pub replay-requires : goal.replay-requires
replay-requires c =
    let procs = subst (λ (s : Script). 1 ≤ length (bodies_of s)) (sym c.new-program.ensures) (some-bodies c.args.script.now c.requires.within) in
    λ k. ((refl, tt), (c.requires.within, (c.requires.posted, (procs, like-opening c.args.script.now c.in_ok-env.env c.in_ok-env.ensures))))
