use Rattle.lwp_explore.proofs.StandingLaws.{opening_standing, told_first}
use Rattle.lwp_explore.proofs.machine.ScriptMachine.new.Goals as goal
use Rattle.script_session.specs.SoFar.{opening_run}
use Rattle.std.proofs.Common.{ap, replicate, ◌∙◌, ◌≡◌}

pub invariant_of-result : goal.invariant_of-result
invariant_of-result c =
    let run = c.in_ok-new.field-0.value in
    let opens : run ≡ opening_run c.args.posts.now c.args.run.turns = c.in_ok-new.ensures.ok ∙ c.requires.opens in
    let none = c.in_ok-taken.ensures.items_if_clones_equal (λ y e. e) ∙ ap (λ n. replicate n 0) c.clients.ensures in (
      opening_standing c.args.posts.now c.args.run.turns run c.in_ok-taken.taken.items opens none c.requires.within c.requires.posted,
      λ _. told_first c.args.posts.now c.args.run.turns run c.nothing.result opens c.nothing.ensures,
    )
