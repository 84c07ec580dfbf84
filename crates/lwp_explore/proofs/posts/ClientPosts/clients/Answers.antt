use Rattle.lwp_explore.proofs.PostLaws.{length_all}
use Rattle.lwp_explore.proofs.posts.ClientPosts.clients.Goals as goal
use Rattle.script_text.specs.declared.script.Script.{Script}
use Rattle.std.proofs.Common.{ap, length, ◌∙◌}

pub returns : goal.returns
returns c =
    let script = c.self.inside.script.now in
    c.len.ensures ∙ ap length c.self.invariant.0 ∙ length_all (length script.clients) script.posts
    ∙ ap (λ (s : Script). length s.clients) c.self.view_is
