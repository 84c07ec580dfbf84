use Rattle.event_gate.specs.Clients.{of}
use Rattle.lwp_explore.proofs.PostLaws.{as_many, at_client, length_all}
use Rattle.lwp_explore.proofs.posts.ClientPosts.count.Goals as goal
use Rattle.script_text.specs.Script.{lines_posted}
use Rattle.script_text.specs.declared.script.Script.{Script}
use Rattle.std.proofs.Common.{ap, arith, length, slice_index_or, ◌∙◌}

pub get-requires : goal.get-requires
get-requires c =
    let script = c.self.inside.script.now in
    omega (
      arith,
      c.requires,
      ap (λ (s : Script). length s.clients) c.self.view_is,
      ap length c.self.invariant.0,
      length_all (length script.clients) script.posts,
    )

pub overflow_cast-result : goal.overflow_cast-result
overflow_cast-result c =
    let script = c.self.inside.script.now in
    let client = c.args.client in
    let row = c.get.ensures ∙ ap (λ ps. slice_index_or ps client c.get.result.now) c.self.invariant.0
    ∙ at_client (length script.clients) client script.posts c.get.result.now
    (omega (arith, c.requires, ap (λ (s : Script). length s.clients) c.self.view_is)) in
    omega (arith, c.len.ensures, ap length row, as_many client script.texts 0 script.posts, c.self.invariant.1.each client)

pub returns : goal.returns
returns c =
    let script = c.self.inside.script.now in
    let client = c.args.client in
    let row = c.get.ensures ∙ ap (λ ps. slice_index_or ps client c.get.result.now) c.self.invariant.0
    ∙ at_client (length script.clients) client script.posts c.get.result.now
    (omega (arith, c.requires, ap (λ (s : Script). length s.clients) c.self.view_is)) in
    c.len.ensures ∙ ap length row ∙ as_many client script.texts 0 script.posts ∙ ap (λ s. length (of client (lines_posted s))) c.self.view_is
