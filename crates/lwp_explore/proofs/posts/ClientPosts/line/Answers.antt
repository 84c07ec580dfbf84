use Rattle.event_gate.specs.Clients.{of}
use Rattle.lwp_explore.proofs.PostLaws.{as_many, at_client, length_all, line_at}
use Rattle.lwp_explore.proofs.posts.ClientPosts.line.Goals as goal
use Rattle.lwp_explore.specs.Posts.{places_from}
use Rattle.script_text.specs.Script.{line_of, lines_posted}
use Rattle.script_text.specs.declared.script.Post.{Post}
use Rattle.script_text.specs.declared.script.Script.{Script}
use Rattle.std.proofs.Common.{Some, ap, arith, get_or, length, slice_get, slice_index_or, sym, ◌-◌, ◌<◌, ◌∙◌, ◌≡◌}
use Rattle.std.proofs.lemmas.List.{length-map}

pub get-requires : goal.get-requires
get-requires c =
    let script = c.self.inside.script.now in
    omega (
      arith,
      c.requires.client,
      ap (λ (s : Script). length s.clients) c.self.view_is,
      ap length c.self.invariant.0,
      length_all (length script.clients) script.posts,
    )

pub get-place-requires : goal.get-place-requires
get-place-requires c =
    let script = c.self.inside.script.now in
    let client = c.args.client in
    let row = c.get.ensures ∙ ap (λ ps. slice_index_or ps client c.get.result.now) c.self.invariant.0
    ∙ at_client (length script.clients) client script.posts c.get.result.now
    (omega (arith, c.requires.client, ap (λ (s : Script). length s.clients) c.self.view_is)) in
    omega (
      arith,
      c.requires.number,
      ap length row,
      as_many client script.texts 0 script.posts,
      ap (λ s. length (of client (lines_posted s))) c.self.view_is,
    )

pub bounds-as_slice-place : goal.bounds-as_slice-place
bounds-as_slice-place c =
    let script = c.self.inside.script.now in
    let client = c.args.client in
    let row = c.get.ensures ∙ ap (λ ps. slice_index_or ps client c.get.result.now) c.self.invariant.0
    ∙ at_client (length script.clients) client script.posts c.get.result.now
    (omega (arith, c.requires.client, ap (λ (s : Script). length s.clients) c.self.view_is)) in
    let low : c.args.number < length (places_from client 0 script.posts) =
    omega (
      arith,
      c.requires.number,
      as_many client script.texts 0 script.posts,
      ap (λ s. length (of client (lines_posted s))) c.self.view_is,
    ) in
    let at = line_at client script.texts 0 script.posts c.args.number c.get-place.result low in
    let place = c.get-place.ensures ∙ ap (λ ks. slice_index_or ks c.args.number c.get-place.result) row in
    omega (arith, at.within, place, ap length c.as_slice.ensures)

pub offset_bounds-as_slice-place : goal.offset_bounds-as_slice-place
offset_bounds-as_slice-place c =
    let script = c.self.inside.script.now in
    let client = c.args.client in
    let row = c.get.ensures ∙ ap (λ ps. slice_index_or ps client c.get.result.now) c.self.invariant.0
    ∙ at_client (length script.clients) client script.posts c.get.result.now
    (omega (arith, c.requires.client, ap (λ (s : Script). length s.clients) c.self.view_is)) in
    let low : c.args.number < length (places_from client 0 script.posts) =
    omega (
      arith,
      c.requires.number,
      as_many client script.texts 0 script.posts,
      ap (λ s. length (of client (lines_posted s))) c.self.view_is,
    ) in
    let at = line_at client script.texts 0 script.posts c.args.number c.get-place.result low in
    let place = c.get-place.ensures ∙ ap (λ ks. slice_index_or ks c.args.number c.get-place.result) row in
    omega (arith, at.within, place, c.self.invariant.1.few, length-map script.posts (line_of script.texts))

pub returns : goal.returns
returns c =
    let script = c.self.inside.script.now in
    let client = c.args.client in
    let none : Post = record { client = 0; seq = 0; text = 0 } in
    let row = c.get.ensures ∙ ap (λ ps. slice_index_or ps client c.get.result.now) c.self.invariant.0
    ∙ at_client (length script.clients) client script.posts c.get.result.now
    (omega (arith, c.requires.client, ap (λ (s : Script). length s.clients) c.self.view_is)) in
    let low : c.args.number < length (places_from client 0 script.posts) =
    omega (
      arith,
      c.requires.number,
      as_many client script.texts 0 script.posts,
      ap (λ s. length (of client (lines_posted s))) c.self.view_is,
    ) in
    let at = line_at client script.texts 0 script.posts c.args.number c.get-place.result low in
    let place = c.get-place.ensures ∙ ap (λ ks. slice_index_or ks c.args.number c.get-place.result) row in
    let post = slice_index_or c.as_slice.result.now c.get-place.result none in
    let whole : slice_index_or (places_from client 0 script.posts) c.args.number c.get-place.result - 0 ≡ c.get-place.result =
    omega (arith, place) in
    let same : get_or script.posts (slice_index_or (places_from client 0 script.posts) c.args.number c.get-place.result - 0) none ≡ post =
    ap (λ k. get_or script.posts k none) whole ∙ ap (λ ps. get_or ps c.get-place.result none) (sym c.as_slice.ensures) in
    ap (λ s. slice_get (of client (lines_posted s)) c.args.number) (sym c.self.view_is) ∙ at.is none
    ∙ ap (λ p. Some (line_of script.texts p)) same
    ∙ ap (λ text. Some (record { client = post.client; seq = post.seq; text = text })) (sym c.get-2.ensures)
