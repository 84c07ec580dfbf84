use Rattle.std.proofs.Common.{[], ap, arith, get_or, length, set, sym, take, take_all, ◌∙◌}
use Rattle.std.proofs.lemmas.List.{length-map}
use Rattle.lwp_state.specs.Clients.{clients_from}
use Rattle.state_text.specs.declared.clients.ClientLines.{ClientLines}
use Rattle.script_text.specs.Script.{line_of, lines_posted}
use Rattle.lwp_state.proofs.ClientLaws.{client-known, counted-on, few-lines, length-clients, with_line}
use Rattle.lwp_state.proofs.clients.clients_of.Goals as goal

pub loop-place-init : goal.loop-place-init
loop-place-init c = c.in_ok-clients.ensures ∙ ap (λ es. clients_from 0 es []) c.as_slice.ensures

pub index_mut-requires : goal.index_mut-requires
index_mut-requires c =
    let known = client-known c.args.script.now c.as_slice-posts.result.now c.loop-place.place c.from-client.result _ c.requires
    c.as_slice-posts.ensures c.loop-place-test.true c.from-client.ensures in
    omega (
      arith,
      known,
      c.loop-place.clients.ok.0,
      ap length c.loop-place.invariant,
      length-clients 0 c.args.script.now.clients (take c.loop-place.place (lines_posted c.args.script.now)),
    )

pub overflow_add-index_mut : goal.overflow_add-index_mut
overflow_add-index_mut c =
    let known = client-known c.args.script.now c.as_slice-posts.result.now c.loop-place.place c.from-client.result _ c.requires
    c.as_slice-posts.ensures c.loop-place-test.true c.from-client.ensures in
    let same = c.index_mut.ensures.value ∙ ap (λ xs. get_or xs c.from-client.result c.index_mut.result.now) c.loop-place.invariant in
    omega (
      arith,
      ap (λ (x : ClientLines). x.posts) same,
      few-lines c.args.script.now c.loop-place.place c.from-client.result c.index_mut.result.now c.requires known,
    )

pub loop-place-preserved : goal.loop-place-preserved
loop-place-preserved c =
    let known = client-known c.args.script.now c.as_slice-posts.result.now c.loop-place.place c.from-client.result _ c.requires
    c.as_slice-posts.ensures c.loop-place-test.true c.from-client.ensures in
    let same = c.index_mut.ensures.value ∙ ap (λ xs. get_or xs c.from-client.result c.index_mut.result.now) c.loop-place.invariant in
    ap (λ xs. set xs c.from-client.result (with_line c.index_mut.result.now)) c.loop-place.invariant
    ∙ ap
    (λ x. set (clients_from 0 c.args.script.now.clients (take c.loop-place.place (lines_posted c.args.script.now))) c.from-client.result (with_line x)) same
    ∙ sym (counted-on c.args.script.now c.as_slice-posts.result.now c.loop-place.place c.from-client.result c.index_mut.result.now _
    c.as_slice-posts.ensures c.loop-place-test.true c.from-client.ensures known)

pub returns : goal.returns
returns c =
    c.loop-place.invariant
    ∙ ap (clients_from 0 c.args.script.now.clients) (take_all c.loop-place.place (lines_posted c.args.script.now)
    (omega (arith, c.loop-place-test.false, ap length c.as_slice-posts.ensures, length-map c.args.script.now.posts (line_of c.args.script.now.texts))))
