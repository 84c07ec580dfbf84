use Rattle.std.proofs.Common.{[], ap, arith, map, sym, take, ◌++◌, ◌∙◌, ◌∷◌}
use Rattle.std.proofs.lemmas.List.{map-append}
use Rattle.script_run.proofs.ClientLaws.{texts-next}
use Rattle.script_run.specs.Clients.{texts_from}
use Rattle.script_run.proofs.clients.client_texts.Goals as goal
use Rattle.script_text.specs.Script.{lines_posted}

pub loop-client-preserved : goal.loop-client-preserved
loop-client-preserved c =
    ap (map (λ v. v.items)) c.in_ok-push.ensures.items
    ∙ map-append (λ v. v.items) c.loop-client.all.items (c.in_ok-texts_for.field-0 ∷ [])
    ∙ ap (λ ts. ts ++ c.in_ok-texts_for.field-0.items ∷ []) c.loop-client.invariant
    ∙ ap (λ ts. texts_from 0 (take c.loop-client.client c.args.script.now.clients) (lines_posted c.args.script.now) ++ ts ∷ []) c.in_ok-texts_for.ensures
    ∙ sym (texts-next c.loop-client.client c.args.script.now.clients (lines_posted c.args.script.now)
    (omega (arith, c.loop-client-test.true, c.len-client-end.ensures)))
