use Rattle.keys.specs.Spelling.{number_bytes}
use Rattle.keys.specs.SpellingLaws.{byte_first, byte_small}
use Rattle.std.proofs.Common.{[], ap, append_assoc, sym, ◌%◌, ◌++◌, ◌+◌, ◌/◌, ◌∙◌, ◌∷◌}
use Rattle.keys.proofs.key.put_number.Goals as goal

pub loop-rest-preserved : goal.loop-rest-preserved
loop-rest-preserved c =
    let old = c.loop-rest.bytes.items in
    let rest = c.loop-rest.rest in
    ap (λ l. l ++ number_bytes (rest / 128)) c.in_ok-push.ensures.items
    ∙ append_assoc old ((128 + rest % 128) ∷ []) (number_bytes (rest / 128))
    ∙ ap (λ l. old ++ l) (sym (byte_first rest c.loop-rest-test.true)) ∙ c.loop-rest.invariant

pub returns : goal.returns
returns c =
    let old = c.loop-rest.bytes.items in
    c.in_ok-push-2.ensures.items ∙ ap (λ l. old ++ l) (sym (byte_small c.loop-rest.rest c.loop-rest-test.false)) ∙ c.loop-rest.invariant
