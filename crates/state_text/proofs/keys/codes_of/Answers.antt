use Rattle.state_text.proofs.Telling.{place_all, place_more}
use Rattle.state_text.specs.Keys.{code, codes_from}
use Rattle.std.proofs.Common.{[], ap, refl, ℕ, ◌++◌, ◌∙◌, ◌∷◌}
use Rattle.state_text.proofs.keys.codes_of.Goals as goal

pub loop-i-preserved : goal.loop-i-preserved
loop-i-preserved c =
    place_more codes_from (λ (n k : ℕ). code k n ∷ []) (λ n. refl) (λ n x xs. refl) c.loop-i.codes.items _ c.args.keys.now c.loop-i.i
    c.loop-i.invariant c.push.new.self.items _ c.loop-i-test.true
    (c.in_ok-push.ensures.items ∙ ap (λ x. c.loop-i.codes.items ++ x ∷ []) c.code.ensures)
