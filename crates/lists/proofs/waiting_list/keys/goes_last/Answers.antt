use Rattle.std.proofs.Common.{arith, refl, sym, ◌∙◌}
use Rattle.lists.proofs.WaitingLaws.KeyLaws.{place_last}
use Rattle.lists.proofs.waiting_list.keys.goes_last.Goals as goal

pub returns-in-Some : goal.returns-in-Some
returns-in-Some c = λ less. place_last c.args.key c.args.keys.now.items _ c.in-Some.last.now c.requires
    (omega (arith, c.in-Some.ensures.variant.0 refl, c.args.keys.now.ok.0)) c.in-Some.ensures.lookup (sym c.is_before.ensures ∙ less)
