use Rattle.death_cleanup.proofs.Living.{copied-some, nth-own}
use Rattle.death_cleanup.proofs.waiters.nth_of.Goals as goal
use Rattle.death_cleanup.specs.declared.rows.Kind.{Kind}
use Rattle.stale_ids.specs.Register.{value_of}
use Rattle.std.proofs.Common.{Some, ap, sym, ◌∙◌, ◌≡◌}
use Rattle.std.specs.Prelude.{option_copied}

pub unwrap-kind-requires : goal.unwrap-kind-requires
unwrap-kind-requires c =
    let own = nth-own c.args.ids.now.live c.args.i c.nth-number.result c.nth-number.ensures.rising c.requires c.nth-number.ensures.value in
    copied-some c.get.result own.0 (c.get.ensures.value ∙ own.1)

pub returns : goal.returns
returns c =
    let own = nth-own c.args.ids.now.live c.args.i c.nth-number.result c.nth-number.ensures.rising c.requires c.nth-number.ensures.value in
    let here : value_of c.nth-number.result c.args.ids.now.live
    ≡ Some c.unwrap-kind.result.now = sym c.get.ensures.value ∙ ap option_copied c.unwrap-kind.ensures in
    let same : own.0 ≡ c.unwrap-kind.result.now = (let e : Some own.0 ≡ Some c.unwrap-kind.result.now = sym own.1 ∙ here in cc) in
    own.2 ∙ ap (λ (v : Kind). Some (c.nth-number.result, v)) same
