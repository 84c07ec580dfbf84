use Rattle.search.proofs.VerdictLemmas.{failure, no_failure, too_much}
use Rattle.search.specs.Found.{path_of}
use Rattle.search.specs.Verdicts.{HasNoKind, IsFirstOfKind}
use Rattle.std.proofs.Common.{ap, length, refl, subst, sym, ◌<◌, ◌∙◌}
use Rattle.std.proofs.lemmas.Option.{slice_get_within}
use Rattle.std.specs.Prelude.{MatchOption}
use Rattle.search.proofs.verdicts.judge.Goals as goal

pub path_to-requires-clause-within : goal.path_to-requires-clause-within
path_to-requires-clause-within g c =
    let first = subst (λ o. MatchOption o (HasNoKind c.deref.result.now (length c.deref.result.now))
    (IsFirstOfKind c.deref.result.now)) c.in-Some.is c.first_of_kind.ensures in
    subst (λ rs. c.in-Some.number < length rs) (c.deref.ensures.value
    ∙ sym c.deref-in-Some.ensures.value) (slice_get_within c.deref.result.now c.in-Some.number first.row first.there)

pub returns-in-Some : goal.returns-in-Some
returns-in-Some g c =
    let rows = c.in_ok-found.found.rows.items in
    let first = subst (λ o. MatchOption o (HasNoKind c.deref.result.now (length c.deref.result.now))
    (IsFirstOfKind c.deref.result.now)) c.in-Some.is c.first_of_kind.ensures in
    record {
      verdict = failure (g.M.Machine.moves c.args.machine.now) rows c.in_ok-found.ensures.kinds c.in_ok-found.ensures.sound
          c.in_ok-found.ensures.first c.in-Some.number
          (subst (λ rs. IsFirstOfKind rs c.in-Some.number) c.deref.ensures.value first) c.in_ok-path_to-in-Some.field-0.items
          (c.in_ok-path_to-in-Some.ensures ∙ ap (λ rs. path_of rs c.in-Some.number) c.deref-in-Some.ensures.value);
    }

pub returns-then-found : goal.returns-then-found
returns-then-found g c =
    let rows = c.in_ok-found.found.rows.items in
    let none = subst (λ o. MatchOption o (HasNoKind c.deref.result.now (length c.deref.result.now))
    (IsFirstOfKind c.deref.result.now)) c.in-None.is c.first_of_kind.ensures in
    record {
      verdict = no_failure (g.M.Machine.moves c.args.machine.now) rows c.in_ok-found.ensures.kinds (c.in_ok-found.ensures.complete c.if-found.true)
          (subst (λ rs. HasNoKind rs (length rs)) c.deref.ensures.value none);
    }

pub returns : goal.returns
returns g c =
    let rows = c.in_ok-found.found.rows.items in
    let none = subst (λ o. MatchOption o (HasNoKind c.deref.result.now (length c.deref.result.now))
    (IsFirstOfKind c.deref.result.now)) c.in-None.is c.first_of_kind.ensures in
    record {
      verdict = too_much (g.M.Machine.moves c.args.machine.now) rows c.in_ok-found.ensures.kinds c.args.limits.cores c.in_ok-found.ensures.sound
          c.in_ok-found.ensures.distinct
          (c.in_ok-found.ensures.cut refl c.if-found.false) (c.in_ok-found.ensures.full refl c.if-found.false) (subst (λ rs. HasNoKind rs
          (length rs)) c.deref.ensures.value none);
    }
