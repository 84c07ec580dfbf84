use Rattle.std.proofs.Common.{Bor, List, subst, ℕ, ◌++◌, ◌≡◌, ◌≢◌}
use Rattle.std.proofs.lemmas.Bool.Decides.{Decides-eqb}
use Rattle.std.proofs.lemmas.Slice.Eq.{strip_prefix_is}
use Rattle.std.specs.Option.{MatchOption}
use Rattle.lwp_types.proofs.Lent.{other_lead, rest_decides}
use Rattle.lwp_types.proofs.text.Text.equals.Goals as goal

pub returns-in-Some : goal.returns-in-Some
returns-in-Some c =
    let lead = c.parts.result.0.now in
    let bytes = c.args.bytes.now in
    let begins = subst (λ r. MatchOption r ((rest : List ℕ) → bytes ≢ lead ++ rest) (λ (x : Bor (List ℕ)). bytes ≡ lead ++ x.now)) c.in-Some.is
    (strip_prefix_is Decides-eqb bytes lead c.strip_prefix.result c.strip_prefix.ensures.cases) in
    rest_decides lead c.parts.result.1.now c.in-Some.tail.now c.args.self.now bytes c.eq.result c.parts.ensures.same begins c.eq.ensures

pub returns-in-None : goal.returns-in-None
returns-in-None c =
    let lead = c.parts.result.0.now in
    let bytes = c.args.bytes.now in
    let none = subst (λ r. MatchOption r ((rest : List ℕ) → bytes ≢ lead ++ rest) (λ (x : Bor (List ℕ)). bytes ≡ lead ++ x.now)) c.in-None.is
    (strip_prefix_is Decides-eqb bytes lead c.strip_prefix.result c.strip_prefix.ensures.cases) in
    other_lead lead c.parts.result.1.now c.args.self.now bytes c.parts.ensures.same none
