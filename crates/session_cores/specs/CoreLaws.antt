-- Two cores with the same bytes are one.
use Rattle.keys.specs.NumberLaws.{alone_is_code, also, counted_is_code, list_is_code, pair_is_code, same_value}
use Rattle.keys.specs.Numbers.{Always, IsCode, TellsApart, alone, counted, list_numbers, pair_numbers}
use Rattle.keys.specs.SpellingLaws.{spelt_is_code}
use Rattle.lwp_types.specs.Names.{Names}
use Rattle.lwp_types.specs.declared.call.Answer.{Answer}
use Rattle.session_cores.specs.Core.{Core, IsCoreOf, Mind}
use Rattle.session_cores.specs.CoreCode.{core_key, core_numbers, mind_numbers}
use Rattle.session_cores.specs.StateLaws.{pod_is_code}
use Rattle.session_cores.specs.States.{pod_numbers}
use Rattle.session_cores.specs.WordLaws.{answer_is_code}
use Rattle.session_cores.specs.Words.{answer_numbers}
use Rattle.std.proofs.Common.{List, sym, ℕ, ◌∙◌, ◌≡◌}
use Rattle.std.specs.List.{AllByRecursion}

-- what names mean, but for who is polled
abbrev meanings : Names → (List ℕ × List ℕ) × List ℕ
meanings names = ((names.threads, names.monitors), names.conditions)

meanings_is_code : TellsApart (pair_numbers (pair_numbers counted counted) counted)
meanings_is_code = also (also counted_is_code counted_is_code) counted_is_code

module _ {B : Type 0} (is_of : B → Type 0) (numbers : B → List ℕ) (is_code : IsCode is_of numbers) where
  -- what a thread is made of
  abbrev mind_parts : Mind B → (ℕ × B) × Answer
  mind_parts mind = ((mind.number, mind.body), mind.answer)

  parts_are_code : IsCode (λ p. (Always p.0.0 × is_of p.0.1) × Always p.1) (pair_numbers (pair_numbers alone numbers) answer_numbers)
  parts_are_code =
      pair_is_code (λ p. Always p.0 × is_of p.1) Always (pair_numbers alone numbers) answer_numbers
      (pair_is_code Always is_of alone numbers alone_is_code.apart is_code) answer_is_code.apart

  pub mind_is_code : IsCode (λ mind. is_of mind.body) (mind_numbers numbers)
  mind_is_code a b more others ha hb e =
      let same = parts_are_code (mind_parts a) (mind_parts b) more others ((tt, ha), tt) ((tt, hb), tt) e in
      ((λ i. record { number = (same.0 i).0.0; body = (same.0 i).0.1; answer = (same.0 i).1 }), same.1)

  minds_are_code : IsCode (AllByRecursion (λ mind. is_of mind.body)) (list_numbers (mind_numbers numbers))
  minds_are_code = list_is_code (λ mind. is_of mind.body) (mind_numbers numbers) mind_is_code

pub core_is_code : {Home B : Type 0} (is_of : Home → B → Type 0) (numbers : B → List ℕ) (home : Home) → IsCode (is_of home) numbers
    → IsCode (IsCoreOf is_of home) (core_numbers numbers)
core_is_code {Home} {B} is_of numbers home is_code a b more others ha hb e =
    let first = pair_is_code Always (AllByRecursion (λ mind. is_of home mind.body)) pod_numbers (list_numbers (mind_numbers numbers))
    pod_is_code.apart (minds_are_code (is_of home) numbers is_code) in
    let third = pair_is_code (λ p. Always p.0 × AllByRecursion (λ mind. is_of home mind.body) p.1) Always
    (pair_numbers pod_numbers (list_numbers (mind_numbers numbers))) (pair_numbers (pair_numbers counted counted) counted) first meanings_is_code.apart in
    let whole = pair_is_code _ Always
    (pair_numbers (pair_numbers pod_numbers (list_numbers (mind_numbers numbers))) (pair_numbers (pair_numbers counted counted) counted)) counted
    third counted_is_code.apart in
    let same = whole (((a.pod, a.minds), meanings a.names), a.taken) (((b.pod, b.minds), meanings b.names), b.taken) more others
    (((tt, ha.bodies), tt), tt) (((tt, hb.bodies), tt), tt) e in
    let nobody : a.names.me ≡ b.names.me = ha.nobody ∙ sym hb.nobody in (
      (λ i. record {
        pod = (same.0 i).0.0.0;
        minds = (same.0 i).0.0.1;
        names = record { me = nobody i; threads = (same.0 i).0.1.0.0; monitors = (same.0 i).0.1.0.1; conditions = (same.0 i).0.1.1 };
        taken = (same.0 i).1;
      }),
      same.1,
    )

-- the bytes of cores have the law, where the numbers of bodies have it: those of no core begin those of another
pub core_keys_are_code : {Home B : Type 0} (is_of : Home → B → Type 0) (numbers : B → List ℕ) (home : Home) → IsCode (is_of home) numbers
    → IsCode (IsCoreOf is_of home) (core_key numbers)
core_keys_are_code is_of numbers home is_code =
    spelt_is_code (IsCoreOf is_of home) (core_numbers numbers) (core_is_code is_of numbers home is_code)

-- so two cores with the same bytes are one
pub cores_differ : {Home B : Type 0} (is_of : Home → B → Type 0) (numbers : B → List ℕ) → ((home : Home) → IsCode (is_of home) numbers)
    → (home : Home) (a b : Core B) → IsCoreOf is_of home a → IsCoreOf is_of home b → core_key numbers a ≡ core_key numbers b → a ≡ b
cores_differ is_of numbers told_apart home a b ha hb e =
    same_value (IsCoreOf is_of home) (core_key numbers) (core_keys_are_code is_of numbers home (told_apart home)) a b ha hb e
