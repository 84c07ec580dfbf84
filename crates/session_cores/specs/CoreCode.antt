-- A core as numbers, and its bytes.
use Rattle.keys.specs.Numbers.{counted, list_numbers}
use Rattle.keys.specs.Spelling.{spelt}
use Rattle.lwp_types.specs.Names.{Names}
use Rattle.session_cores.specs.Core.{Core, Mind}
use Rattle.session_cores.specs.States.{pod_numbers}
use Rattle.session_cores.specs.Words.{answer_numbers}
use Rattle.std.specs.Prelude.{List, ℕ, ◌++◌, ◌∷◌}

-- what the names mean; who is polled is left out
abbrev pub names_numbers : Names → List ℕ
names_numbers names = counted names.threads ++ counted names.monitors ++ counted names.conditions

-- a live thread, where its body has these numbers
abbrev pub mind_numbers : {B : Type 0} → (B → List ℕ) → Mind B → List ℕ
mind_numbers body_numbers mind = mind.number ∷ body_numbers mind.body ++ answer_numbers mind.answer

-- a core, where bodies have these numbers
abbrev pub core_numbers : {B : Type 0} → (B → List ℕ) → Core B → List ℕ
core_numbers body_numbers core = pod_numbers core.pod ++ list_numbers (mind_numbers body_numbers) core.minds ++ names_numbers core.names
    ++ counted core.taken

-- its bytes
abbrev pub core_key : {B : Type 0} → (B → List ℕ) → Core B → List ℕ
core_key body_numbers core = spelt (core_numbers body_numbers core)
