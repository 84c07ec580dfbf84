-- From a verdict to what is told of it.
use Rattle.c_sessions.specs.Records.{reason_of}
use Rattle.lwp_serve.specs.Replaying.Texts.{end_of}
use Rattle.replay.specs.declared.verdict.Verdict.{Verdict}
use Rattle.replay.specs.declared.verdict.Verdict.TheVariants as verdict
use Rattle.std.proofs.Common.{refl, true, ◌≡◌}
use Rattle.std.specs.Prelude.{◌==◌}

-- a verdict is no refusal
pub verdict_unrefused : (v : Verdict) → (reason_of (end_of v) == 0) ≡ true
verdict_unrefused (verdict.Same lines) = refl
verdict_unrefused (verdict.Differs line want got ended) = refl
