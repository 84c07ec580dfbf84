use Rattle.std.proofs.Common.{◌≡◌, Err, Result, rules, subst}
use Rattle.script_text.specs.Spelling.{IsReadAs}
use Rattle.script_text.specs.declared.reason.ReadErr.{ReadErr}
use Rattle.script_text.specs.declared.reason.ReadErr.TheVariants as err
use Rattle.script_text.specs.declared.script.Script.{Script}
use Rattle.lwp_serve.proofs.plan.make.script_of.Goals as goal

pub unreachable-requires : goal.unreachable-requires
unreachable-requires c =
    let k = c.requires in
    let bad : c.read_script.result ≡ Err (err.Bad c.in-Err-Bad.field-0-0 c.in-Err-Bad.field-0-1) = search rules in
    subst (λ (r : Result Script ReadErr). IsReadAs k.0 r) bad (c.read_script.ensures.only k.0 k.1)
