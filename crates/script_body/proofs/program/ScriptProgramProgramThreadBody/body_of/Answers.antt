use Rattle.std.proofs.Common.{ap, arith, length}
use Rattle.script_body.specs.Bodies.{bodies_of}
use Rattle.script_body.proofs.ProgramLaws.{built-at, length-bodies, scripted-at}
use Rattle.script_body.proofs.program.ScriptProgramProgramThreadBody.body_of.Goals as goal

pub returns-then-number-scripted : goal.returns-then-number-scripted
returns-then-number-scripted c =
    scripted-at c.self.inside.script.now c.args.self.now c.args.proc c.in_ok-body.body c.self.view_is
    (omega (arith, c.if-number-scripted.true, c.len-scripted.ensures)) c.in_ok-body.ensures.ok

pub bounds-as_slice-number : goal.bounds-as_slice-number
bounds-as_slice-number c =
    omega (
      arith,
      c.if-number-scripted.false,
      c.len-scripted.ensures,
      ap length c.as_slice.ensures,
      c.requires,
      ap (λ s. length (bodies_of s)) c.self.view_is,
      length-bodies c.self.inside.script.now,
    )

pub returns : goal.returns
returns c =
    built-at c.self.inside.script.now c.args.self.now c.args.proc c.len-scripted.result _ c.as_slice.result.now c.native_body.result
    c.self.view_is c.len-scripted.ensures c.as_slice.ensures c.if-number-scripted.false c.requires c.native_body.ensures
