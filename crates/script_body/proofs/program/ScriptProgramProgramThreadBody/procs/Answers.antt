use Rattle.std.proofs.Common.{ap, arith, length}
use Rattle.script_body.specs.Bodies.{bodies_of}
use Rattle.script_body.proofs.ProgramLaws.{length-bodies}
use Rattle.script_body.proofs.program.ScriptProgramProgramThreadBody.procs.Goals as goal

pub returns : goal.returns
returns c = omega (arith, c.len.ensures, c.len-2.ensures, ap (λ s. length (bodies_of s)) c.self.view_is, length-bodies c.self.inside.script.now)
