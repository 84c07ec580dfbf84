use Rattle.std.proofs.Common.{[], Some, ap, arith, length, slice_index_or, sym, ◌∙◌}
use Rattle.script_body.specs.Bodies.{bodies_of}
use Rattle.script_body.proofs.ProgramLaws.{length-bodies, length-places, name-at}
use Rattle.script_body.proofs.program.ScriptProgramProgramThreadBody.proc_name.Goals as goal

pub name_place-place-requires : goal.name_place-place-requires
name_place-place-requires c =
    omega (arith, c.requires, ap (λ s. length (bodies_of s)) c.self.view_is, length-bodies c.self.inside.script.now, length-places c.self.inside.script.now)

pub returns-clause-same : goal.returns-clause-same
returns-clause-same c = name-at c.self.inside.script.now c.args.self.now c.args.proc c.self.view_is c.requires
    ∙ ap (λ k. Some (slice_index_or c.self.inside.script.now.names.procs k [])) (sym c.name_place-place.ensures)
    ∙ ap Some (sym c.bytes.ensures.same)
