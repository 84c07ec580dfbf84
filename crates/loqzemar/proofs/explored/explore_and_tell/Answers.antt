use Rattle.c_sessions.specs.declared.outcome.SessionRecord.{SessionRecord}
use Rattle.loqzemar.proofs.Explores.{explore_told}
use Rattle.loqzemar.proofs.explored.explore_and_tell.Goals as goal
use Rattle.loqzemar.specs.Explored.{TellsExplore}
use Rattle.script_text.specs.Spelling.{verdict}
use Rattle.std.proofs.Common.{refl, subst, sym}

pub returns-in-Ok-clause-told : goal.returns-in-Ok-clause-told
returns-in-Ok-clause-told c = λ is.
    subst (λ (r : SessionRecord).
    TellsExplore (verdict c.args.script.now) c.args.asked c.args.line.now c.args.out.now c.tell.new.out c.tell.new.len r c.tell.result)
    (sym c.tell.ensures.session)
    (explore_told (verdict c.args.script.now) c.args.asked c.args.line.now _ c.args.out.now c.tell.new.out c.tell.new.len c.in-Ok.told c.tell.result refl
    c.in-Ok.ensures.told c.in-Ok.ensures.reason c.tell.ensures.text c.tell.ensures.len c.tell.ensures.status)
