use Rattle.script_run.specs.Live.{PostsSay}
use Rattle.script_session.specs.declared.session.Session.{Session}
use Rattle.script_session.specs.declared.session.SessionEnd.{SessionEnd}
use Rattle.std.proofs.Common.{ap, length, subst, sym, ◌∙◌}
use Rattle.script_run.proofs.LiveLaws.{posts-of, texts-few, texts-many}
use Rattle.script_text.specs.Script.{lines_posted}
use Rattle.script_run.proofs.live.play_while_posting.Goals as goal

pub start-requires-clause-texts : goal.start-requires-clause-texts
start-requires-clause-texts g c κs within = texts-many c.args.script.now.clients (lines_posted c.args.script.now) c.args.texts.now c.requires.texts
    ∙ ap length (sym c.as_slice-clients.ensures)

pub start-requires-clause-few : goal.start-requires-clause-few
start-requires-clause-few g c κs within = texts-few c.args.script.now c.args.texts.now c.requires.texts c.requires.posted

pub returns-in-Ok-run_out-clause-posted : goal.returns-in-Ok-run_out-clause-posted
returns-in-Ok-run_out-clause-posted g c =
    let whole = c.in-Ok-run_out.field-0 in
    subst (λ (s : Session). PostsSay c.args.script.now whole.posted s.end) (sym c.session_of.ensures)
    (subst (λ (e : SessionEnd). PostsSay c.args.script.now whole.posted e) (sym c.end_of.ensures)
    (posts-of c.args.script.now whole.posted whole.halt c.in-Ok-run_out.ensures.posted))
