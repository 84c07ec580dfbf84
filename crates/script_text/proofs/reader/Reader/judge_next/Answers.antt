use Rattle.std.proofs.Common.{◌≡◌, sym, subst, ◌∙◌}
use Rattle.std.specs.Prelude.{OnOk}
use Rattle.script_lines.specs.Line.{posting, saying}
use Rattle.script_text.specs.declared.reader.Reader.{Reader}
use Rattle.script_text.proofs.JudgeLaws.{judged_good}
use Rattle.script_text.proofs.SpokenLaws.{may_post, may_say}
use Rattle.script_text.proofs.reader.Reader.judge_next.Goals as goal

pub returns-then-allows : goal.returns-then-allows
returns-then-allows c =
    let r = c.args.self.now in
    let text = c.in-Some.text.now in
    let stands = may_say r.stage r.declared r.draft.posted text (sym c.allows.ensures ∙ c.if-allows.true) in
    subst (λ (x : Reader). OnOk c.say.result (c.say.new.self ≡ x))
    (sym (judged_good r c.args.line.now (saying text) c.in-Some.ensures.said stands)) c.say.ensures

pub returns-then-may_post : goal.returns-then-may_post
returns-then-may_post c =
    let r = c.args.self.now in
    let client = c.in-Some-posted_at.client in
    let text = c.in-Some-posted_at.text.now in
    let stands = may_post r.stage r.declared r.draft.posted client text (sym c.may_post.ensures ∙ c.if-may_post.true) in
    subst (λ (x : Reader). OnOk c.post.result (c.post.new.self ≡ x))
    (sym (judged_good r c.args.line.now (posting client text) c.in-Some-posted_at.ensures.said stands)) c.post.ensures
