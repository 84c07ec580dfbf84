use Rattle.std.proofs.Common.{ap, ◌≡◌, ◌∙◌, refl}
use Rattle.script_text.specs.declared.script.Stmt.TheVariants as stmt
use Rattle.script_body.specs.Calls.{lock_call, plain_call}
use Rattle.script_body.proofs.calls.set_lock_call.Goals as goal

pub returns-in_default : goal.returns-in_default
returns-in_default c =
    let other = c.in_default in
    elim c.args.stmt.now as (λ s. c.args.stmt.now ≡ s → c.set_plain_call.new.call ≡ lock_call c.args.texts.now c.args.sender c.args.env.now s) [
      | stmt.CvCreate x y ↦ λ e. absurd (other.not-CvCreate x y e)
      | stmt.MonDestroy x ↦ λ e. absurd (other.not-MonDestroy x e)
      | stmt.Enter x ↦ λ e. absurd (other.not-Enter x e)
      | stmt.CondEnter x ↦ λ e. absurd (other.not-CondEnter x e)
      | stmt.MonExit x ↦ λ e. absurd (other.not-MonExit x e)
      | stmt.MonBreak x ↦ λ e. absurd (other.not-MonBreak x e)
      | stmt.MonWaiters x ↦ λ e. absurd (other.not-MonWaiters x e)
      | stmt.CvDestroy x ↦ λ e. absurd (other.not-CvDestroy x e)
      | stmt.Wait x ↦ λ e. absurd (other.not-Wait x e)
      | stmt.Notify x ↦ λ e. absurd (other.not-Notify x e)
      | stmt.Broadcast x ↦ λ e. absurd (other.not-Broadcast x e)
      | stmt.CvSend x y ↦ λ e. absurd (other.not-CvSend x y e)
      | stmt.CvWaiters x ↦ λ e. absurd (other.not-CvWaiters x e)
      | _ ↦ λ e. c.set_plain_call.ensures ∙ ap (plain_call c.args.texts.now) e
    ] refl
