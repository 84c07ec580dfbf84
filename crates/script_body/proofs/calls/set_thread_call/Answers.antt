use Rattle.std.proofs.Common.{ap, ◌≡◌, ◌∙◌, refl}
use Rattle.script_text.specs.declared.script.Stmt.TheVariants as stmt
use Rattle.script_body.specs.Calls.{lock_call, thread_call}
use Rattle.script_body.proofs.calls.set_thread_call.Goals as goal

pub returns-in_default : goal.returns-in_default
returns-in_default c =
    let other = c.in_default in
    elim c.args.stmt.now as (λ s. c.args.stmt.now ≡ s → c.set_lock_call.new.call ≡ thread_call c.args.texts.now c.args.sender c.args.env.now s) [
      | stmt.Destroy x ↦ λ e. absurd (other.not-Destroy x e)
      | stmt.Ping x ↦ λ e. absurd (other.not-Ping x e)
      | stmt.Yield x ↦ λ e. absurd (other.not-Yield x e)
      | stmt.Suspend x ↦ λ e. absurd (other.not-Suspend x e)
      | stmt.Resume x ↦ λ e. absurd (other.not-Resume x e)
      | stmt.Join x ↦ λ e. absurd (other.not-Join x e)
      | stmt.SetPri x y ↦ λ e. absurd (other.not-SetPri x y e)
      | stmt.Send x y z ↦ λ e. absurd (other.not-Send x y z e)
      | stmt.Recv x y ↦ λ e. absurd (other.not-Recv x y e)
      | stmt.Reply x y ↦ λ e. absurd (other.not-Reply x y e)
      | stmt.OnExit x ↦ λ e. absurd (other.not-OnExit x e)
      | _ ↦ λ e. c.set_lock_call.ensures ∙ ap (lock_call c.args.texts.now c.args.sender c.args.env.now) e
    ] refl
