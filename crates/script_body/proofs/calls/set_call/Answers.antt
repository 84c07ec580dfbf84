use Rattle.std.proofs.Common.{ap, ◌≡◌, ◌∙◌, refl}
use Rattle.script_text.specs.declared.script.Stmt.TheVariants as stmt
use Rattle.script_body.specs.Calls.{call_of, thread_call}
use Rattle.script_body.proofs.calls.set_call.Goals as goal

pub returns-in_default : goal.returns-in_default
returns-in_default c =
    let other = c.in_default in
    elim c.args.stmt.now as (λ s. c.args.stmt.now ≡ s → c.set_thread_call.new.call ≡ call_of c.args.script.now c.args.sender c.args.env.now s) [
      | stmt.Create x y z w ↦ λ e. absurd (other.not-Create x y z w e)
      | stmt.CallProc x ↦ λ e. absurd (other.not-CallProc x e)
      | _ ↦ λ e. c.set_thread_call.ensures ∙ ap (thread_call c.args.script.now.texts c.args.sender c.args.env.now) e
    ] refl
