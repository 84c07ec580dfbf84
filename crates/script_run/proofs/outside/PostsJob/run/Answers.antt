use Rattle.script_run.proofs.outside.PostsJob.run.Goals as goal
use Rattle.script_run.specs.Ends.{IsEnd, posting_of}
use Rattle.std.proofs.Common.{List, subst, ℕ}

pub returns : goal.returns
returns g c =
    let p = posting_of c.args.self.poster in
    subst (λ (texts : List (List ℕ)). IsEnd p.place p.client texts c.post_any.result) c.as_slice.ensures.value c.post_any.ensures.end
