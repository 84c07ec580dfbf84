use Rattle.lwp_explore.proofs.EndsLaws.{on_ok}
use Rattle.lwp_explore.proofs.ends.add_cycles.Goals as goal
use Rattle.pod_events.specs.Events.{EventState}
use Rattle.state_text.specs.Text.{thread_words}
use Rattle.state_text.specs.Waiting.{cycles}
use Rattle.std.proofs.Common.{List, ap, ℕ, ◌++◌, ◌∙◌}
use Rattle.std.specs.List.{flat_map}
use Rattle.std.specs.Prelude.{codes}

pub returns : goal.returns
returns c = on_ok _ _ c.add_each.result c.add_each.ensures (λ put. put
    ∙ ap (λ (found : List (List ℕ)). c.args.out.now.items ++ flat_map (λ threads. codes ", cycle" ++ thread_words threads) found)
    (c.as_slice.ensures ∙ c.in_ok-cycles.ensures ∙ ap (λ (es : EventState). cycles es.state) c.in_ok-snap.ensures.pod))
