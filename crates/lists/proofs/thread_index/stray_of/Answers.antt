use Rattle.lists.proofs.IndexLemmas.{searched}
use Rattle.lists.proofs.thread_index.stray_of.Goals as goal
use Rattle.std.proofs.Common.{rules}
use Rattle.std.proofs.lemmas.List.Sorted.{answers_always}

-- the search compares by the number of each entry
pub returns : goal.returns
returns c =
    let facts = c.binary_search_by_key.ensures in
    let by_key = facts.position (λ e. e.number) (answers_always _ _ _ (λ f a r g called. search rules)) in
    rw c.ok.ensures.value (searched _ c.requires c.args.number _ facts.bound by_key)
