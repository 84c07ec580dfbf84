use Rattle.lists.specs.ChainLists.{empty_lists, with_limit}
use Rattle.rendezvous.proofs.FiledLemmas.{IsSound-bare, items_empty, length_empty}
use Rattle.rendezvous.proofs.directory.Directory.with_width.Goals as goal
use Rattle.std.proofs.Common.{ap, arith, max, refl, ◌+◌, ◌∙◌, ◌≡◌}

pub returns-clause-sound : goal.returns-clause-sound
returns-clause-sound c =
    let w = c.args.width in
    let held : c.reserve.new.self ≡ with_limit (empty_lists w) (w + w) = c.in_ok-reserve.ensures.ok ∙ ap (λ s. with_limit s (w + w)) c.in_ok-held.ensures in
    let unread : c.reserve-2.new.self
    ≡ with_limit (empty_lists w) (w + w) = c.in_ok-reserve-2.ensures.ok ∙ ap (λ s. with_limit s (w + w)) c.in_ok-unread.ensures in
    let limit : max w (w + w) ≡ w + w = omega arith in
    rw (held, unread)
    (IsSound-bare _ refl c.requires c.in_ok-with_cells-2.ensures.empty (items_empty w) (items_empty w)
    c.in_ok-with_cells.ensures.width c.in_ok-with_cells.ensures.room c.in_ok-with_cells-2.ensures.width c.in_ok-with_cells-2.ensures.room
    (length_empty w) (length_empty w) limit limit)
