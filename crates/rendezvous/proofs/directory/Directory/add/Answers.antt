use Rattle.rendezvous.proofs.FiledLemmas.{IsFiled-added, IsSound-added, keys_moved, keys_unmoved, length-moved, others_unread, spare_moved, unread_is}
use Rattle.rendezvous.proofs.directory.Directory.add.Goals as goal
use Rattle.rendezvous.specs.Slots.{is_unread_by}
use Rattle.std.proofs.Common.{ap, arith, not, refl, ◌+◌, ◌∙◌}
use Rattle.lists.specs.ThreadIndex.{place_of}

pub overflow_add-key : goal.overflow_add-key
overflow_add-key c = omega (arith, c.requires.slot_in, c.requires.sound.most, c.box_for-list.ensures.width)

pub returns-then-not-letter-clause-sound : goal.returns-then-not-letter-clause-sound
returns-then-not-letter-clause-sound c =
    let d = c.box_for-list.new.self in
    let sound = c.box_for-list.ensures.sound in
    let its = c.box_for-list.ensures.its in
    rw (c.move_to_back.ensures, c.move_to_back-then-not-letter.ensures)
    (IsSound-added d sound c.args.slot c.box_for-list.result c.args.letter.now its c.put.new.self c.put.ensures.puts c.put.ensures.count _
    c.put.ensures.width c.put.ensures.room
    (spare_moved d sound c.box_for-list.result _ c.args.letter.now.to its d.unread sound.unread_lists sound.spare_unread)
    (length-moved d.unread c.box_for-list.result _ ∙ sound.unread_lists)
    refl)

pub returns-then-not-letter-clause-filed : goal.returns-then-not-letter-clause-filed
returns-then-not-letter-clause-filed c slots last was =
    let d = c.box_for-list.new.self in
    let sound = c.box_for-list.ensures.sound in
    let its = c.box_for-list.ensures.its in
    let filed = c.box_for-list.ensures.filed slots was in
    let new = ap (λ s. place_of s c.args.letter.now.from) c.box_for-list.ensures.senders ∙ c.requires.new in
    rw (c.move_to_back.ensures, c.move_to_back-then-not-letter.ensures)
    (IsFiled-added d sound c.args.slot c.box_for-list.result c.args.letter.now its c.put.new.self c.put.ensures.puts c.put.ensures.count _ slots last new filed
    (keys_moved d sound c.box_for-list.result (d.width + c.args.slot) c.args.letter.now.to its d.unread sound.unread_lists is_unread_by
    slots c.args.letter.now (omega (arith, last)) (others_unread c.args.letter.now) filed.unread
    (unread_is c.args.letter.now ∙ ap not c.if-not-letter.true)))

pub returns-else-not-letter-clause-sound : goal.returns-else-not-letter-clause-sound
returns-else-not-letter-clause-sound c =
    let d = c.box_for-list.new.self in
    let sound = c.box_for-list.ensures.sound in
    let its = c.box_for-list.ensures.its in
    rw c.move_to_back.ensures
    (IsSound-added d sound c.args.slot c.box_for-list.result c.args.letter.now its c.put.new.self c.put.ensures.puts c.put.ensures.count d.unread
    c.put.ensures.width c.put.ensures.room sound.spare_unread sound.unread_lists refl)

pub returns-else-not-letter-clause-filed : goal.returns-else-not-letter-clause-filed
returns-else-not-letter-clause-filed c slots last was =
    let d = c.box_for-list.new.self in
    let sound = c.box_for-list.ensures.sound in
    let its = c.box_for-list.ensures.its in
    let filed = c.box_for-list.ensures.filed slots was in
    let new = ap (λ s. place_of s c.args.letter.now.from) c.box_for-list.ensures.senders ∙ c.requires.new in
    rw c.move_to_back.ensures
    (IsFiled-added d sound c.args.slot c.box_for-list.result c.args.letter.now its c.put.new.self c.put.ensures.puts c.put.ensures.count
    d.unread slots last new filed
    (keys_unmoved d sound c.box_for-list.result (d.width + c.args.slot) c.args.letter.now.to its d.unread sound.unread_lists is_unread_by
    slots c.args.letter.now (omega (arith, last)) (others_unread c.args.letter.now) filed.unread
    (unread_is c.args.letter.now ∙ ap not c.if-not-letter.false)))
