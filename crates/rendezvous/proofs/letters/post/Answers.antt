use Rattle.lwp_types.specs.Messages.{letters_of}
use Rattle.rendezvous.proofs.FiledLemmas.{unfiled}
use Rattle.rendezvous.proofs.SlotLemmas.{living-push}
use Rattle.rendezvous.proofs.TiedLemmas.{tied_posted}
use Rattle.rendezvous.proofs.letters.post.Goals as goal
use Rattle.std.proofs.Common.{Some, [], ap, arith, length, ◌++◌, ◌∙◌, ◌∷◌}
use Rattle.lists.specs.Living.{living}

pub add-requires-clause-new : goal.add-requires-clause-new
add-requires-clause-new c =
    unfiled c.make_room.new.slots.items c.make_room.new.directory c.args.letter.from c.make_room.ensures.tied.filed
    (ap (λ ls. letters_of ls c.args.letter.from) c.make_room.ensures.letters ∙ c.requires.new)

pub add-requires-clause-few : goal.add-requires-clause-few
add-requires-clause-few c =
    omega (arith, c.make_room.ensures.tied.filed.counted, ap length c.make_room.ensures.letters, c.requires.few, c.make_room.ensures.width)

pub returns-clause-tied : goal.returns-clause-tied
returns-clause-tied c =
    rw c.push.ensures.items
    (tied_posted c.make_room.new.slots.items c.make_room.new.directory _ c.make_room.ensures.tied c.args.letter
    (ap (λ ls. letters_of ls c.args.letter.from) c.make_room.ensures.letters ∙ c.requires.new)
    c.make_room.ensures.slot c.add.new.self _ (c.add.ensures.filed c.make_room.new.slots.items (omega arith) c.make_room.ensures.tied.filed)
    c.add.ensures.sound c.add.ensures.width c.push.ensures.capacity)

pub returns-clause-letters : goal.returns-clause-letters
returns-clause-letters c =
    ap living c.push.ensures.items ∙ living-push c.make_room.new.slots.items (Some c.args.letter)
    ∙ ap (λ ls. ls ++ c.args.letter ∷ []) c.make_room.ensures.letters
