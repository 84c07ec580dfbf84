use Rattle.rendezvous.proofs.FiledLemmas.{IsFiled-next_none, few_filed, next_some, taken_length, unfiled_next}
use Rattle.rendezvous.proofs.SlotLemmas.{here_at, some_at}
use Rattle.rendezvous.proofs.directory.Directory.file.Goals as goal
use Rattle.rendezvous.proofs.directory.Directory.file.Goals.{in-Some, in_default}
use Rattle.std.proofs.Common.{arith, length, take, ◌<◌, ◌∙◌}

pub add-requires-clause-new : goal.add-requires-clause-new
add-requires-clause-new c =
    let within : c.loop-slot.slot < length c.args.slots.now.items = omega arith in
    unfiled_next c.args.slots.now.items c.requires.once c.loop-slot.self c.loop-slot.slot within c.loop-slot.invariant.filed c.in-Some.letter
    (some_at c.args.slots.now.items c.loop-slot.slot _ c.in-Some.letter within c.index.ensures c.in-Some.is)

pub add-requires-clause-few : goal.add-requires-clause-few
add-requires-clause-few c =
    let within : c.loop-slot.slot < length c.args.slots.now.items = omega arith in
    omega (
      arith,
      few_filed c.args.slots.now.items c.requires.once c.loop-slot.self c.loop-slot.slot within c.loop-slot.invariant.filed,
      within,
      c.requires.fits,
      c.loop-slot.invariant.width,
    )

pub loop-slot-preserved : goal.loop-slot-preserved
loop-slot-preserved c =
    let within : c.loop-slot.slot < length c.args.slots.now.items = omega arith in
    let was = c.loop-slot.invariant in
    let slots = c.args.slots.now.items in
    let i = c.loop-slot.slot in
    elim c.match-index.branch [
      | in-Some w ↦
          let is = some_at slots i _ w.in-Some.letter within c.index.ensures w.in-Some.is in
          let length_is = taken_length slots c.requires.once c.loop-slot.self i within was.filed in
          rw w.self-is
          (record {
            sound = w.add.ensures.sound;
            filed = next_some slots c.requires.once c.loop-slot.self i within was.filed w.in-Some.letter is _
                (w.add.ensures.filed (take i slots) length_is was.filed);
            used = omega (arith, w.add.ensures.used, was.used);
            width = w.add.ensures.width ∙ was.width;
          })
      | in_default w ↦
          rw w.self-is
          (record {
            sound = was.sound;
            filed = IsFiled-next_none slots c.requires.once c.loop-slot.self i within was.filed (here_at slots i _ within c.index.ensures ∙ w.in_default.is);
            used = omega (arith, was.used);
            width = was.width;
          })
    ]
