use Rattle.death_cleanup.proofs.Notes.{covers-none, covers-wait, noted-block, noted-more}
use Rattle.death_cleanup.proofs.named.note.Goals as goal
use Rattle.death_cleanup.specs.Named.{block_name}
use Rattle.std.proofs.Common.{arith, sym, ◌∙◌}

pub returns-in_default : goal.returns-in_default
returns-in_default c = noted-block c.args.named.now c.args.tid c.args.why.now
    (covers-none c.args.named.now.waits c.args.tid (block_name c.args.why.now) (sym c.wait_of.ensures ∙ c.in_default.is)) c.args.ids.now.live c.requires

pub returns : goal.returns
returns c = noted-block c.add.new.self c.args.tid c.args.why.now
    (covers-wait c.add.new.self.waits c.args.tid (block_name c.args.why.now) c.in-Some.wait (sym c.wait_of.ensures ∙ c.in-Some.is) c.add.ensures.noted)
    c.args.ids.now.live (record {
      noted = noted-more c.make_room.new.named.waits c.add.new.self.waits c.args.ids.now.live c.add.ensures.kept c.make_room.ensures.noted.noted;
      room = omega (arith, c.make_room.ensures.noted.room, c.add.ensures.places);
    })
