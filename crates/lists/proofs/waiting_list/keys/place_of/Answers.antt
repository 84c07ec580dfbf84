use Rattle.lists.proofs.WaitingLaws.KeyLaws.{stands_there}
use Rattle.lists.proofs.waiting_list.keys.place_of.Goals as goal

pub returns-in_default : goal.returns-in_default
returns-in_default c = stands_there c.args.key c.args.keys.now.items c.place_by_halves.result c.requires.sorted c.place_by_halves.ensures c.requires.there
