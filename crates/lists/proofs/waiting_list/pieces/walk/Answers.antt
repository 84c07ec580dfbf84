use Rattle.lists.proofs.WaitingLaws.KeyLaws.{behind_both}
use Rattle.lists.proofs.waiting_list.pieces.walk.Goals as goal

pub go_back-requires-clause-behind : goal.go_back-requires-clause-behind
go_back-requires-clause-behind c = behind_both c.args.keys.now c.args.from c.args.key c.requires.sorted (c.is_ahead.ensures.goes c.if-is_ahead.false)
