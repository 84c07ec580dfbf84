use Rattle.std.proofs.Common.{length, refl}
use Rattle.lwp_types.proofs.text.cells_of.Goals as goal
use Rattle.std.proofs.lemmas.List.{take_at}

pub returns : goal.returns
returns c = rw c.copy_from_slice.ensures.after (take_at c.args.bytes.now _ (length c.args.bytes.now) refl)
