use Rattle.std.proofs.Common.{inl, inr, refl}
use Rattle.lwp_state.proofs.replaying.show_recorded.Goals as goal

pub returns-in-Ok : goal.returns-in-Ok
returns-in-Ok g c = inr (c.in-Ok.told, c.in-Ok.ensures, c.write_told.ensures)

pub returns-in-Err : goal.returns-in-Err
returns-in-Err g c = inl (c.unread.ensures, (refl, refl))
