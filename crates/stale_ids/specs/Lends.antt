-- The registry once a lent value comes back.
use Rattle.std.specs.Prelude.{ℕ, Option}
use Rattle.std.specs.Borrow.{Lends, LendsIf, Fml, RattleType, MutBor}
use Rattle.stale_ids.specs.Register.{Register, after_write}
use Rattle.stale_ids.specs.contracts.registry.Registry.{the_row}

module _ (T : RattleType) (r : MutBor (Register T.Denot)) (n : ℕ) where
  -- n's value is lent: n keeps what was written last
  abbrev pub lends_living : MutBor T.Denot → Fml
  lends_living b = Lends (the_row T) T r b (after_write r.now n)

  -- n's value is lent if n lives; else nothing changes
  abbrev pub lends_found : Option (MutBor T.Denot) → Fml
  lends_found b = LendsIf (the_row T) T r b (after_write r.now n) r.now
