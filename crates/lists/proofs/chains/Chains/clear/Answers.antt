use Rattle.lists.proofs.ChainSound.{IsSound-reset, lists_reset}
use Rattle.lists.proofs.chains.Chains.clear.Goals as goal
use Rattle.std.proofs.Common.{arith}

pub invariant_of-self : goal.invariant_of-self
invariant_of-self c = IsSound-reset c.reset.new.links.items c.self.inside.heads (omega (arith, c.self.invariant.few, c.reset.ensures.len)) c.reset.ensures.alone

pub returns : goal.returns
returns c =
    rw (← c.self.view_is)
    (lists_reset c.reset.new.links.items c.self.inside.heads (omega (arith, c.self.invariant.few, c.reset.ensures.len))
    c.reset.ensures.alone c.self.inside.links.items c.reset.ensures.len)
