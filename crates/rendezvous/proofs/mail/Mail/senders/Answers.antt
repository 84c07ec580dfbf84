use Rattle.rendezvous.proofs.mail.Mail.senders.Goals as goal

pub returns-clause-one_each : goal.returns-clause-one_each
returns-clause-one_each c = rw (← c.self.view_is) (record { at_most_one = c.self.invariant.tied.once })
