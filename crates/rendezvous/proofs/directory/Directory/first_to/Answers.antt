use Rattle.lwp_types.specs.Messages.{is_to}
use Rattle.rendezvous.proofs.FiledLemmas.{first_key, first_no_key, first_no_list}
use Rattle.rendezvous.proofs.directory.Directory.first_to.Goals as goal
use Rattle.std.proofs.Common.{arith, sym}

pub returns-in_err-list : goal.returns-in_err-list
returns-in_err-list c slots filed =
    rw c.from_residual.ensures (first_no_list c.args.self.now (is_to c.args.to) slots c.args.self.now.held _ (filed.held c.args.to) (sym c.in_err-list.ensures))

pub returns-in_err-key : goal.returns-in_err-key
returns-in_err-key c slots filed = rw c.from_residual-in_err-key.ensures (first_no_key c.args.self.now (is_to c.args.to) slots
    c.args.self.now.held _ (filed.held c.args.to) c.in_ok-list.list (sym c.in_ok-list.ensures) (sym c.in_err-key.ensures.value))

pub returns : goal.returns
returns c slots filed = first_key c.args.self.now (is_to c.args.to) slots c.args.self.now.held _ (filed.held c.args.to) c.in_ok-list.list
    (sym c.in_ok-list.ensures) c.in_ok-key.key (sym c.in_ok-key.ensures.value) (omega (arith, c.in_ok-key.ensures.is_key, c.requires.held_lists))
