use Rattle.conditions.proofs.Machine.{all_are_woken, first_is_woken, none_is_woken}
use Rattle.conditions.proofs.laws.every_broadcast.Goals as goal

pub returns-clause-first : goal.returns-clause-first
returns-clause-first c = first_is_woken

pub returns-clause-none : goal.returns-clause-none
returns-clause-none c = none_is_woken

pub returns-clause-all : goal.returns-clause-all
returns-clause-all c = all_are_woken
