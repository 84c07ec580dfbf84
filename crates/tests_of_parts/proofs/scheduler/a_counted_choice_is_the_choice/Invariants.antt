use Rattle.tests_of_parts.proofs.scheduler.a_counted_choice_is_the_choice.Given as goal

abbrev pub ghosts-leads_in_turn : goal.ghosts-leads_in_turn
ghosts-leads_in_turn g a = record { name = a.blank.name; parts = a.blank.parts }

abbrev pub ghosts-finds_fronts : goal.ghosts-finds_fronts
ghosts-finds_fronts g a = record { name = a.blank.name; parts = a.blank.parts }
