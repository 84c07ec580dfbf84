use Rattle.tests_of_parts.proofs.priorities.the_first_of_the_greatest_priority.Given as goal

abbrev pub ghosts-is_done : goal.ghosts-is_done
ghosts-is_done g a = record { name = a.blank.name; parts = a.blank.parts }
