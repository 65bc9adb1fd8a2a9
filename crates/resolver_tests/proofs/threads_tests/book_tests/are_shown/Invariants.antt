use Rattle.resolver_tests.proofs.threads_tests.book_tests.are_shown.Given as goal

abbrev pub ghosts-four_steps : goal.ghosts-four_steps
ghosts-four_steps g a = record { name = a.blank.name; parts = a.blank.parts }
