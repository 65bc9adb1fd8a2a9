use Rattle.resolver_tests.proofs.threads_tests.workers_tests.a_short_book_forgets.Given as goal

abbrev pub ghosts-run_of_one : goal.ghosts-run_of_one
ghosts-run_of_one g a = record { name = a.blank.name; parts = a.blank.parts }
