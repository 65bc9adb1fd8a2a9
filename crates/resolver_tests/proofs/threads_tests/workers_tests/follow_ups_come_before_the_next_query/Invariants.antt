use Rattle.resolver_tests.proofs.threads_tests.workers_tests.follow_ups_come_before_the_next_query.Given as goal

abbrev pub ghosts-run_of_one : goal.ghosts-run_of_one
ghosts-run_of_one g a = record { name = a.blank.name; parts = a.blank.parts }
