use Rattle.resolver_tests.proofs.threads_tests.workers_tests.workers_meet_before_each_query.Given as goal

abbrev pub ghosts-met : goal.ghosts-met
ghosts-met g a = record { name = a.blank.name; parts = a.blank.parts }
