use Rattle.resolver_tests.proofs.threads_tests.pool_tests.each_copy_refused.Given as goal

abbrev pub ghosts-after_one : goal.ghosts-after_one
ghosts-after_one g a = record { name = a.blank.name; parts = a.blank.parts }
