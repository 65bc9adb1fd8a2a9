use Rattle.resolver_tests.proofs.threads_tests.pool_tests.true_lists_close.Given as goal

abbrev pub ghosts-closing : goal.ghosts-closing
ghosts-closing g a = record { name = a.blank.name; parts = a.blank.parts }
