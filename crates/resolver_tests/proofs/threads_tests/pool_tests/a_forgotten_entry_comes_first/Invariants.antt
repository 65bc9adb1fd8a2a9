use Rattle.resolver_tests.proofs.threads_tests.pool_tests.a_forgotten_entry_comes_first.Given as goal

abbrev pub ghosts-closing : goal.ghosts-closing
ghosts-closing g a = record { name = a.blank.name; parts = a.blank.parts }
