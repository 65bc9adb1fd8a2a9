use Rattle.resolver_tests.proofs.threads_tests.pool_tests.a_false_list_differs.Given as goal

abbrev pub ghosts-closing : goal.ghosts-closing
ghosts-closing g a = record { name = a.blank.name; parts = a.blank.parts }
