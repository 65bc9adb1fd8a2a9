use Rattle.resolver_tests.proofs.threads_tests.pool_tests.each_growth_refused_in_turn.Given as goal

abbrev pub ghosts-closing : goal.ghosts-closing
ghosts-closing g a = record { name = a.blank.name; parts = a.blank.parts }
