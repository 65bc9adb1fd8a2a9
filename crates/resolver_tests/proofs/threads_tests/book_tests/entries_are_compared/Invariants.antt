use Rattle.resolver_tests.proofs.threads_tests.book_tests.entries_are_compared.Given as goal

abbrev pub ghosts-compared : goal.ghosts-compared
ghosts-compared g a = record { name = a.blank.name; parts = a.blank.parts }
