use Rattle.resolver_tests.proofs.threads_tests.book_tests.a_refused_copy.Given as goal

abbrev pub ghosts-leaves_one : goal.ghosts-leaves_one
ghosts-leaves_one g a = record { name = a.blank.name; parts = a.blank.parts }
