use Rattle.resolver_tests.proofs.threads_tests.book_tests.a_book_that_keeps_no_entries_copies_nothing.Given as goal

abbrev pub ghosts-leaves_one : goal.ghosts-leaves_one
ghosts-leaves_one g a = record { name = a.blank.name; parts = a.blank.parts }
