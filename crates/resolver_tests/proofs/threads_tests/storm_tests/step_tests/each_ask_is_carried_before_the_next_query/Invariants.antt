use Rattle.std.proofs.Common.{◌≡◌}
use Rattle.resolver_tests.proofs.threads_tests.storm_tests.step_tests.each_ask_is_carried_before_the_next_query.Given as goal

abbrev pub ghosts-goes_on-P-Beginning : goal.ghosts-goes_on-P-Beginning
ghosts-goes_on-P-Beginning g a = record { begins = λ s. s ≡ a.start }

abbrev pub ghosts-goes_on-L-Ledger : goal.ghosts-goes_on-L-Ledger
ghosts-goes_on-L-Ledger g a = record { name = a.blank.name; parts = a.blank.parts }
