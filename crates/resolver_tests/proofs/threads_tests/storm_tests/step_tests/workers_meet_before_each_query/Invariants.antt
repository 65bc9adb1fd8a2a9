use Rattle.std.proofs.Common.{◌≡◌}
use Rattle.resolver_tests.proofs.threads_tests.storm_tests.step_tests.workers_meet_before_each_query.Given as goal

abbrev pub ghosts-met-P-Beginning : goal.ghosts-met-P-Beginning
ghosts-met-P-Beginning g a = record { begins = λ s. s ≡ a.start }

abbrev pub ghosts-met-L-Ledger : goal.ghosts-met-L-Ledger
ghosts-met-L-Ledger g a = record { name = a.blank.name; parts = a.blank.parts }
