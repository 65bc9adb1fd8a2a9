use Rattle.std.specs.Prelude.{◌≡◌}
use Rattle.storm.proofs.storming.storm.Given as goal

abbrev pub ghosts-storm_in-P-Beginning : goal.ghosts-storm_in-P-Beginning
ghosts-storm_in-P-Beginning g a = record { begins = λ s. s ≡ a.start }

abbrev pub ghosts-storm_in-L-Ledger : goal.ghosts-storm_in-L-Ledger
ghosts-storm_in-L-Ledger g a = record { name = a.blank.name; parts = a.blank.parts }
