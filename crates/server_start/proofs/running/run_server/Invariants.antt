use Rattle.server_start.proofs.running.run_server.Given as goal

abbrev pub ghosts-serve_by : goal.ghosts-serve_by
ghosts-serve_by g a = record { name = a.blank.name; parts = a.blank.parts }
