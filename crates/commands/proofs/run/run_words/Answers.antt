-- Where the words name a command, that one was done.
use Rattle.std.proofs.Common.{inl}
use Rattle.commands.proofs.run.run_words.Goals as goal

pub returns-in-Ok : goal.returns-in-Ok
returns-in-Ok g c = inl (c.in-Ok.command, c.in-Ok.ensures.ok, c.run_command.ensures.run, c.run_command.ensures.starts, c.run_command.ensures.bound)
