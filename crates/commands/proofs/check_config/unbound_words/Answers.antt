-- The words are of `listen`.
use Rattle.std.proofs.Common.{string_bytes}
use Rattle.commands.specs.Servers.{end_of}
use Rattle.commands.proofs.Checks.{listen_told}
use Rattle.commands.proofs.check_config.unbound_words.Goals as goal

pub returns-in-Some : goal.returns-in-Some
returns-in-Some g c = listen_told string_bytes c.end_words.result (end_of c.args.listen) _ c.end_words.ensures

pub returns-in-Some-2 : goal.returns-in-Some-2
returns-in-Some-2 g c = listen_told string_bytes c.end_words-in-Some-2.result (end_of c.args.listen) _ c.end_words-in-Some-2.ensures
