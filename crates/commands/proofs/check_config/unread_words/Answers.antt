-- The words are of `metrics` or `listen`.
use Rattle.std.proofs.Common.{string_bytes}
use Rattle.commands.specs.Servers.{end_of}
use Rattle.commands.proofs.Checks.{listen_told, metrics_told}
use Rattle.commands.proofs.check_config.unread_words.Goals as goal

pub returns : goal.returns
returns g c = metrics_told string_bytes c.end_words.result (end_of c.in-Some.at) _ c.end_words.ensures

pub returns-2 : goal.returns-2
returns-2 g c = listen_told string_bytes c.end_words-2.result (end_of c.args.listen) _ c.end_words-2.ensures
