-- The test of a word, at the bytes of each.
use Rattle.std.proofs.Common.{◌≡◌, ◌∙◌, string_bytes}
use Rattle.clap.proofs.WalkLemmas.{list_any-map}
use Rattle.commandline.specs.Helps.{asks_help}
use Rattle.commandline.proofs.help.has_help.Goals as goal

pub returns : goal.returns
returns c = c.some_is_help.ensures ∙ list_any-map asks_help string_bytes c.args.words.now
