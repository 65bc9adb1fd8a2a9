-- What comes of the text at the path, or of none.
use Rattle.std.proofs.Common.{inr, string_bytes}
use Rattle.commands.proofs.Checks.{missing_config, starved_no_server}
use Rattle.commands.proofs.check_config.check_config.Goals as goal

pub returns-in-Ok-Some-clause-run : goal.returns-in-Ok-Some-clause-run
returns-in-Ok-Some-clause-run g c = rw c.text.ensures.keeps at c.check_text.ensures.run

pub returns-in-Ok-None-clause-run : goal.returns-in-Ok-None-clause-run
returns-in-Ok-None-clause-run g c =
    let told = missing_config (g.T.Texts.held c.args.texts.now) c.args.path (rw c.in-Ok-None.field-0-is at c.in-Ok-None.ensures.is) _ _ c.unreadable.ensures.tells in
    inr (c.unreadable.result.fault, string_bytes c.unreadable.result.words, told.0, told.1, c.refuse.ensures.told)

pub returns-in-Err-clause-run : goal.returns-in-Err-clause-run
returns-in-Err-clause-run g c =
    let told = starved_no_server (g.T.Texts.held c.args.texts.now) c.args.path.now _ _ c.starved.ensures in
    inr (c.starved.result.fault, string_bytes c.starved.result.words, told.0, told.1, c.refuse-in-Err.ensures.told)
