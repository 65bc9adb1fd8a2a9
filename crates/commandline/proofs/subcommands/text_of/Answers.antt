-- What the getter read is the first value of the row.
use Rattle.std.proofs.Common.{◌≡◌, ◌∙◌, sym, ap, Some}
use Rattle.clap.specs.Words.{found_of}
use Rattle.clap.proofs.WalkLemmas.{first_value-rows}
use Rattle.commandline.proofs.subcommands.text_of.Goals as goal

pub returns-in_ok-from_str-in-Some-clause-ok : goal.returns-in_ok-from_str-in-Some-clause-ok
returns-in_ok-from_str-in-Some-clause-ok c =
    sym (first_value-rows (found_of c.args.found.now) c.args.id.now) ∙ sym c.in-Some.ensures ∙ ap Some (sym c.in_ok-from_str-in-Some.ensures.ok)

pub returns-in-None-clause-refused : goal.returns-in-None-clause-refused
returns-in-None-clause-refused c _ = sym (first_value-rows (found_of c.args.found.now) c.args.id.now) ∙ sym c.in-None.ensures
