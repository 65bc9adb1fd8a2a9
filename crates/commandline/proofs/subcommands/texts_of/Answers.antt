-- What the getter read are the values of the row.
use Rattle.std.proofs.Common.{◌≡◌, ◌∙◌, sym, ap, Some}
use Rattle.std.proofs.lemmas.Result.{IfOk-weaker}
use Rattle.clap.specs.Words.{found_of}
use Rattle.clap.proofs.WalkLemmas.{raw_values-rows}
use Rattle.commandline.proofs.subcommands.texts_of.Goals as goal

pub returns-in-Some-clause-ok : goal.returns-in-Some-clause-ok
returns-in-Some-clause-ok c =
    IfOk-weaker c.copies.result _ _
    (λ v same. sym (raw_values-rows (found_of c.args.found.now) c.args.id.now) ∙ sym c.in-Some.ensures ∙ ap Some same)
    c.copies.ensures.ok

pub returns-in-None-clause-refused : goal.returns-in-None-clause-refused
returns-in-None-clause-refused c _ = sym (raw_values-rows (found_of c.args.found.now) c.args.id.now) ∙ sym c.in-None.ensures
