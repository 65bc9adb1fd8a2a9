-- The word is that of the command that is read, or of none.
use Rattle.std.proofs.Common.{◌≡◌, sym, subst, IfOk, IfErr}
use Rattle.clap.specs.Words.{Text, found_of, rows_of}
use Rattle.commandline.specs.Says.{IsNamed}
use Rattle.commandline.specs.declared.fault.LineFault.TheVariants.{Words}
use Rattle.commandline.specs.declared.subcommands.Command.{Command}
use Rattle.commandline.proofs.subcommands.read_named.Goals as goal

pub returns-in-Some-clause-ok : goal.returns-in-Some-clause-ok
returns-in-Some-clause-ok c =
    subst (λ (word : Text). IfOk c.read_topic.result (IsNamed word (rows_of (found_of c.args.found.now)))) (sym c.in-Some.ensures.named) c.read_topic.ensures.ok

pub returns-in-Some-clause-refused : goal.returns-in-Some-clause-refused
returns-in-Some-clause-refused c =
    subst (λ (word : Text). IfErr c.read_topic.result (λ e. e ≡ Words → (command : Command) → IsNamed word (rows_of (found_of c.args.found.now)) command → ⊥)) (sym c.in-Some.ensures.named)
    c.read_topic.ensures.refused

pub returns-in-None-clause-refused : goal.returns-in-None-clause-refused
returns-in-None-clause-refused c _ command named = c.in-None.ensures.named command named.0
