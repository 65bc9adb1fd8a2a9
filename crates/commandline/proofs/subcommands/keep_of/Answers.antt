-- What the getter read is the first value of the row.
use Rattle.std.proofs.Common.{◌≡◌, ◌∙◌, sym, refl, subst, ℕ, IfOk, IfErr, List, Option, Some, None, codes}
use Rattle.clap.specs.Words.{found_of, first_of, rows_of}
use Rattle.clap.proofs.WalkLemmas.{first_value-rows}
use Rattle.commandline.specs.Says.{IsKeep}
use Rattle.commandline.specs.declared.fault.LineFault.TheVariants.{Words}
use Rattle.commandline.proofs.subcommands.keep_of.Goals as goal

pub returns-in-None-clause-ok : goal.returns-in-None-clause-ok
returns-in-None-clause-ok c =
    let is : None ≡ first_of (codes "keep") (rows_of (found_of c.args.found.now)) = c.in-None.ensures ∙ first_value-rows (found_of c.args.found.now) (codes "keep") in
    subst (λ (o : Option (List ℕ)). IsKeep o 65536) is refl

pub returns-in-Some-clause-ok : goal.returns-in-Some-clause-ok
returns-in-Some-clause-ok c =
    let is : Some c.in-Some.text.now ≡ first_of (codes "keep") (rows_of (found_of c.args.found.now)) = c.in-Some.ensures ∙ first_value-rows (found_of c.args.found.now) (codes "keep") in
    subst (λ (o : Option (List ℕ)). IfOk c.kept_in.result (IsKeep o)) is c.kept_in.ensures.ok

pub returns-in-Some-clause-refused : goal.returns-in-Some-clause-refused
returns-in-Some-clause-refused c =
    let is : Some c.in-Some.text.now ≡ first_of (codes "keep") (rows_of (found_of c.args.found.now)) = c.in-Some.ensures ∙ first_value-rows (found_of c.args.found.now) (codes "keep") in
    subst (λ (o : Option (List ℕ)). IfErr c.kept_in.result (λ e. e ≡ Words → (n : ℕ) → IsKeep o n → ⊥)) is c.kept_in.ensures.refused
