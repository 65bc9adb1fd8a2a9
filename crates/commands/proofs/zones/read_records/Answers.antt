-- The text at the path is read as records, or why it is not.
use Rattle.std.proofs.Common.{◌≡◌, refl, subst, sym, ℕ, List, Some}
use Rattle.std.specs.Prelude.{Option}
use Rattle.std.specs.Borrow.{Bor}
use Rattle.masterfile.specs.Files.{IsFirstFault, read_text}
use Rattle.masterfile.specs.declared.faults.FileError.{FileError}
use Rattle.masterfile.specs.declared.faults.FileKind.{FileKind}
use Rattle.masterfile.specs.declared.faults.FileKind.TheVariants as file
use Rattle.commands.specs.Faults.{kind_fault}
use Rattle.commands.specs.Texts.{MayHold}
use Rattle.commands.specs.Zones.{HoldsNoRecords}
use Rattle.commands.specs.declared.fault.Fault.{Fault}
use Rattle.commands.proofs.Scripts.{unread}
use Rattle.commands.proofs.Storms.{err_weaker}
use Rattle.commands.proofs.zones.read_records.Goals as goal

no_records : (held : List ℕ → Option (Option (List ℕ))) (path : Bor (List ℕ)) (origin : List (List ℕ)) (text : List ℕ) → MayHold (held path.now) (Some text)
    → (e : FileError) (k : FileKind) → IsFirstFault k e (read_text origin text) → HoldsNoRecords held path.now origin (kind_fault path e k)
no_records held path origin text there e file.UnknownType why = (refl, (text, there, why))
no_records held path origin text there e file.BadName why = (refl, (text, there, why))
no_records held path origin text there e file.BadNumber why = (refl, (text, there, why))
no_records held path origin text there e file.NoTtl why = (refl, (text, there, why))
no_records held path origin text there e file.NoOwner why = (refl, (text, there, why))
no_records held path origin text there e file.OpenText why = (refl, (text, there, why))
no_records held path origin text there e file.UnknownDirective why = (refl, (text, there, why))
no_records held path origin text there e file.BadClass why = (refl, (text, there, why))
no_records held path origin text there e file.BadData why = (refl, (text, there, why))
no_records held path origin text there e file.Memory why = tt

pub returns-in-Ok-clause-ok : goal.returns-in-Ok-clause-ok
returns-in-Ok-clause-ok g c =
    let there : MayHold (g.T.Texts.held c.args.texts.now c.args.file.now) (Some c.as_str.result.now) =
    subst (λ (text : List ℕ). MayHold (g.T.Texts.held c.args.texts.now c.args.file.now) (Some text)) (sym c.as_str.ensures.value) c.in_ok-text.ensures.ok in
    (c.as_str.result.now, there, c.in-Ok.ensures.reads)

pub returns-clause-err : goal.returns-clause-err
returns-clause-err g c =
    let there : MayHold (g.T.Texts.held c.args.texts.now c.args.file.now) (Some c.as_str.result.now) =
    subst (λ (text : List ℕ). MayHold (g.T.Texts.held c.args.texts.now c.args.file.now) (Some text)) (sym c.as_str.ensures.value) c.in_ok-text.ensures.ok in
    subst (HoldsNoRecords (g.T.Texts.held c.args.texts.now) c.args.file.now c.args.origin.now) (sym c.of_file.ensures)
    (no_records (g.T.Texts.held c.args.texts.now) c.args.file c.args.origin.now c.as_str.result.now there c.in-Err.error (c.in-Err.error).kind c.in-Err.ensures.reads)

pub returns-in_err-text-clause-err : goal.returns-in_err-text-clause-err
returns-in_err-text-clause-err g c =
    let P : Fault → Type 0 = HoldsNoRecords (g.T.Texts.held c.args.texts.now) c.args.file.now c.args.origin.now in
    err_weaker c.from_residual.result _ _ (λ (f : Fault) is. subst P (sym is) (unread P c.args.file _ c.in_err-text.ensures.err (λ none. (refl, none)) tt)) c.from_residual.ensures.1
