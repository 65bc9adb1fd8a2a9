-- What is read stands for its text.
use Rattle.std.proofs.Common.{Result, Ok, Err, ℕ, List, subst}
use Rattle.std.specs.Prelude.{◌≡◌, IfOk, MatchResult}
use Rattle.rdata.specs.Records.{Record}
use Rattle.masterfile.specs.declared.faults.FileError.{FileError}
use Rattle.masterfile.specs.Files.{read_text, IsFirstFault}
use Rattle.masterfile.specs.MasterText.{IsMasterText}
use Rattle.masterfile.proofs.TextLaw.{text_is_read}
use Rattle.masterfile.proofs.files.read.Goals as goal

stands : (origin : List (List ℕ)) (text : List ℕ) (r : Result (List Record) FileError)
    → MatchResult r (λ v. read_text origin text ≡ Ok v) (λ e. IsFirstFault e.kind e (read_text origin text)) → IfOk r (λ v. IsMasterText origin text v)
stands origin text (Ok v) h = (text_is_read origin text v).1 h
stands origin text (Err e) h = tt

pub returns-clause-stands : goal.returns-clause-stands
returns-clause-stands g c =
    subst (λ (t : List ℕ). IfOk c.read_block.result (λ v. IsMasterText c.args.origin.now t v)) c.as_bytes.ensures.value
    (stands c.args.origin.now c.as_bytes.result.now c.read_block.result c.read_block.ensures)
