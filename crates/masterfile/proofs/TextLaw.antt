-- What a text stands for is what is read.
use Rattle.std.proofs.Common.{◌≡◌, Option, Some, None, Result, Ok, Err, List, [], ◌∷◌, refl, ap, ◌∙◌}
use Rattle.rdata.specs.Records.{Record}
use Rattle.master_lexer.specs.Entries.{Entry, entries_from}
use Rattle.master_lexer.specs.Parts.{AreWholeEntries}
use Rattle.master_lexer.proofs.PartsLaw.{parts_are_found}
use Rattle.masterfile.specs.declared.faults.FileKind.{FileKind}
use Rattle.masterfile.specs.declared.faults.FileError.{FileError}
use Rattle.masterfile.specs.Entries.{Context, entry_in}
use Rattle.masterfile.specs.Files.{start, read_from, after_entry}
use Rattle.masterfile.specs.MasterText.{Say, nothing_left, says_none, says_one, ReadsBothWays}
use Rattle.masterfile.proofs.Inverse.{onto_ok}
use Rattle.masterfile.proofs.EntryLaw.{entry_is, says_read, says_whole}

say_read : (c : Context) (es : List Entry) (rs : List Record) → Say c es rs → read_from c es ≡ Ok rs
say_read _ _ _ (nothing_left c es rs e r) = rw (e, r) refl
say_read _ _ _ (says_none c es rs e later next a s m) = rw (a, says_read c e.lead e.words None next s) (say_read next later rs m)
say_read _ _ _ (says_one c es rs e later next r found a b s m) = rw (a, b, says_read c e.lead e.words (Some r) next s, say_read next later found m) refl

say_whole : (c : Context) (es : List Entry) (rs : List Record) → Say c es rs → AreWholeEntries es
say_whole _ _ _ (nothing_left c es rs e r) = rw e tt
say_whole _ _ _ (says_none c es rs e later next a s m) = rw a (says_whole c e.lead e.words None next s, say_whole next later rs m)
say_whole _ _ _ (says_one c es rs e later next r found a b s m) = rw a (says_whole c e.lead e.words (Some r) next s, say_whole next later found m)

nothing_is : (rs : List Record) → (let r : Result (List Record) FileError = Ok [] in r) ≡ Ok rs → rs ≡ []
nothing_is rs e = cc

entry_by : (c : Context) (e : Entry) (es : List Entry) (rs : List Record) (found : Result (Option Record × Context) FileKind) → entry_in c e.lead e.words ≡ found
    → after_entry (λ next. read_from next es) e.line found ≡ Ok rs → ((next : Context) (some : List Record) → read_from next es ≡ Ok some → Say next es some) → Say c (e ∷ es) rs
entry_by c e es rs (Err k) f h go = cc
entry_by c e es rs (Ok (None, next)) f h go = says_none c (e ∷ es) rs e es next refl (entry_is c e.lead e.words (None, next) f) (go next rs h)
entry_by c e es rs (Ok (Some r, next)) f h go =
    let o = onto_ok r (read_from next es) rs h in
    says_one c (e ∷ es) rs e es next r o.0 refl o.2 (entry_is c e.lead e.words (Some r, next) f) (go next o.0 o.1)

say_is : (c : Context) (es : List Entry) (rs : List Record) → read_from c es ≡ Ok rs → Say c es rs
say_is c [] rs h = nothing_left c [] rs refl (nothing_is rs h)
say_is c (e ∷ es) rs h = entry_by c e es rs (entry_in c e.lead e.words) refl h (λ next some k. say_is next es some k)

pub text_is_read : ReadsBothWays
text_is_read origin text records = (
  λ m. (let p = (parts_are_found 1 text m.0).0 m.1 in ap (λ (es : List Entry). read_from (start origin) es) p.0 ∙ say_read (start origin) m.0 records m.2),
  λ e. (let s = say_is (start origin) (entries_from 1 text) records e in
      (entries_from 1 text, (parts_are_found 1 text (entries_from 1 text)).1 (refl, say_whole (start origin) (entries_from 1 text) records s), s)),
)
