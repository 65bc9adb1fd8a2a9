-- On the entries of a file.
use Rattle.std.proofs.Common.{◌≡◌, ℕ, false, Option, Some, None, Result, Ok, Err, List, [], ◌∷◌, ◌++◌, refl, sym, ap, ◌∙◌, append-nil}
use Rattle.rdata.specs.Records.{Record}
use Rattle.master_lexer.specs.Entries.{Entry, Text, Lead, lead, text_from}
use Rattle.masterfile.specs.declared.faults.FileKind.{FileKind}
use Rattle.masterfile.specs.declared.faults.FileError.{FileError}
use Rattle.masterfile.specs.Entries.{Context, entry_in}
use Rattle.masterfile.specs.Files.{start, read_lines, listed, with_record, after_entry, read_from}
use Rattle.masterfile.proofs.Fronts.{with_front, onto_front}

with_listed : (rs : List Record) (r : Option Record) (x : Result (List Record) FileError) → with_front (rs ++ listed r) x ≡ with_front rs (with_record r x)
with_listed rs None x = ap (λ (s : List Record). with_front s x) (append-nil rs)
with_listed rs (Some r) x = onto_front rs r x

-- an entry that was read, and those behind it
pub next_read : (rs : List Record) (c after : Context) (r : Option Record) (e : Entry) (es : List Entry) → entry_in c e.lead e.words ≡ Ok (r, after)
    → with_front (rs ++ listed r) (read_from after es) ≡ with_front rs (read_from c (e ∷ es))
next_read rs c after r e es h =
    with_listed rs r (read_from after es) ∙ ap (λ (x : Result (Option Record × Context) FileKind). with_front rs (after_entry (λ next. read_from next es) e.line x)) (sym h)

pub step_read : (rs new : List Record) (c after : Context) (r : Option Record) (e : Entry) (es rest : List Entry) (whole : Result (List Record) FileError) → new ≡ rs ++ listed r
    → entry_in c e.lead e.words ≡ Ok (r, after) → es ≡ rest → with_front rs (read_from c (e ∷ es)) ≡ whole → with_front new (read_from after rest) ≡ whole
step_read rs new c after r e es rest whole n h s w =
    ap (λ (xs : List Record). with_front xs (read_from after rest)) n ∙ (ap (λ (ys : List Entry). with_front (rs ++ listed r) (read_from after ys)) (sym s) ∙ (next_read rs c after r e es h ∙ w))

pub front_nothing : (x : Result (List Record) FileError) → with_front [] x ≡ x
front_nothing (Ok rs) = refl
front_nothing (Err e) = refl

pub first_read : (rs : List Record) (c : Context) (t : Text) (l : Lead) (own origin : List (List ℕ)) (line : ℕ) (text : List ℕ) → rs ≡ [] → c ≡ start own → own ≡ origin
    → t ≡ text_from line false text → l ≡ lead text
    → with_front rs (read_from c (record { line = line; lead = l; words = t.words } ∷ t.later)) ≡ read_lines origin line text
first_read rs c t l own origin line text a b o w k =
    let every : with_front rs (read_from c (record { line = line; lead = l; words = t.words } ∷ t.later)) ≡ with_front [] (read_lines origin line text)
    = λ i. with_front (a i) (read_from ((b ∙ ap start o) i) (record { line = line; lead = k i; words = (w i).words } ∷ (w i).later)) in
    every ∙ front_nothing (read_lines origin line text)

-- the last entry of a text, which was read
pub last_read : (rs new : List Record) (c after : Context) (r : Option Record) (e : Entry) (es : List Entry) (whole : Result (List Record) FileError) → new ≡ rs ++ listed r
    → entry_in c e.lead e.words ≡ Ok (r, after) → es ≡ [] → with_front rs (read_from c (e ∷ es)) ≡ whole → whole ≡ Ok new
last_read rs new c after r e es whole n h s w = sym (step_read rs new c after r e es [] whole n h s w) ∙ ap Ok (append-nil new)
