-- The text of records is read as these records.
use Rattle.std.proofs.Common.{◌≡◌, ℕ, ◌+◌, Some, None, Ok, List, [], ◌∷◌, ◌++◌, codes, flat_map, refl, sym, ap, ◌∙◌, append_assoc, arith}
use Rattle.dname.specs.Labels.{IsName}
use Rattle.dname.specs.Text.{name_text}
use Rattle.rdata.specs.Records.{Record}
use Rattle.master_lexer.specs.Lexemes.{Word, plain}
use Rattle.master_lexer.specs.Entries.{Entry, margin}
use Rattle.master_lexer.specs.Lines.{line_of, lines_of, AreWritable, AllWritable, entries_of}
use Rattle.master_lexer.proofs.LinesLaw.{lines_are_read}
use Rattle.masterfile.specs.Entries.{Context, entry_in}
use Rattle.masterfile.specs.Files.{start, read_from, read_text}
use Rattle.masterfile.specs.Printed.{line_text, file_text}
use Rattle.masterfile.specs.ReadBack.{AreSound, IsReadAs, PrintedIsReadBack}
use Rattle.masterfile.proofs.NamesBack.{name_back, name_plain, name_some}
use Rattle.masterfile.proofs.RecordsBack.{record_words, record_line, record_writable, record_back, next_context}

abbrev all_words : List Record → List (List Word)
all_words [] = []
all_words (r ∷ rs) = record_words r ∷ all_words rs

abbrev origin_words : List (List ℕ) → List Word
origin_words origin = plain (codes "$ORIGIN") ∷ plain (name_text origin) ∷ []

lines_text : (rs : List Record) → flat_map line_text rs ≡ lines_of (all_words rs)
lines_text [] = refl
lines_text (r ∷ rs) = ap (λ (t : List ℕ). t ++ flat_map line_text rs) (record_line r) ∙ ap (λ (t : List ℕ). line_of (record_words r) ++ t) (lines_text rs)

file_lines : (origin : List (List ℕ)) (rs : List Record) → file_text origin rs ≡ lines_of (origin_words origin ∷ all_words rs)
file_lines origin rs =
    append_assoc (codes "$ORIGIN " ++ name_text origin) (codes "\n") (flat_map line_text rs)
    ∙ (append_assoc (codes "$ORIGIN ") (name_text origin) (10 ∷ flat_map line_text rs)
    ∙ (sym (append_assoc (codes "$ORIGIN ") (name_text origin ++ 10 ∷ []) (flat_map line_text rs) ∙ ap (λ (t : List ℕ). codes "$ORIGIN " ++ t) (append_assoc (name_text origin) (10 ∷ []) (flat_map line_text rs)))
    ∙ ap (λ (t : List ℕ). line_of (origin_words origin) ++ t) (lines_text rs)))

all_writable : (rs : List Record) → AreSound rs → AllWritable (all_words rs)
all_writable [] h = tt
all_writable (r ∷ rs) h = (record_writable r h.0, all_writable rs h.1)

origin_writable : (origin : List (List ℕ)) → IsName origin → AreWritable (origin_words origin)
origin_writable origin h = ((omega arith, refl), ((name_some origin h, name_plain origin h), tt))

origin_back : (c : Context) (origin : List (List ℕ)) → IsName c.origin → IsName origin → entry_in c margin (origin_words origin) ≡ Ok (None, record c { origin = origin })
origin_back c origin hc h = rw (name_back c.origin origin hc h) refl

one_more : (c next : Context) (ws : List Word) (line : ℕ) (later : List Entry) (r : Record) (rs : List Record) → entry_in c margin ws ≡ Ok (Some r, next) → read_from next later ≡ Ok rs
    → read_from c (record { line = line; lead = margin; words = ws } ∷ later) ≡ Ok (r ∷ rs)
one_more c next ws line later r rs e k = rw (e, k) refl

records_back : (c : Context) (line : ℕ) (rs : List Record) → IsName c.origin → AreSound rs → read_from c (entries_of line (all_words rs)) ≡ Ok rs
records_back c line [] ho h = refl
records_back c line (r ∷ rs) ho h =
    one_more c (next_context c r) (record_words r) line (entries_of (line + 1) (all_words rs)) r rs (record_back c r ho h.0) (records_back (next_context c r) (line + 1) rs ho h.1)

first_line : (c next : Context) (ws : List Word) (line : ℕ) (later : List Entry) (rs : List Record) → entry_in c margin ws ≡ Ok (None, next) → read_from next later ≡ Ok rs
    → read_from c (record { line = line; lead = margin; words = ws } ∷ later) ≡ Ok rs
first_line c next ws line later rs e k = rw (e) k

pub printed_is_read : PrintedIsReadBack
printed_is_read origin rs ho h first hf =
    let next : Context = record (start first) { origin = origin } in
    ap (read_text first) (file_lines origin rs)
    ∙ (ap (λ (es : List Entry). read_from (start first) es) (lines_are_read 1 (origin_words origin ∷ all_words rs) (origin_writable origin ho, all_writable rs h))
    ∙ first_line (start first) next (origin_words origin) 1 (entries_of 2 (all_words rs)) rs (origin_back (start first) origin hf ho) (records_back next 2 rs ho h))

pub text_is_read : (origin : List (List ℕ)) (rs : List Record) (text : List ℕ) → text ≡ file_text origin rs → IsName origin → AreSound rs → IsReadAs text rs
text_is_read origin rs text e ho h = rw e (printed_is_read origin rs ho h)
