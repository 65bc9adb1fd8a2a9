-- The text of a name is one plain word, and is read as that name under every origin.
use Rattle.std.proofs.Common.{◌≡◌, ℕ, ◌<◌, true, false, nat_eq, Ok, List, [], ◌∷◌, ◌++◌, length, refl, sym, ap, ◌∙◌, append_assoc, arith}
use Rattle.std.proofs.lemmas.List.{append-nil}
use Rattle.std.proofs.lemmas.Bool.Decides.{nat_tests}
use Rattle.std.specs.Cmp.Lexicographic.{pointwise}
use Rattle.dname.specs.Labels.{root, folded, folded_label, folded_labels, AreFolded, AreLabels, IsName}
use Rattle.dname.specs.Text.{Token, Dot, Byte, tokens, name_under, byte_text, label_text, labels_text, or_dot, name_text}
use Rattle.dname.specs.Spelling.{first_part, later_parts, parts, Writes, absolute, AreBytes}
use Rattle.dname.proofs.Spellings.{NoBad, spells}
use Rattle.dname.proofs.ReadNames.{both_ways}
use Rattle.master_lexer.specs.Lines.{is_plain}
use Rattle.masterfile.specs.Fields.{name_of}
use Rattle.masterfile.specs.Entries.{begins_directive}
use Rattle.masterfile.proofs.PlainWords.{plain_append}

-- ---- what the text writes

abbrev label_tokens : List ℕ → List Token → List Token
label_tokens [] ts = ts
label_tokens (b ∷ bs) ts = Byte b ∷ label_tokens bs ts

abbrev name_tokens : List (List ℕ) → List Token
name_tokens [] = []
name_tokens ([] ∷ ls) = name_tokens ls
name_tokens ((b ∷ bs) ∷ ls) = label_tokens (b ∷ bs) (Dot ∷ name_tokens ls)

byte_back : (b : ℕ) (cs : List ℕ) → b < 256 → tokens (byte_text b ++ cs) ≡ Byte b ∷ tokens cs
byte_back b cs h = grind (arith, nat_tests)

label_back : (l cs : List ℕ) → AreFolded l → tokens (label_text l ++ cs) ≡ label_tokens l (tokens cs)
label_back [] cs h = refl
label_back (b ∷ bs) cs h =
    ap tokens (append_assoc (byte_text b) (label_text bs) cs) ∙ (byte_back b (label_text bs ++ cs) h.0 ∙ ap (λ (x : List Token). Byte b ∷ x) (label_back bs cs h.2))

labels_back : (n : List (List ℕ)) → AreLabels n → tokens (labels_text n) ≡ name_tokens n
labels_back [] h = refl
labels_back (l ∷ []) h = rw h refl
labels_back ([] ∷ m ∷ ls) h = absurd (omega (arith, h.0.nonempty))
labels_back ((b ∷ bs) ∷ m ∷ ls) h =
    label_back (b ∷ bs) (46 ∷ labels_text (m ∷ ls)) h.0.bytes ∙ ap (λ (x : List Token). label_tokens (b ∷ bs) (Dot ∷ x)) (labels_back (m ∷ ls) h.1)

label_good : (l : List ℕ) (ts : List Token) → NoBad ts → NoBad (label_tokens l ts)
label_good [] ts h = h
label_good (b ∷ bs) ts h = label_good bs ts h

name_good : (n : List (List ℕ)) → NoBad (name_tokens n)
name_good [] = tt
name_good ([] ∷ ls) = name_good ls
name_good ((b ∷ bs) ∷ ls) = label_good (b ∷ bs) (Dot ∷ name_tokens ls) (name_good ls)

label_first : (l : List ℕ) (ts : List Token) → first_part (label_tokens l ts) ≡ l ++ first_part ts
label_first [] ts = refl
label_first (b ∷ bs) ts = ap (λ (x : List ℕ). b ∷ x) (label_first bs ts)

label_later : (l : List ℕ) (ts : List Token) → later_parts (label_tokens l ts) ≡ later_parts ts
label_later [] ts = refl
label_later (b ∷ bs) ts = label_later bs ts

name_parts : (n : List (List ℕ)) → AreLabels n → first_part (name_tokens n) ∷ later_parts (name_tokens n) ≡ n
name_parts [] h = absurd h
name_parts (l ∷ []) h = rw h refl
name_parts ([] ∷ m ∷ ls) h = absurd (omega (arith, h.0.nonempty))
name_parts ((b ∷ bs) ∷ m ∷ ls) h =
    let first : first_part (name_tokens ((b ∷ bs) ∷ m ∷ ls)) ≡ b ∷ bs = label_first (b ∷ bs) (Dot ∷ name_tokens (m ∷ ls)) ∙ append-nil (b ∷ bs) in
    let later : later_parts (name_tokens ((b ∷ bs) ∷ m ∷ ls)) ≡ m ∷ ls = label_later (b ∷ bs) (Dot ∷ name_tokens (m ∷ ls)) ∙ name_parts (m ∷ ls) h.1 in
    cc

label_folded : (l : List ℕ) → AreFolded l → folded_label l ≡ l
label_folded [] h = refl
label_folded (b ∷ bs) h = let e : folded b ≡ b = h.1 in let es : folded_label bs ≡ bs = label_folded bs h.2 in cc

name_folded : (n : List (List ℕ)) → AreLabels n → folded_labels n ≡ n
name_folded [] h = refl
name_folded (l ∷ []) h = rw h refl
name_folded (l ∷ m ∷ ls) h =
    let e : folded_label l ≡ l = label_folded l h.0.bytes in let es : folded_labels (m ∷ ls) ≡ m ∷ ls = name_folded (m ∷ ls) h.1 in cc

-- ---- its bytes

bytes_append : (a b : List ℕ) → AreBytes a → AreBytes b → AreBytes (a ++ b)
bytes_append [] b h k = k
bytes_append (c ∷ a) b h k = (h.0, bytes_append a b h.1 k)

byte_bytes : (b : ℕ) → b < 256 → AreBytes (byte_text b)
byte_bytes b h = grind (arith, nat_tests)

label_bytes : (l : List ℕ) → AreFolded l → AreBytes (label_text l)
label_bytes [] h = tt
label_bytes (b ∷ bs) h = bytes_append (byte_text b) (label_text bs) (byte_bytes b h.0) (label_bytes bs h.2)

labels_bytes : (n : List (List ℕ)) → AreLabels n → AreBytes (labels_text n)
labels_bytes [] h = tt
labels_bytes (l ∷ []) h = rw h tt
labels_bytes ([] ∷ m ∷ ls) h = labels_bytes (m ∷ ls) h.1
labels_bytes ((b ∷ bs) ∷ m ∷ ls) h =
    bytes_append (label_text (b ∷ bs)) (46 ∷ labels_text (m ∷ ls)) (label_bytes (b ∷ bs) h.0.bytes) (omega arith, labels_bytes (m ∷ ls) h.1)

byte_plain : (b : ℕ) → b < 256 → is_plain false (byte_text b) ≡ true
byte_plain b h = grind (arith, nat_tests)

label_plain : (l : List ℕ) → AreFolded l → is_plain false (label_text l) ≡ true
label_plain [] h = refl
label_plain (b ∷ bs) h = plain_append false (byte_text b) (label_text bs) (byte_plain b h.0) (label_plain bs h.2)

labels_plain : (n : List (List ℕ)) → AreLabels n → is_plain false (labels_text n) ≡ true
labels_plain [] h = refl
labels_plain (l ∷ []) h = rw h refl
labels_plain ([] ∷ m ∷ ls) h = labels_plain (m ∷ ls) h.1
labels_plain ((b ∷ bs) ∷ m ∷ ls) h = plain_append false (label_text (b ∷ bs)) (46 ∷ labels_text (m ∷ ls)) (label_plain (b ∷ bs) h.0.bytes) (labels_plain (m ∷ ls) h.1)

-- ---- how it begins

byte_no_directive : (b : ℕ) (cs : List ℕ) → begins_directive (byte_text b ++ cs) ≡ false
byte_no_directive b cs = grind (arith, nat_tests)

byte_no_sign : (b : ℕ) (cs : List ℕ) → pointwise nat_eq (byte_text b ++ cs) (64 ∷ []) ≡ false
byte_no_sign b cs = grind (arith, nat_tests)

byte_some : (b : ℕ) (cs : List ℕ) → 0 < length (byte_text b ++ cs)
byte_some b cs = grind (arith, nat_tests)

some_text : (t : List ℕ) → 0 < length t → or_dot t ≡ t
some_text [] h = absurd (omega arith)
some_text (c ∷ cs) h = refl

-- What the text of a name is: a dot alone for the root.
data NameText (n : List (List ℕ)) : Type 0 where
  dot_alone : n ≡ root → NameText n
  some_labels : (b : ℕ) (cs : List ℕ) → labels_text n ≡ byte_text b ++ cs → NameText n

name_text_is : (n : List (List ℕ)) → AreLabels n → NameText n
name_text_is [] h = absurd h
name_text_is (l ∷ []) h = dot_alone (ap (λ (x : List ℕ). x ∷ []) h)
name_text_is ([] ∷ m ∷ ls) h = absurd (omega (arith, h.0.nonempty))
name_text_is ((b ∷ bs) ∷ m ∷ ls) h = some_labels b (label_text bs ++ 46 ∷ labels_text (m ∷ ls)) (append_assoc (byte_text b) (label_text bs) (46 ∷ labels_text (m ∷ ls)))

whole_text : (n : List (List ℕ)) (b : ℕ) (cs : List ℕ) → labels_text n ≡ byte_text b ++ cs → name_text n ≡ labels_text n
whole_text n b cs e = some_text (labels_text n) (omega (arith, byte_some b cs, ap length e))

-- ---- read back

writes : (origin n : List (List ℕ)) (b : ℕ) (cs : List ℕ) → AreLabels n → labels_text n ≡ byte_text b ++ cs → Writes origin (labels_text n) n
writes origin n b cs h e =
    let same : tokens (labels_text n) ≡ name_tokens n = labels_back n h in
    let good : NoBad (tokens (labels_text n)) = rw same (name_good n) in
    let labels : parts (tokens (labels_text n)) ≡ n = ap parts same ∙ (ap folded_labels (name_parts n h) ∙ name_folded n h) in
    absolute (tokens (labels_text n)) (spells (labels_text n) good) (omega (arith, byte_some b cs, ap length e)) (sym labels)

pub under_back : (origin n : List (List ℕ)) → IsName origin → IsName n → name_under origin (name_text n) ≡ Ok n
under_back origin n ho h = elim (name_text_is n h.labels) [
  | dot_alone e ↦ rw e refl
  | some_labels b cs e ↦
      ap (name_under origin) (whole_text n b cs e) ∙ (both_ways origin (labels_text n) n ho (labels_bytes n h.labels)).1 (writes origin n b cs h.labels e, h)
]

pub name_plain : (n : List (List ℕ)) → IsName n → is_plain false (name_text n) ≡ true
name_plain n h = elim (name_text_is n h.labels) [
  | dot_alone e ↦ rw e refl
  | some_labels b cs e ↦ ap (is_plain false) (whole_text n b cs e) ∙ labels_plain n h.labels
]

pub name_some : (n : List (List ℕ)) → IsName n → 0 < length (name_text n)
name_some n h = elim (name_text_is n h.labels) [
  | dot_alone e ↦ rw e (omega arith)
  | some_labels b cs e ↦ omega (arith, byte_some b cs, ap length (whole_text n b cs e ∙ e))
]

pub name_no_directive : (n : List (List ℕ)) → IsName n → begins_directive (name_text n) ≡ false
name_no_directive n h = elim (name_text_is n h.labels) [
  | dot_alone e ↦ rw e refl
  | some_labels b cs e ↦ ap begins_directive (whole_text n b cs e ∙ e) ∙ byte_no_directive b cs
]

no_sign : (n : List (List ℕ)) → IsName n → pointwise nat_eq (name_text n) (64 ∷ []) ≡ false
no_sign n h = elim (name_text_is n h.labels) [
  | dot_alone e ↦ rw e refl
  | some_labels b cs e ↦ ap (λ (t : List ℕ). pointwise nat_eq t (64 ∷ [])) (whole_text n b cs e ∙ e) ∙ byte_no_sign b cs
]

pub name_back : (origin n : List (List ℕ)) → IsName origin → IsName n → name_of origin (name_text n) ≡ Ok n
name_back origin n ho h = rw (no_sign n h, under_back origin n ho h) refl
