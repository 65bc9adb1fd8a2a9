-- What a name's text is read as.
use Rattle.std.proofs.Common.{◌≡◌, ℕ, ◌+◌, ◌<◌, ◌≤◌, false, cond, nat_eq, Result, Ok, Err, List, [], ◌∷◌, ◌++◌, length, refl, sym, ap, ◌∙◌, append_assoc, length-append, zero-add, arith}
use Rattle.std.proofs.lemmas.List.{append-nil}
use Rattle.std.proofs.lemmas.Bool.Decides.{nat_tests}
use Rattle.std.specs.Cmp.Lexicographic.{pointwise}
use Rattle.dname.specs.Labels.{root, before_root, wire, folded, AreFolded, AreLabels}
use Rattle.dname.specs.Draft.{Draft, empty_draft}
use Rattle.dname.specs.declared.text.NameError.{NameError}
use Rattle.dname.specs.declared.text.NameError.TheVariants.{EmptyLabel}
use Rattle.dname.specs.Text.{Token, Dot, Byte, tokens, spelled, completed_draft, or_dot, name_of_text, byte_text, label_text, labels_text, name_text, TextIsReadBack}

byte_back : (b : ℕ) (cs : List ℕ) → b < 256 → tokens (byte_text b ++ cs) ≡ Byte b ∷ tokens cs
byte_back b cs h = grind (arith, nat_tests)

abbrev at : List (List ℕ) → List ℕ → Draft
at closed opened = record { closed = closed; opened = opened }

-- A byte that there is room for.
byte_read : (front : List (List ℕ)) (opened : List ℕ) (b : ℕ) (ts : List Token) → length opened < 63 → length (wire front) + 1 + length opened < 254 → folded b ≡ b
    → spelled (at front opened) (Byte b ∷ ts) ≡ spelled (at front (opened ++ b ∷ [])) ts
byte_read front opened b ts s t f = rw f (grind (arith, nat_tests))

-- The dot behind a label.
dot_read : (front : List (List ℕ)) (b : ℕ) (bs : List ℕ) (ts : List Token) → spelled (at front (b ∷ bs)) (Dot ∷ ts) ≡ spelled (at (front ++ (b ∷ bs) ∷ []) []) ts
dot_read front b bs ts = grind (arith, nat_tests)

-- A label's bytes behind the bytes that stand open.
label_back : (front : List (List ℕ)) (opened l : List ℕ) (cs : List ℕ) → AreFolded l → length opened + length l ≤ 63 → length (wire front) + 1 + (length opened + length l) ≤ 254
    → spelled (at front opened) (tokens (label_text l ++ cs)) ≡ spelled (at front (opened ++ l)) (tokens cs)
label_back front opened [] cs f s t = ap (λ x. spelled (at front x) (tokens cs)) (sym (append-nil opened))
label_back front opened (b ∷ bs) cs f s t =
    let more : length (opened ++ b ∷ []) ≡ length opened + 1 = length-append opened (b ∷ []) in
    ap (λ x. spelled (at front opened) (tokens x)) (append_assoc (byte_text b) (label_text bs) cs)
    ∙ ap (λ x. spelled (at front opened) x) (byte_back b (label_text bs ++ cs) f.0)
    ∙ byte_read front opened b (tokens (label_text bs ++ cs)) (omega arith) (omega arith) f.1
    ∙ label_back front (opened ++ b ∷ []) bs cs f.2 (omega arith) (omega arith)
    ∙ ap (λ x. spelled (at front x) (tokens cs)) (append_assoc opened (b ∷ []) bs)

wire_size : (a b : List (List ℕ)) → length (wire (a ++ b)) ≡ length (wire a) + length (wire b)
wire_size [] b = sym (zero-add (length (wire b)))
wire_size (l ∷ ls) b = omega (arith, wire_size ls b, length-append l (wire (ls ++ b)), length-append l (wire ls))

before_root-root : (n : List (List ℕ)) → AreLabels n → before_root n ++ root ≡ n
before_root-root [] h = absurd h
before_root-root (l ∷ []) h = ap (λ x. x ∷ []) (sym h)
before_root-root (l ∷ m ∷ ls) h = ap (λ x. l ∷ x) (before_root-root (m ∷ ls) h.1)

labels_back : (front ls : List (List ℕ)) → AreLabels ls → length (wire (front ++ ls)) ≤ 255
    → spelled (at front []) (tokens (labels_text ls)) ≡ Ok (at (front ++ before_root ls) [])
labels_back front [] h t = absurd h
labels_back front (l ∷ []) h t = rw (h, append-nil front) refl
labels_back front ([] ∷ m ∷ ls) h t = absurd (omega (arith, h.0.nonempty))
labels_back front ((b ∷ bs) ∷ m ∷ ls) h t =
    let short : length (b ∷ bs) < 64 = h.0.short in
    let whole : length (wire (front ++ (b ∷ bs) ∷ m ∷ ls)) ≡ length (wire front) + length (wire ((b ∷ bs) ∷ m ∷ ls)) = wire_size front ((b ∷ bs) ∷ m ∷ ls) in
    let ends : length (wire ((b ∷ bs) ∷ m ∷ ls)) ≡ 1 + (length (b ∷ bs) + length (wire (m ∷ ls))) = omega (arith, length-append (b ∷ bs) (wire (m ∷ ls))) in
    let room : length (wire front) + 1 + (0 + length (b ∷ bs)) ≤ 254 = omega arith in
    let fits : length (wire ((front ++ (b ∷ bs) ∷ []) ++ m ∷ ls)) ≤ 255 = rw append_assoc t in
    label_back front [] (b ∷ bs) (46 ∷ labels_text (m ∷ ls)) h.0.bytes (omega arith) room
    ∙ dot_read front b bs (tokens (labels_text (m ∷ ls)))
    ∙ labels_back (front ++ (b ∷ bs) ∷ []) (m ∷ ls) h.1 fits
    ∙ ap (λ x. Ok (at x [])) (append_assoc front ((b ∷ bs) ∷ []) (before_root (m ∷ ls)))

byte_size : (b : ℕ) → 0 < length (byte_text b)
byte_size b = grind (arith, nat_tests)

text_size : (b : ℕ) (bs cs : List ℕ) → 2 ≤ length (label_text (b ∷ bs) ++ 46 ∷ cs)
text_size b bs cs = omega (arith, byte_size b, length-append (byte_text b) (label_text bs), length-append (label_text (b ∷ bs)) (46 ∷ cs))

or_dot-long : (t : List ℕ) → 2 ≤ length t → or_dot t ≡ t
or_dot-long [] h = absurd (omega arith)
or_dot-long (c ∷ cs) h = refl

not_empty : (t : List ℕ) → 2 ≤ length t → nat_eq (length t) 0 ≡ false
not_empty t h = grind (arith, nat_tests)

no_dot : (t : List ℕ) → 2 ≤ length t → pointwise nat_eq t (46 ∷ []) ≡ false
no_dot [] h = refl
no_dot (c ∷ []) h = absurd (omega arith)
no_dot (c ∷ d ∷ cs) h = grind arith

pub text_back : TextIsReadBack
text_back [] h = absurd h.labels
text_back (l ∷ []) h = rw h.labels refl
text_back ([] ∷ m ∷ ls) h = absurd (omega (arith, h.labels.0.nonempty))
text_back ((b ∷ bs) ∷ m ∷ ls) h =
    let n : List (List ℕ) = (b ∷ bs) ∷ m ∷ ls in
    let long : 2 ≤ length (labels_text n) = text_size b bs (labels_text (m ∷ ls)) in
    let read : Result (List (List ℕ)) NameError = completed_draft root (spelled empty_draft (tokens (labels_text n))) in
    ap name_of_text (or_dot-long (labels_text n) long)
    ∙ ap (λ x. cond x (Err EmptyLabel) (cond (pointwise nat_eq (labels_text n) (46 ∷ [])) (Ok root) read)) (not_empty (labels_text n) long)
    ∙ ap (λ x. cond x (Ok root) read) (no_dot (labels_text n) long)
    ∙ ap (completed_draft root) (labels_back [] n h.labels h.short)
    ∙ ap (λ x. Ok x) (before_root-root n h.labels)

labels_alone : (n : List (List ℕ)) → AreLabels n → (n ≡ root → ⊥) → name_text n ≡ labels_text n
labels_alone [] h ne = absurd h
labels_alone (l ∷ []) h ne = absurd (ne (ap (λ x. x ∷ []) h))
labels_alone ([] ∷ m ∷ ls) h ne = absurd (omega (arith, h.0.nonempty))
labels_alone ((b ∷ bs) ∷ m ∷ ls) h ne = or_dot-long (labels_text ((b ∷ bs) ∷ m ∷ ls)) (text_size b bs (labels_text (m ∷ ls)))

-- One label more is written.
pub label_written : (l : List ℕ) (ls : List (List ℕ)) (done whole : List ℕ) → 0 < length l → done ++ labels_text (l ∷ ls) ≡ whole → (done ++ (label_text l ++ 46 ∷ [])) ++ labels_text ls ≡ whole
label_written [] ls done whole h e = absurd (omega arith)
label_written (b ∷ bs) ls done whole h e =
    append_assoc done (label_text (b ∷ bs) ++ 46 ∷ []) (labels_text ls)
    ∙ ap (λ x. done ++ x) (append_assoc (label_text (b ∷ bs)) (46 ∷ []) (labels_text ls))
    ∙ e

-- All labels are written once only the root's is left.
pub all_written : (done : List ℕ) (n rest : List (List ℕ)) → AreLabels n → (n ≡ root → ⊥) → rest ≡ root → done ++ labels_text rest ≡ labels_text n → done ≡ name_text n
all_written done n rest h ne e w = sym (append-nil done) ∙ ap (λ x. done ++ labels_text x) (sym e) ∙ w ∙ sym (labels_alone n h ne)
