-- Character-strings in wire form: made, lengthened, cut, compared.
use Rattle.std.proofs.Common.{◌≡◌, ℕ, ◌<◌, ◌≤◌, nat_eq, List, [], ◌∷◌, ◌++◌, length, take, drop, get_or, refl, sym, ◌∙◌, ap, subst, arith, append_assoc, length-append}
use Rattle.std.proofs.Math.Seq.{take-append_seam, drop-append_seam}
use Rattle.std.proofs.lemmas.List.{append-nil}
use Rattle.std.specs.Cmp.Lexicographic.{pointwise}
use Rattle.std.specs.List.{AllByRecursion, flat_map}
use Rattle.dname.specs.Labels.{wire}
use Rattle.dname.specs.Laws.{labels_of-wire}
use Rattle.rdata.specs.Order.{same_wires}
use Rattle.rdata.specs.Strings.{strings_of, IsShort, IsStringsWire, IsTextsWire, IsCut}

-- What is written in wire form is kept as these strings.
pub record Held (bs : List ℕ) (ss : List (List ℕ)) : Type 0 where
  pub form : IsStringsWire bs
  pub same : strings_of bs ≡ ss

pub held : (bs : List ℕ) (ss : List (List ℕ)) → bs ≡ wire ss → AllByRecursion IsShort ss → Held bs ss
held bs ss e h =
    let back : strings_of bs ≡ ss = ap strings_of e ∙ labels_of-wire ss in
    record {
      form = record { short = subst (λ (x : List (List ℕ)). AllByRecursion IsShort x) (sym back) h; bytes = ap wire back ∙ sym e };
      same = back;
    }

pub texts_held : (bs : List ℕ) (ss : List (List ℕ)) → Held bs ss → 0 < length ss → IsTextsWire bs
texts_held bs ss h some = record { strings = h.form; some = subst (λ (x : List (List ℕ)). 0 < length x) (sym h.same) some }

-- One string.
pub one_held : (none bs s : List ℕ) → none ≡ [] → bs ≡ none ++ length s ∷ s → length s ≤ 255 → Held bs (s ∷ [])
one_held none bs s en e short = held bs (s ∷ []) (e ∙ (ap (λ x. x ++ length s ∷ s) en ∙ ap (λ x. length s ∷ x) (sym (append-nil s)))) (short, tt)

-- One more at the end.
wire_last : (ss : List (List ℕ)) (s : List ℕ) → wire (ss ++ s ∷ []) ≡ wire ss ++ length s ∷ s
wire_last [] s = ap (λ x. length s ∷ x) (append-nil s)
wire_last (t ∷ ts) s = ap (λ x. length t ∷ x) (ap (λ x. t ++ x) (wire_last ts s) ∙ sym (append_assoc t (wire ts) (length s ∷ s)))

all_last : (ss : List (List ℕ)) (s : List ℕ) → AllByRecursion IsShort ss → length s ≤ 255 → AllByRecursion IsShort (ss ++ s ∷ [])
all_last [] s h short = (short, tt)
all_last (t ∷ ts) s h short = (h.0, all_last ts s h.1 short)

pub more_held : (old new s : List ℕ) → IsStringsWire old → new ≡ old ++ length s ∷ s → length s ≤ 255 → Held new (strings_of old ++ s ∷ [])
more_held old new s h e short =
    held new (strings_of old ++ s ∷ []) (e ∙ (ap (λ x. x ++ length s ∷ s) (sym h.bytes) ∙ sym (wire_last (strings_of old) s))) (all_last (strings_of old) s h.short short)

pub some_more : (ss : List (List ℕ)) (s : List ℕ) → 0 < length (ss ++ s ∷ [])
some_more ss s = omega (arith, length-append ss (s ∷ []))

-- The first string, cut off.
cut_strings : (ss : List (List ℕ)) → AllByRecursion IsShort ss → 0 < length (wire ss)
    → IsCut (wire ss) (take (get_or (wire ss) 0 0) (drop 1 (wire ss))) (drop (get_or (wire ss) 0 0) (drop 1 (wire ss)))
cut_strings [] h some = absurd (omega arith)
cut_strings (s ∷ ss) h some =
    subst (λ (x : List ℕ). IsCut (wire (s ∷ ss)) x (drop (length s) (s ++ wire ss))) (sym (take-append_seam s (wire ss)))
    (subst (λ (x : List ℕ). IsCut (wire (s ∷ ss)) s x) (sym (drop-append_seam s (wire ss)))
    (record {
      strings = labels_of-wire (s ∷ ss) ∙ ap (λ (x : List (List ℕ)). s ∷ x) (sym (labels_of-wire ss));
      form = (held (wire ss) ss refl h.1).form;
      short = h.0;
      size = omega (arith, length-append s (wire ss));
    }))

pub cut_by_size : (bs rest string after : List ℕ) (n : ℕ) → IsStringsWire bs → 0 < length bs → n ≡ get_or bs 0 0 → rest ≡ drop 1 bs → string ≡ take n rest → after ≡ drop n rest → IsCut bs string after
cut_by_size bs rest string after n h some en er es ea =
    let whole : IsCut bs (take (get_or bs 0 0) (drop 1 bs)) (drop (get_or bs 0 0) (drop 1 bs)) =
    subst (λ (x : List ℕ). IsCut x (take (get_or x 0 0) (drop 1 x)) (drop (get_or x 0 0) (drop 1 x))) h.bytes
    (cut_strings (strings_of bs) h.short (subst (λ (x : List ℕ). 0 < length x) (sym h.bytes) some)) in
    let first : take (get_or bs 0 0) (drop 1 bs) ≡ string = cc in
    let behind : drop (get_or bs 0 0) (drop 1 bs) ≡ after = cc in
    subst (λ (x : List ℕ). IsCut bs x after) first (subst (λ (x : List ℕ). IsCut bs (take (get_or bs 0 0) (drop 1 bs)) x) behind whole)

-- Compared as bytes.
pub compared : (a b : List ℕ) → IsTextsWire a → IsTextsWire b → pointwise nat_eq a b ≡ pointwise (pointwise nat_eq) (strings_of a) (strings_of b)
compared a b ha hb = (λ i. pointwise nat_eq (sym ha.strings.bytes i) (sym hb.strings.bytes i)) ∙ same_wires (strings_of a) (strings_of b)

-- One more is written.
pub written_more : (p : List ℕ → List ℕ) (bs string rest done whole : List ℕ) → IsCut bs string rest → done ++ flat_map p (strings_of bs) ≡ whole
    → (done ++ p string) ++ flat_map p (strings_of rest) ≡ whole
written_more p bs string rest done whole cut e =
    append_assoc done (p string) (flat_map p (strings_of rest)) ∙ (ap (λ (l : List (List ℕ)). done ++ flat_map p l) (sym cut.strings) ∙ e)

pub written_all : (p : List ℕ → List ℕ) (bs done whole : List ℕ) → bs ≡ [] → done ++ flat_map p (strings_of bs) ≡ whole → done ≡ whole
written_all p bs done whole none e = sym (append-nil done) ∙ (ap (λ (x : List ℕ). done ++ flat_map p (strings_of x)) (sym none) ∙ e)
