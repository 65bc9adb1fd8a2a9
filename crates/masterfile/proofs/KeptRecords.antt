-- Records that are kept are within the bounds of a zone text.
use Rattle.std.proofs.Common.{◌≡◌, ℕ, suc, ◌+◌, ◌<◌, List, [], ◌∷◌, ◌++◌, length, get_or, drop, drop-cons, add-one, sym, ap, subst, ◌∙◌, arith}
use Rattle.std.specs.List.{AllByRecursion}
use Rattle.dname.specs.Labels.{wire}
use Rattle.dname.specs.Spelling.{AreBytes}
use Rattle.rdata.specs.Records.{Record}
use Rattle.rdata.specs.Strings.{IsShort}
use Rattle.masterfile.specs.ReadBack.{AreCharacterStrings, FitsMessage, FitMessages, IsSound, AreSound}

pub bytes_by : (bs : List ℕ) → ((i : ℕ) → get_or bs i 0 < 256) → AreBytes bs
bytes_by [] h = tt
bytes_by (b ∷ bs) h = (h 0, bytes_by bs (λ i. h (suc i)))

-- Each is sound where it fits a message.
abbrev pub AreKept : List Record → Type 0
AreKept [] = Unit {0}
AreKept (r ∷ rs) = (FitsMessage r.value → IsSound r) × AreKept rs

here : {A : Type 0} (xs : List A) (i : ℕ) (x : A) → i < length xs → x ≡ get_or xs i x → drop i xs ≡ x ∷ drop (i + 1) xs
here {A} xs i x h e = drop-cons xs i x h ∙ (ap (λ (y : A). y ∷ drop (suc i) xs) (sym e) ∙ ap (λ (n : ℕ). x ∷ drop n xs) (sym (add-one i)))

pub kept_more : (rs : List Record) (i : ℕ) (x : Record) → i < length rs → x ≡ get_or rs i x → (FitsMessage x.value → IsSound x) → (AreKept (drop i rs) → AreKept rs)
    → AreKept (drop (i + 1) rs) → AreKept rs
kept_more rs i x h e sound all later = all (subst (λ (ys : List Record). AreKept ys) (sym (here rs i x h e)) (sound, later))

-- Bytes in wire form are those of the strings.
bytes_apart : (a b : List ℕ) → AreBytes (a ++ b) → AreBytes a × AreBytes b
bytes_apart [] b h = (tt, h)
bytes_apart (x ∷ a) b h = let rest = bytes_apart a b h.1 in ((h.0, rest.0), rest.1)

pub strings_sound : (ts : List (List ℕ)) → AreBytes (wire ts) → AllByRecursion IsShort ts → AreCharacterStrings ts
strings_sound [] bytes short = tt
strings_sound (t ∷ ts) bytes short = let both = bytes_apart t (wire ts) bytes.1 in (both.0, short.0, strings_sound ts both.1 short.1)

pub none_kept : (rs : List Record) → length rs ≡ 0 → AreKept rs
none_kept [] h = tt
none_kept (r ∷ rs) h = absurd (omega arith)

pub all_sound : (rs : List Record) → AreKept rs → FitMessages rs → AreSound rs
all_sound [] k f = tt
all_sound (r ∷ rs) k f = (k.0 f.0, all_sound rs k.1 f.1)
