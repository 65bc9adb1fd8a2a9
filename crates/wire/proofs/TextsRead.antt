-- The strings of a TXT, taken as they stand once it is known where they end, and written as they are kept.
use Rattle.std.proofs.Common.{◌≡◌, ℕ, ◌-◌, ◌<◌, ◌≤◌, List, [], ◌∷◌, ◌++◌, length, take, drop, Ok, Err, refl, sym, ◌∙◌, ap, arith}
use Rattle.std.specs.Prelude.{slice_range}
use Rattle.std.specs.List.{AllByRecursion}
use Rattle.dname.specs.Labels.{wire}
use Rattle.rdata.specs.Strings.{strings_of, IsShort, IsTextsWire}
use Rattle.rdata.specs.declared.rtype.RType.TheVariants as served
use Rattle.rdata.proofs.StringsWire.{Held, held, texts_held}
use Rattle.message_grammar.specs.Messages.{strings_bytes}
use Rattle.wire.specs.declared.error.WireError.{WireError}
use Rattle.wire.specs.Results.{Fails, and_then, end_of}
use Rattle.wire.specs.Values.{as_txt, texts_at, form_at}
use Rattle.wire.proofs.Bytes.{AreSmall, was_read}
use Rattle.wire.proofs.DataRead.{AreTexts, texts_stand}
use Rattle.wire.proofs.Rows.{Strings}
use Rattle.wire.proofs.Walks.{fails_is}

-- The strings of a message are in wire form.
pub in_wire_form : (ss : List (List ℕ)) → strings_bytes ss ≡ wire ss
in_wire_form [] = refl
in_wire_form (s ∷ ss) = ap (λ x. length s ∷ (s ++ x)) (in_wire_form ss)

pub all_fit : (ss : List (List ℕ)) → AllByRecursion IsShort ss → AllByRecursion (λ s. length s < 256) ss
all_fit [] h = tt
all_fit (s ∷ ss) h = let short = h.0 in (omega arith, all_fit ss h.1)

all_short : (ss : List (List ℕ)) → AllByRecursion (λ s. length s < 256) ss → AllByRecursion IsShort ss
all_short [] h = tt
all_short (s ∷ ss) h = let short = h.0 in (omega arith, all_short ss h.1)

-- Where their end is known there are strings; where it is refused there are none.
txt_ended : (end past : ℕ) (r : Strings) → Ok past ≡ end_of (and_then r (as_txt end)) → (ss : List (List ℕ)) × (r ≡ Ok ss)
txt_ended end past (Ok ss) h = (ss, refl)
txt_ended end past (Err e) h = absurd (cc)

txt_not_ended : (end : ℕ) (e : WireError) (r : Strings) → Err e ≡ end_of (and_then r (as_txt end)) → r ≡ Err e
txt_not_ended end e (Ok ss) h = absurd (cc)
txt_not_ended end e (Err d) h = let same : e ≡ d = cc in ap (λ x. Err x) (sym same)

pub texts_refused : (bytes : List ℕ) (at end : ℕ) (e : WireError) → Err e ≡ end_of (form_at served.Txt bytes at end) → Fails e (texts_at bytes at end)
texts_refused bytes at end e h = fails_is e (texts_at bytes at end) (txt_not_ended end e (texts_at bytes at end) h)

-- The bytes up to the end, and the strings that they are.
pub record AreTaken (bytes : List ℕ) (at end : ℕ) : Type 0 where
  pub within : at ≤ end
  pub strings : List (List ℕ)
  pub read : texts_at bytes at end ≡ Ok strings
  pub form : IsTextsWire (slice_range bytes at end)
  pub same : strings_of (slice_range bytes at end) ≡ strings

pub texts_taken : (bytes : List ℕ) (at end past : ℕ) → AreSmall bytes → end ≤ length bytes → Ok past ≡ end_of (form_at served.Txt bytes at end) → AreTaken bytes at end
texts_taken bytes at end past small fits h =
    let (ss, is) = txt_ended end past (texts_at bytes at end) h in
    let there : AreTexts bytes at end ss = was_read (AreTexts bytes at end) (texts_at bytes at end) ss (texts_stand bytes at end small fits) is in
    let last = there.0.last in
    let size : end - at ≡ length (strings_bytes ss) = omega arith in
    let text : slice_range bytes at end ≡ wire ss = ap (λ n. take n (drop at bytes)) size ∙ (there.0.is ∙ in_wire_form ss) in
    let kept : Held (slice_range bytes at end) ss = held (slice_range bytes at end) ss text (all_short ss there.2) in
    record {
      within = omega arith;
      strings = ss;
      read = is;
      form = texts_held (slice_range bytes at end) ss kept there.1;
      same = kept.same;
    }
