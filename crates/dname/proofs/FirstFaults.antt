-- Tokens are refused by the first that is at fault.
use Rattle.std.proofs.Common.{◌≡◌, ℕ, ◌+◌, ◌<◌, ◌≤◌, Bool, false, cond, nat_eq, Ok, Err, List, [], ◌∷◌, ◌++◌, length, refl, sym, ap, ◌∙◌, length-append, arith, inl, inr}
use Rattle.std.proofs.lemmas.List.{nil_from_length}
use Rattle.std.proofs.lemmas.Bool.{cases_lt}
use Rattle.std.proofs.lemmas.Bool.Decides.{nat_tests}
use Rattle.dname.specs.Labels.{wire, folded}
use Rattle.dname.specs.Draft.{Draft, empty_draft, pushed, shut}
use Rattle.dname.specs.declared.text.NameError.{NameError}
use Rattle.dname.specs.declared.text.NameError.TheVariants.{EmptyLabel, LongLabel, LongName, BadByte}
use Rattle.dname.specs.Text.{Token, Dot, Byte, Bad, spelled, after_push}
use Rattle.dname.specs.Spelling.{Faults, empty_label, long_label, long_name, bad_byte, FirstFaultCounts}
use Rattle.dname.proofs.Spellings.{told}

-- No label that stands open has more than 63 bytes.
abbrev Short : Draft → Type 0
Short d = length d.opened ≤ 63

record Found (d : Draft) (ts : List Token) (e : NameError) : Type 0 where
  front : List Token
  t : Token
  later : List Token
  d' : Draft
  all : ts ≡ front ++ t ∷ later
  read : spelled d front ≡ Ok d'
  fault : Faults d' t e

here : (d : Draft) (t : Token) (ts : List Token) (e : NameError) → Faults d t e → Found d (t ∷ ts) e
here d t ts e f = record { front = []; t = t; later = ts; d' = d; all = refl; read = refl; fault = f }

-- One token more in front, which leads to the draft that the others are read behind.
after : (d next : Draft) (t : Token) (ts : List Token) (e : NameError) → ((us : List Token) → spelled d (t ∷ us) ≡ spelled next us) → Found next ts e → Found d (t ∷ ts) e
after d next t ts e step f = record {
  front = t ∷ f.front;
  t = f.t;
  later = f.later;
  d' = f.d';
  all = ap (λ (x : List Token). t ∷ x) f.all;
  read = step f.front ∙ f.read;
  fault = f.fault;
}

abbrev more : Draft → ℕ → Draft
more d b = record { closed = d.closed; opened = d.opened ++ folded b ∷ [] }

dot_step : (d : Draft) → nat_eq (length d.opened) 0 ≡ false → (us : List Token) → spelled d (Dot ∷ us) ≡ spelled (shut d) us
dot_step d f us = ap (λ (z : Bool). cond z (Err EmptyLabel) (spelled (shut d) us)) f

byte_step : (d : Draft) (b : ℕ) → pushed d b ≡ Ok (more d b) → (us : List Token) → spelled d (Byte b ∷ us) ≡ spelled (more d b) us
byte_step d b p us = ap (after_push (λ next. spelled next us)) p

long_label_step : (d : Draft) (b : ℕ) (us : List Token) → 63 ≤ length d.opened → spelled d (Byte b ∷ us) ≡ Err LongLabel
long_label_step d b us h = grind (arith, nat_tests)

long_name_step : (d : Draft) (b : ℕ) (us : List Token) → length d.opened < 63 → 254 ≤ length (wire d.closed) + 1 + length d.opened → spelled d (Byte b ∷ us) ≡ Err LongName
long_name_step d b us few h = grind (arith, nat_tests)

fits_step : (d : Draft) (b : ℕ) → length d.opened < 63 → length (wire d.closed) + 1 + length d.opened < 254 → pushed d b ≡ Ok (more d b)
fits_step d b few room = grind (arith, nat_tests)

found : (d : Draft) (ts : List Token) (e : NameError) → Short d → spelled d ts ≡ Err e → Found d ts e
found d [] e s h = absurd (cc)
found d (Bad ∷ ts) e s h = here d Bad ts e (bad_byte refl (let x : Err BadByte ≡ Err e = h in cc))
found d (Dot ∷ ts) e s h = elim (told (nat_eq (length d.opened) 0)) [
  | inl t ↦ here d Dot ts e (empty_label refl (nil_from_length d.opened (grind (arith, nat_tests))) (let x = ap (λ (z : Bool). cond z (Err EmptyLabel) (spelled (shut d) ts)) (sym t) ∙ h in cc))
  | inr f ↦ after d (shut d) Dot ts e (dot_step d f) (found (shut d) ts e (omega arith) (sym (dot_step d f ts) ∙ h))
]
found d (Byte b ∷ ts) e s h = elim (cases_lt (length d.opened) 63) [
  | inl few ↦ elim (cases_lt (length (wire d.closed) + 1 + length d.opened) 254) [
    | inl room ↦ let p = fits_step d b few room in
        after d (more d b) (Byte b) ts e (byte_step d b p) (found (more d b) ts e (omega (arith, length-append d.opened (folded b ∷ []))) (sym (byte_step d b p ts) ∙ h))
    | inr full ↦ here d (Byte b) ts e (long_name b refl few (omega (arith, length-append d.opened (b ∷ []))) (let x = sym (long_name_step d b ts few full) ∙ h in cc))
  ]
  | inr many ↦ here d (Byte b) ts e (long_label b refl (omega arith) (let x = sym (long_label_step d b ts many) ∙ h in cc))
]

-- What is read goes on where it ends.
goes_on : (d d' : Draft) (front us : List Token) → spelled d front ≡ Ok d' → spelled d (front ++ us) ≡ spelled d' us
goes_on d d' [] us h = ap (λ (x : Draft). spelled x us) (cc)
goes_on d d' (Bad ∷ ts) us h = absurd (cc)
goes_on d d' (Dot ∷ ts) us h = elim (told (nat_eq (length d.opened) 0)) [
  | inl t ↦ absurd (let x = ap (λ (z : Bool). cond z (Err EmptyLabel) (spelled (shut d) ts)) (sym t) ∙ h in cc)
  | inr f ↦ dot_step d f (ts ++ us) ∙ goes_on (shut d) d' ts us (sym (dot_step d f ts) ∙ h)
]
goes_on d d' (Byte b ∷ ts) us h = elim (cases_lt (length d.opened) 63) [
  | inl few ↦ elim (cases_lt (length (wire d.closed) + 1 + length d.opened) 254) [
    | inl room ↦ let p = fits_step d b few room in byte_step d b p (ts ++ us) ∙ goes_on (more d b) d' ts us (sym (byte_step d b p ts) ∙ h)
    | inr full ↦ absurd (let x = sym (long_name_step d b ts few full) ∙ h in cc)
  ]
  | inr many ↦ absurd (let x = sym (long_label_step d b ts many) ∙ h in cc)
]

faulty : (d : Draft) (t : Token) (us : List Token) (e : NameError) → Faults d t e → spelled d (t ∷ us) ≡ Err e
faulty d t us e (empty_label et o ee) = ap (λ (x : Token). spelled d (x ∷ us)) et
    ∙ (ap (λ (z : Bool). cond z (Err EmptyLabel) (spelled (shut d) us)) (ap (λ (l : List ℕ). nat_eq (length l) 0) o) ∙ ap (λ (x : NameError). Err x) (sym ee))
faulty d t us e (long_label b et o ee) = ap (λ (x : Token). spelled d (x ∷ us)) et ∙ (long_label_step d b us (omega arith) ∙ ap (λ (x : NameError). Err x) (sym ee))
faulty d t us e (long_name b et few full ee) =
    ap (λ (x : Token). spelled d (x ∷ us)) et ∙ (long_name_step d b us few (omega (arith, length-append d.opened (b ∷ []))) ∙ ap (λ (x : NameError). Err x) (sym ee))
faulty d t us e (bad_byte et ee) = ap (λ (x : Token). spelled d (x ∷ us)) et ∙ ap (λ (x : NameError). Err x) (sym ee)

pub both_ways : FirstFaultCounts
both_ways ts e = (
  λ h. let f = found empty_draft ts e (omega arith) h in (f.front, f.t, f.later, f.d', f.all, f.read, f.fault),
  λ w. ap (spelled empty_draft) w.4 ∙ (goes_on empty_draft w.3 w.0 (w.1 ∷ w.2) w.5 ∙ faulty w.3 w.1 w.2 e w.6),
)
