-- Types by their numbers.
use Rattle.std.proofs.Common.{◌≡◌, ◌∙◌, ap, ℕ, Bool, true, false, cond, nat_eq, Some, None, List, [], ◌∷◌, arith, refl}
use Rattle.std.proofs.lemmas.Bool.Decides.{nat_tests}
use Rattle.rdata.specs.Types.{type_number, served_types, find_number, type_by}
use Rattle.rdata.specs.Data.{Datum, Ipv4, Ns, Cname, Soa, Ptr, Mx, Txt, Ipv6, Srv, type_of}
use Rattle.rdata.specs.declared.rtype.RType.{RType}
use Rattle.message_grammar.specs.Messages.{internet, served_type}

same_number : (n k : ℕ) → nat_eq n k ≡ true → n ≡ k
same_number n k h = grind (arith, nat_tests)

some_type : (t s : RType) → Some t ≡ Some s → t ≡ s
some_type t s h = cc

found_number : (n : ℕ) (ts : List RType) (t : RType) → find_number n ts ≡ Some t → n ≡ type_number t
found_number n [] t h = absurd (cc)
found_number n (s ∷ ts) t h = by (nat_eq n (type_number s)) refl h (found_number n ts t)
  where
    by : (b : Bool) → nat_eq n (type_number s) ≡ b → cond b (Some s) (find_number n ts) ≡ Some t → (find_number n ts ≡ Some t → n ≡ type_number t) → n ≡ type_number t
    by true same is later = same_number n (type_number s) same ∙ ap type_number (some_type s t is)
    by false other is later = later is

-- The number of the type of a number is that number.
pub type_numbered : (n : ℕ) (t : RType) → type_by n ≡ Some t → n ≡ type_number t
type_numbered n t h = found_number n served_types t h

-- A kept type is of that number, and in class IN.
pub served_numbers : (kind class : ℕ) (t : RType) → served_type kind class ≡ Some t → (kind ≡ type_number t) × (class ≡ internet)
served_numbers kind class t h = by (nat_eq class internet) refl h
  where
    by : (b : Bool) → nat_eq class internet ≡ b → cond b (type_by kind) None ≡ Some t → (kind ≡ type_number t) × (class ≡ internet)
    by true same is = (type_numbered kind t is, same_number class internet same)
    by false other is = absurd (cc)

-- A record of the data that are read is not skipped.
pub data_kept : (d : Datum) → served_type (type_of d) internet ≡ None → ⊥
data_kept (Ipv4 a) h = cc
data_kept (Ns n) h = cc
data_kept (Cname n) h = cc
data_kept (Soa s) h = cc
data_kept (Ptr n) h = cc
data_kept (Mx p n) h = cc
data_kept (Txt ts) h = cc
data_kept (Ipv6 a) h = cc
data_kept (Srv s) h = cc
